pub mod MixtureLaws
pub mod BenchLaws
pub mod Laws
