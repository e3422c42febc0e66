pub mod BuiltLaws
pub mod Laws
