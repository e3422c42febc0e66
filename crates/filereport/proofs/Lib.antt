pub mod FileLaws
pub mod FitLaws
pub mod Laws
