pub mod LineLaws
pub mod Laws
