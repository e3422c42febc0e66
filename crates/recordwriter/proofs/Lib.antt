pub mod LineLaws
pub mod PartLaws
