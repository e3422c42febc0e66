pub mod ComparisonLaws
pub mod Laws
