mod BitLaws
pub mod HeaderLaws
pub mod TraceLaws
pub mod CostLaws
pub mod Laws
