pub mod PartLaws
pub mod LengthLaws
pub mod RuleLaws
pub mod OnlyLaws
pub mod TestLaws
pub mod PassLaws
pub mod Laws
