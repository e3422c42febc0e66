pub mod TableLaws
pub mod OrderLaws
pub mod CarriedLaws
pub mod JudgingLaws
pub mod Laws
