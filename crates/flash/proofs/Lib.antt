pub mod FlashLaws
pub mod BitLaws
pub mod Laws
