pub mod TableLaws
pub mod DigitLaws
pub mod PairLaws
pub mod Laws
