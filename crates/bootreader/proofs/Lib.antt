pub mod AnswerLaws
pub mod TheoremLaws
pub mod Laws
