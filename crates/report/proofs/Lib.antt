pub mod AnswerLaws
pub mod Laws
