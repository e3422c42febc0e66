pub mod LinesLaws
pub mod ReadingLaws
pub mod FillLaws
pub mod AnswerLaws
pub mod FileLaws
pub mod RefusalLaws
pub mod Laws
