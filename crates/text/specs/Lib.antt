pub mod AnswerLine
pub mod Law
