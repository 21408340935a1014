pub mod AnswerText
pub mod RefusalText
pub mod Refusals
pub mod Each
pub mod Given
pub mod Wanted
