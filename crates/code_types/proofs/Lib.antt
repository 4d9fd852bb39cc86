pub mod ManySteps
pub mod AnswerTest
pub mod Shifts
