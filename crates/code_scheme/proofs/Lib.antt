pub mod ExprExamples
pub mod StatementExamples
pub mod Lemmas
