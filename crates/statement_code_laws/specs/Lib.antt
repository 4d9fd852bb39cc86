pub mod Parts
pub mod Conditions
pub mod Actions
pub mod StatementForms
