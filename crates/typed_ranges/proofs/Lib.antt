pub mod Modes
pub mod Expressions
pub mod Statements
