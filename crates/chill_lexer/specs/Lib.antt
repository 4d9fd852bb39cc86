pub mod Runs
pub mod Front
pub mod Lexer
