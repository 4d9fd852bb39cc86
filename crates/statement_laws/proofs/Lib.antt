pub mod Statements
pub mod Arguments
