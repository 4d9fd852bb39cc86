pub mod Parts
pub mod Numbering
pub mod Exceptions
pub mod Expressions
pub mod Statements
pub mod Modulions
pub mod Elaborated
