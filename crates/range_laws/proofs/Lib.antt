pub mod Tests
pub mod Rows
pub mod Expressions
pub mod Statements
pub mod Programs
