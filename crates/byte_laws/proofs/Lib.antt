pub mod Tokens
pub mod Exprs
pub mod Statements
pub mod Items
