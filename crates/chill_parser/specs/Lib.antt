pub mod Nested
pub mod Parsing
pub mod Tails
