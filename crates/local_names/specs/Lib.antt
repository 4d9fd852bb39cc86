pub mod Found
pub mod Bracketed
