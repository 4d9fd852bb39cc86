pub mod Waits
pub mod Views
pub mod Bracketed
pub mod Split
