pub mod Receiving
pub mod Journal
