pub mod Entries
pub mod Filling
