pub mod Found
pub mod Walks
pub mod Parts
pub mod Tuples
