pub mod Expressing
pub mod Giving
pub mod Parts
