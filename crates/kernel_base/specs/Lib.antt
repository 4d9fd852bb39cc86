pub mod Value
pub mod Facts
pub mod Units
pub mod Reached
