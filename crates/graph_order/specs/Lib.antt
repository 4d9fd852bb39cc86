pub mod Needs
pub mod Placing
