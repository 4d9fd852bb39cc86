pub mod Fits
pub mod Placed
pub mod Stepping
pub mod Ties
