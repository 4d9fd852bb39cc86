pub mod Arrived
pub mod Kept
