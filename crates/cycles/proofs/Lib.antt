pub mod Between
pub mod Bounds
pub mod Cut
pub mod Members
pub mod Reaching
pub mod Runs
pub mod Shown
pub mod Testing
