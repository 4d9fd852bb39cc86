pub mod Lists
pub mod Arrivals
pub mod Buffers
pub mod Signals
pub mod Ranks
pub mod Steps
pub mod Pending
