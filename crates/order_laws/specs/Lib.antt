pub mod Orders
pub mod Counters
pub mod Counted
pub mod Texts
