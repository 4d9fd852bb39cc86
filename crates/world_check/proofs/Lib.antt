pub mod PowersetsInValues
pub mod Waiters
pub mod Signals
pub mod Sound
pub mod Digits
