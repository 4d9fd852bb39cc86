pub mod Heads
pub mod Parameters
pub mod Few
