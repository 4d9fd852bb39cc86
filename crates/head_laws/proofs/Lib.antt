pub mod Rows
pub mod Modes
pub mod Parameters
pub mod Heads
pub mod Under
pub mod Formals
pub mod Few
