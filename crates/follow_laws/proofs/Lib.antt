pub mod Running
pub mod Stores
pub mod Holding
pub mod Requesting
pub mod Instructions
pub mod LoopRuns
pub mod HandledRuns
pub mod Gathered
