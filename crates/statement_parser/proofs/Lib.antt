pub mod Counts
pub mod Labels
pub mod Levels
