pub mod Commands
pub mod Reading
pub mod Runs
pub mod TextRuns
pub mod Plan
pub mod Causes
pub mod Outcomes
