pub mod Causes
pub mod OneAnswer
pub mod Readings
pub mod TellingLemmas
