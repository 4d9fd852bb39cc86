pub mod Keyed
pub mod Shuffled
pub mod Queued
pub mod Seated
pub mod Kept
pub mod View
pub mod Serving
