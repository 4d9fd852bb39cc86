pub mod Faults
pub mod Heights
pub mod PlainHeights
pub mod Appended
pub mod Lawful
