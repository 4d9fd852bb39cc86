pub mod Scalar
pub mod Place
pub mod Numbered
pub mod Spots
pub mod Overlap
pub mod Outcome
pub mod Words
pub mod Apart
