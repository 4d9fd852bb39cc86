pub mod Buffers
pub mod ListedThings
pub mod Fronts
