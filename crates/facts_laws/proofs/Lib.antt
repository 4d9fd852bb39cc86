pub mod LowestValues
pub mod Facts
