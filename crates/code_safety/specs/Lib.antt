pub mod Standing
pub mod Laws
pub mod Needs
pub mod Weights
pub mod Talks
pub mod Leading
