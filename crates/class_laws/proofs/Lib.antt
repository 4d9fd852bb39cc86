pub mod Clean
pub mod Receiving
