pub mod Wholes
pub mod Parts
pub mod Places
pub mod Fields
