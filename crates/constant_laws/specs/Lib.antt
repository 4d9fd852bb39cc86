pub mod Values
pub mod Places
pub mod Constants
pub mod Text
