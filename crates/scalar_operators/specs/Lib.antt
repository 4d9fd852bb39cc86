pub mod Numbers
pub mod Powersets
pub mod Members
