pub mod Powersets
pub mod Layouts
