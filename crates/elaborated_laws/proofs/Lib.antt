pub mod Told
pub mod Constants
pub mod Modes
pub mod Table
pub mod Classes
pub mod Entries
pub mod Rows
