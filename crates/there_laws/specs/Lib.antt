pub mod Constants
pub mod Shapes
pub mod Modes
pub mod Table
pub mod Told
pub mod Plain
pub mod Names
