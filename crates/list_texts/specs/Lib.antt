pub mod Instructions
pub mod Code
pub mod Paths
pub mod Layouts
