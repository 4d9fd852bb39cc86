pub mod Names
pub mod Messages
pub mod Nodes
pub mod Updates
pub mod Sources
pub mod Routines
pub mod Program
