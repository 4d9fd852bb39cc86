pub mod Nodes
pub mod ModeNodes
pub mod Sizes
