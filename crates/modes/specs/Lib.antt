pub mod ModeTree
pub mod Form
pub mod Roots
pub mod Bounds
pub mod Scalars
pub mod Language
pub mod Similar
pub mod Classes
