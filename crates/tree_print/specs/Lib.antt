pub mod Canonical
pub mod ReadBack
pub mod SameTree
pub mod SameProgram
