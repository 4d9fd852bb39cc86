pub mod Putting
pub mod Trees
pub mod Copies
pub mod Puts
pub mod Empty
