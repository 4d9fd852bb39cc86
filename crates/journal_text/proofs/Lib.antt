pub mod Loops
pub mod Fields
pub mod Joined
pub mod Requests
pub mod Events
pub mod Whole
