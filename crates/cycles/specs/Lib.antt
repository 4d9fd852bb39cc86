pub mod Depends
pub mod Following
pub mod Groups
pub mod Marks
pub mod Stars
pub mod Testing
