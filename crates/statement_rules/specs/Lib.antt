pub mod Grounds
pub mod Views
pub mod Steps
pub mod Spelled
