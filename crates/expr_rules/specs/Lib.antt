pub mod Grounds
pub mod Known
pub mod Views
pub mod Steps
pub mod Shapes
pub mod Counted
