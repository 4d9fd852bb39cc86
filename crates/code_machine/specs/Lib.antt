pub mod Equipment
pub mod Running
