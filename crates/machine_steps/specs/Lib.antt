pub mod Views
pub mod Stepping
pub mod Ending
pub mod Rooms
pub mod Answering
pub mod Asking
pub mod Taking
