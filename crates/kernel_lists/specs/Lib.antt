pub mod Best
pub mod First
pub mod Once
pub mod Room
