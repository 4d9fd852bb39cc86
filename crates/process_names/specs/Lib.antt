pub mod Rules
pub mod Heard
pub mod Walk
pub mod Bracketed
pub mod Phase
