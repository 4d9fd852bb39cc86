pub mod Phase
pub mod Table
pub mod Kept
