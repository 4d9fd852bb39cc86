pub mod Opening
pub mod Pending
pub mod Numbers
