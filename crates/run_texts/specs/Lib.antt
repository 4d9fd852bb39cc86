pub mod Processes
pub mod Report
