pub mod Rows
pub mod Defining
