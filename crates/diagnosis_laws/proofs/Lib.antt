pub mod Grounds
pub mod Lists
