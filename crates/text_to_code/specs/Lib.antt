pub mod Building
pub mod Telling
