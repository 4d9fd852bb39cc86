pub mod Answers
pub mod MetByNumber
pub mod Telling
pub mod ByNames
pub mod Waiting
pub mod Asked
