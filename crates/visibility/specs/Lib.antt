pub mod Resolves
pub mod Tested
pub mod Found
