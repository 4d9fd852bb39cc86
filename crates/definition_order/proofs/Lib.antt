pub mod Circles
pub mod Found
pub mod NameViews
pub mod Waiting
