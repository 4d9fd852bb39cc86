pub mod Lists
pub mod Alike
pub mod Bodies
pub mod Items
pub mod Sums
pub mod Texts
pub mod Ranges
pub mod Turns
