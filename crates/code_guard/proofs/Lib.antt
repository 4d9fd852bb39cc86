pub mod EachItem
pub mod Belonging
pub mod KnownHeights
pub mod FoundHeights
pub mod Keeping
