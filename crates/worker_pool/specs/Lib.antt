pub mod Logs
pub mod Notes
pub mod Nexts
pub mod Keeping
pub mod Pools
pub mod Gather
pub mod LogPlaces
