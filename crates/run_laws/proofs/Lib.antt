pub mod Retiming
pub mod Following
pub mod Births
pub mod Regions
pub mod Occupied
pub mod Holding
pub mod OpenRegions
pub mod HeldRegions
