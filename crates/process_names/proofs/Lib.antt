pub mod Views
pub mod BodyViews
pub mod HeardLists
pub mod Phase
pub mod RegionTables
pub mod Walked
