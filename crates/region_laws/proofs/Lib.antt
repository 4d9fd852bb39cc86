pub mod Traces
pub mod Expressions
pub mod Outcomes
pub mod Statements
pub mod Bodies
pub mod Following
pub mod RegionLocations
