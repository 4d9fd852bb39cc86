pub mod Sites
pub mod BodyViews
pub mod SharedPlaces
pub mod Capped
pub mod Calls
