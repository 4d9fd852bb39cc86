pub mod Listing
pub mod Order
pub mod Rules
