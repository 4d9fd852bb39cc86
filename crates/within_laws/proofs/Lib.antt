pub mod Parts
pub mod Walk
pub mod Items
pub mod Owners
pub mod Seen
pub mod Text
