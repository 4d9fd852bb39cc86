pub mod Trees
pub mod Putting
pub mod Counting
pub mod Receiving
pub mod Puts
pub mod WaysOut
