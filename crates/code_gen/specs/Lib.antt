pub mod Lowest
pub mod Facts
pub mod Bodies
pub mod Compiled
