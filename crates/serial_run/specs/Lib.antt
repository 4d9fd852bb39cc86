pub mod Coming
pub mod Standing
pub mod Driven
pub mod Suiting
