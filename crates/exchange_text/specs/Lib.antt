pub mod Parts
pub mod Exchange
