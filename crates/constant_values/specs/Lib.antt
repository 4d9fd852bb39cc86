pub mod Fits
pub mod Comparisons
pub mod Sets
pub mod Operands
