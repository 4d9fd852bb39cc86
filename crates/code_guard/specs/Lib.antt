pub mod Owners
pub mod Fitting
pub mod Heights
pub mod Guarding
