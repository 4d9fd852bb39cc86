pub mod Plain
pub mod Values
pub mod Laid
pub mod Grounds
pub mod Known
pub mod Measures
