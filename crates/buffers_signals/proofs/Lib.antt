pub mod Arrivals
pub mod Choosing
pub mod Distinct
pub mod Firsts
pub mod Hearing
pub mod Pending
