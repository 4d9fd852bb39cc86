pub mod Requests
pub mod Journals
pub mod Laws
