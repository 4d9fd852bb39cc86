pub mod OfChecks
pub mod OriginLists
pub mod RisingRows
pub mod Views
