pub mod Stretches
pub mod Closed
pub mod Counts
pub mod StatementCounts
pub mod Things
pub mod Laws
