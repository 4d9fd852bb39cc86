pub mod CheckRules
pub mod Firsts
pub mod OriginTrees
pub mod Told
pub mod Uses
pub mod Walks
