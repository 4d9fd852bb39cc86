pub mod Findings
pub mod Measures
pub mod SameGroups
