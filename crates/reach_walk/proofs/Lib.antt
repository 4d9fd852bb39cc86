pub mod Grouping
pub mod Joining
pub mod Measuring
pub mod ProgramMeasures
pub mod Showing
pub mod Walking
