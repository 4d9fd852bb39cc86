pub mod Lines
pub mod PathLemmas
