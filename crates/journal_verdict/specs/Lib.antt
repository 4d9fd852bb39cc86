pub mod Judgements
pub mod Lines
