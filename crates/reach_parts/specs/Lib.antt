pub mod BracketedParts
pub mod Labels
