pub mod RunLemmas
pub mod FrontLemmas
pub mod LexerLemmas
