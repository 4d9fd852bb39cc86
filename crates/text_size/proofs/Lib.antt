pub mod ExprLemmas
pub mod ModeLemmas
pub mod StatementLemmas
pub mod ItemLemmas
