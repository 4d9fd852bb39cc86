pub mod ItemLemmas
pub mod StatementLemmas
pub mod TreeViews
