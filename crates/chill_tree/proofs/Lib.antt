pub mod SpellingLemmas
pub mod ExprViews
pub mod ItemViews
pub mod ModeViews
pub mod StatementViews
