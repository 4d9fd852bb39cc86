pub mod ModeViews
pub mod Capped
pub mod LowestLemmas
pub mod FieldLemmas
pub mod SimilarLemmas
pub mod ClassLemmas
pub mod SimilarLaws
