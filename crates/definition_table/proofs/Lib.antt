pub mod Uses
pub mod Needed
pub mod WithoutMode
pub mod EntryLemmas
pub mod Synonyms
pub mod GivenLemmas
pub mod Grounds
pub mod FillLemmas
