mod Gates
mod NamedModes
mod PlainGrounds
mod FewLemmas
mod LaidLemmas
pub mod FoundModes
