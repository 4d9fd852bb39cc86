pub mod PowersetLemmas
pub mod PlaceLemmas
