pub mod MessageLemmas
pub mod PlaceLemmas
