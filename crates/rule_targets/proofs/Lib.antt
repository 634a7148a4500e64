pub mod CheckLemmas
pub mod InputLemmas
pub mod TargetLemmas
