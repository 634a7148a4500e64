-- `OwesLemmas`: a pass that made no turn owes nothing to its hall, and neither does it once it knows more of the history.
pub mod OwesLemmas
