-- A `match` on a text with all names as literals, and the chain of `bytes_eq` in `named_operation`, prove with no file.
-- At most one request: what members mean is a function, so only four operations need a lemma.
pub mod ActionLemmas
pub mod TargetLemmas
pub mod CallLemmas
pub mod EntitledLemmas
pub mod BoundLemmas
