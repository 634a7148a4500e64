-- One call that reads the tables makes their invariants known to a caller: at the top of a function there are then no answers below.
-- What owns an event at each `?` pays for its drop at each. A helper that takes `&Event` and has the other four `?` is quick.
-- What an action's decision says is an abbreviation by cases (`IsDecidedAs`), with a quantifier only where a policy is read: the other arms
-- prove with no file, and one lemma by cases gives the clause of `decide`.
-- That all events of a batch are admitted is one lemma over the definition of the answer (`are_ready`); the loop carries only their texts
-- and parts.
-- A pair as the fact of an `Any` is one component of the tuple pattern: `(k, row, below, is, (same, other))`. A label is in its goal's
-- name.
pub mod CallLemmas
pub mod DecidedLemmas
pub mod KeptLemmas
pub mod EntryLemmas
pub mod TargetLemmas
pub mod RemovalLemmas
pub mod PolicyLemmas
pub mod OneLemmas
pub mod StepLemmas
pub mod FormLemmas
pub mod AllowedLemmas
pub mod JsonLemmas
