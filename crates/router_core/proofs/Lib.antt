-- Entries applied one after the other, each with its part: the invariant is one record (`IsLeft`), and the entries that are left are a
-- parameter of it.
-- Each step is one lemma (`left_next`); the step's own lemma goes by cases on the entry.
-- CrossingLemmas: a lemma `IsSend X.the_row` for each type; the parts' lemmas are `TheSendSync` of a type's module, and `TheLaws.TheKnot`
-- of one that
-- contains itself. A tree of key_tree needs `tree.crosses` and `IsSend (node.the_row u64)`; a `LinkedList` its own `TheSendSync`; a
-- `Snapshot` is `Send`.
-- A law that another crate's proof needs is a lemma of a `pub mod`; a law function alone cannot be cited. `counts()` gives a caller
-- `ordered`.
pub mod TimeLemmas
pub mod StartLemmas
mod KeepingLemmas
mod TablesLemmas
mod BatchLemmas
mod ClaimLemmas
mod SettleLemmas
mod RepeatedLemmas
mod ReplayingLemmas
pub mod CrossingLemmas
pub mod MovingLemmas
