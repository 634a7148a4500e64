-- For crates above: `value_at-placed`, `value_at-without_other`, `value_at-without_same`, `sorted_placed`, `length-placed` of EntryLemmas.
-- Only the outer type has a model. Private clauses name `entries` of the data type that is generated for the recursive enum.
-- A rotation is a relation by cases on the side that goes up (`LiftsLower`); what it does to entries and to heights is one lemma each.
-- Each answer begins with one lemma (`sides`, `avl_sides`), which takes the arm's equation, the fact of the whole and the equation of the
-- `deref`.
-- With `length (entries tree)` as the measure `search rules` proves its part of a recursive call's `requires`; with the depth it did not.
-- Heights saturate, so balance needs no bound on the entries: its clauses begin with `length .. < 2 ^ 63 →`, and the invariant counts
-- insertions.
-- `ensures*` with `Lends` proves for a field behind a `Box` in a struct with a model, and not for a function that calls itself.
pub mod EntryLemmas
pub mod TreeLemmas
pub mod BalanceLemmas
