-- Each private clause is `IsTrue result ↔ (some view satisfies ..)`, with no recursion of specs/ that copies the code's: each exit moves a
-- tuple.
-- Views of an object's members are joined by one lemma (`members_joined`), for any `asked : key → value → Type`; fields by `node_joined`.
-- A missing member, and one without a view, is the object without members: `value_at` is total.
-- The list of what is wanted is passed on whole, with the key to look for: "all cells with this key" is a recursion on the list, and the
-- measure is linear (`wants_weight`). The cells are stack frames: an enum with `#[derive(Drop)]` that refers to itself through a `&` with a
-- lifetime; a reference that was handed in is lent again as `&*found`. Contracts see it by the fold of the enum, with `f.now` and
-- `rest.now`.
-- Work that is left, as a list of stack frames (`Todo`), makes the recursion one function that calls itself alone; `fold-roll-Todo` gives
-- each cell.
-- `Decides` ranges over every set of absent paths and every place, so the code passes no path along.
-- A key that comes twice matters only if the value has more than one view, so no property of the pattern is required.
-- A parameter by value that holds references is `x.entry` in an `ensures`. `&*key` of a `&str` is seen as `take (length key) key`.
-- In a cycle `c.requires.1.0` is the measure and `c.requires.1.1` the clauses. Pass an `Option<i64>` on as it came: a helper's `i64` is
-- `to_z (of_z ..)`.
pub mod LeafLemmas
pub mod AnyLemmas
pub mod ViewLemmas
pub mod NumberLemmas
pub mod AbsentLemmas
pub mod KnownLemmas
pub mod PathLemmas
pub mod WalkLemmas
pub mod SizeLemmas
pub mod PatternLemmas
pub mod FrameLemmas
pub mod MeaningLemmas
pub mod GatherLemmas
pub mod UnseenLemmas
pub mod AlternativesLemmas
pub mod QuickLemmas
