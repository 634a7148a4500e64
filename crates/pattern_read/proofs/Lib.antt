-- Faults in words that are facts (`IsWildcard`, an operand) cannot be decided in a definition that computes: one list of checks with
-- `Passes`, where
-- `AllPass` and `IsFirst` are recursions, can. What comes after the first fault needs no decision.
-- A reader's clause is one definition by cases on its result (`Gives view Means checks`). That the earlier checks pass follows by
-- `pattern_passes`.
-- A loop keeps two facts over what is left: `goes_on` and `reports`. Paths grow upward: `under key` maps over the checks, and `IsFirst`
-- goes along it.
-- Own measures: four times the size of the tree, plus the rank of the function, with "what is left is no larger" in the invariants.
-- The fault of an exit by `?` is `c.in_err-x.field-0.0`. That a text spells one prefix needs two lemmas on slashes, since those of
-- leaf_match are private.
pub mod CheckLemmas
pub mod PassLemmas
pub mod MadeLemmas
pub mod OneLeafLemmas
pub mod OneLemmas
pub mod SoundLemmas
pub mod LoopLemmas
pub mod ExcludedLemmas
pub mod RefusalLemmas
pub mod NumericLemmas
pub mod CountLemmas
pub mod BuildLemmas
pub mod ReadLemmas
