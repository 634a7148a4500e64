-- Everything goes by names: for each bus and each name of a rule, what the board has is what the rule set has (`AreMatchersOf`). So each change
-- is one lemma on the name that it is about and one on all others (`Changes`), and only a match needs lists: two sorted lists with the same
-- names are one (`aligned` of AlignLemmas).
-- That no two rules have one number is said of names, and not of places: it survives `placed` and `without` by the lemmas on rows.
-- An arm of several patterns gives a sum of equations: one answer by `elim` serves all (`proofs/board/Board/after`).
-- CrossingLemmas: as in router_core; a struct without a view is `the_row` in a `Vec` or an `Arc`, and `(the_field).row` as a field.
mod NumberLemmas
mod EnteredLemmas
mod AlignLemmas
mod FoundLemmas
mod MatcherLemmas
mod ChangeLemmas
mod BuildLemmas
pub mod CrossingLemmas
