-- What holds of all rules of a sound set is shown of the whole list afterwards, by one induction along the definition (`few_all`), and not
-- in the loop.
-- Two matches whose values are joined (`verdict`, then `targets`): a function for each, with its own clause.
pub mod MatchingLemmas
pub mod DutyLemmas
pub mod OnceLemmas
pub mod SeenArchiveLemmas
