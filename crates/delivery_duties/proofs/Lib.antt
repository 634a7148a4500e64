-- What is true of the lists together is one record over its parts (`IsAccounted`), so each step has one lemma for it.
-- A step that may go two ways (`added_one`) gets one lemma by cases, `added_either`, over any fact.
-- What a loop keeps and only the type's invariant shows (claims stay) is a clause of the step, and not of the definition.
-- Fates: what one number shows is its pending row and its fate. `IsStep k s t` says that an act changes what number `k` shows, and nothing
-- else; from
-- it come "the other states stay" and the invariant (`AreNumbered`), so each act needs one lemma. Counts are a record beside the `Log`
-- (`AreCounted`).
-- One list out of two trees (`by_number`): two entries with different keys are placed in either order (`placed_swap`), and removing one and
-- placing
-- another commute (`without_placed_other`). "No two have one number" is by cases on the list (`AreApart`).
mod RetryLemmas
mod EntryLemmas
mod RowsLemmas
mod OrderLemmas
mod PassLemmas
mod FromLemmas
mod AnyLemmas
mod EndLemmas
mod SoundLemmas
mod StepLemmas
mod AddLemmas
mod SettleLemmas
mod DeadLemmas
mod FateLemmas
pub mod ClaimLemmas
