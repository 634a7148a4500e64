-- Each relation over acts is a loop's invariant, since its list grows at the end; there is one lemma for each kind of step.
-- The order: turns (`TurnLemmas`), what holds of a legal history's state (`SteadyLemmas`, `MarkLemmas`), a machine (`BookLemmas`), its board (`BoardLemmas`), acts among turns
-- (`ActLemmas`), the machine's functions (`AnsweredLemmas`, `ClaimLemmas`, `RecordLemmas`, `RepeatLemmas`, `BreakLemmas`), its journal (`FoldLemmas`, `AdmittedLemmas`, `NamingLemmas`,
-- `BatchLemmas`, `EachLemmas`, `HomeLemmas`, `OpenLemmas`), and the book's functions (`SoundLemmas`).
-- A pass's claims change only at its own turns, whatever others do (`claims_stay`); that a claim's duty waits for it is in the state of each legal history.
-- A law in a trait that needs lemmas cannot be stated in specs: `OwesNothing` speaks of all longer histories for this reason.
pub mod ActLemmas
pub mod AdmittedLemmas
pub mod AnsweredLemmas
pub mod BoardLemmas
pub mod BatchLemmas
pub mod BookLemmas
pub mod BreakLemmas
pub mod ClaimLemmas
pub mod EachLemmas
pub mod FoldLemmas
pub mod HomeLemmas
pub mod KeptLemmas
pub mod MarkLemmas
pub mod MovingLemmas
pub mod NamingLemmas
pub mod OpenLemmas
pub mod PendingLemmas
pub mod RecordLemmas
pub mod RepeatLemmas
pub mod ResultLemmas
pub mod SoundLemmas
pub mod SteadyLemmas
pub mod TurnLemmas
pub mod WrittenLemmas
