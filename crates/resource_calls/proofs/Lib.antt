-- One call that reads the tables makes their invariants known to a caller: at the top of a function there are then no answers below.
pub mod DecidedLemmas
pub mod QueueLemmas
pub mod ArchiveLemmas
pub mod ReplayLemmas
