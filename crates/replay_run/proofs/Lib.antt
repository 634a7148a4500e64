-- Events in the order of their times are known by those of each time: a stable sort and the definition have both.
pub mod SelectionLemmas
pub mod ReplayLemmas
pub mod ReplaysLemmas
