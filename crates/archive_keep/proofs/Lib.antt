-- Kept events are in the order in which they were accepted, so what has expired is a front: `KeptLemmas` over any test that later events
-- pass once an earlier one does.
pub mod KeptLemmas
pub mod RowLemmas
pub mod PurgeLemmas
