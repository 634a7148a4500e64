pub mod NameOrder
pub mod RowLemmas
pub mod SearchLemmas
pub mod BlockLemmas
