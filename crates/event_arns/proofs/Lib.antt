pub mod ArnLemmas
