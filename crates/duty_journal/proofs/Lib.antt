-- That a batch is read as it is spelled is `batch_format`; what `take_batch` and the law ensure follows from it (Readable). Finding has what
-- readers with a condition return, and Entries the loop that writes operations.
pub mod BatchFormats
pub mod Readable
pub mod Finding
pub mod RecordLemmas
pub mod JournalLemmas
pub mod RedoLemmas
pub mod RecoveryLemmas
pub mod LawLemmas
pub mod NamedLemmas
pub mod AdmitLemmas
pub mod ReplayLemmas
pub mod OpeningLemmas
pub mod CrossingLemmas
pub mod HomeLemmas
