-- Rows in the code, a shorter view in contracts: the invariant says of each row that the view gives it (`IsStoredOf`), and a reader has
-- both equations.
-- A list and its images under a function that keeps names: `map_placed` and `map_without` here, `here_map`, `before_map`, `sorted_unmap` of
-- name_rows.
-- An exit with a refusal: `rw` with the truth values on the way, then `refl`. What a change is allowed for: `kept` and `both_none`, one
-- condition after the other (AllowedLemmas).
-- `IsSoundTarget` does not compute through a change of another field: `targets_still` and `target_still` carry it over.
-- That a record with a filled-in part is stored so again is a lemma by cases on that part alone (`again`).
pub mod RowLemmas
pub mod AllowedLemmas
pub mod SortedLemmas
pub mod ChangeLemmas
pub mod TargetLemmas
pub mod LawLemmas
pub mod LossLemmas
pub mod ArchiveLemmas
