-- What an append does.
use Rattle.std.specs.Prelude.{◌≡◌, ◌⊎◌, ℕ, ◌+◌, ◌-◌, ◌^◌, min, List, [], ◌∷◌, ◌++◌, length, Result, Ok, Err, MatchResult}
use Rattle.router_disk.specs.declared.disk_call.DiskCall.{DiskCall}
use Rattle.router_disk.specs.declared.disk_call.DiskCall.TheVariants.{Write, Sync}
use Rattle.router_disk.specs.declared.fault.Failed.{Failed}
use Rattle.router_disk.specs.Disk.{AreAnswers, IsImageSince}
use Rattle.record_file.specs.Records.{IsFileOf}
use Rattle.record_file.specs.Kept.{IsKept}

-- The calls of a write and a sync after it. If the write failed, no sync follows.
-- Shown by: acknowledged_before_second_sync.edit.
abbrev pub IsWritten : List DiskCall → ℕ → List ℕ → Result (Unit {0}) Failed → List DiskCall → Type 0
IsWritten old at bytes (Ok done) new = new ≡ old ++ Write at bytes (Ok tt) ∷ Sync (Ok tt) ∷ []
IsWritten old at bytes (Err fault) new =
    (new ≡ old ++ Write at bytes (Err fault) ∷ []) ⊎ (new ≡ old ++ Write at bytes (Ok tt) ∷ Sync (Err fault) ∷ [])

-- the last u64
abbrev pub last : ℕ
last = 2 ^ 64 - 1

-- The calls of an append at a closed gate: the text is laid after the gate, and then the gate is opened, each by a write and a sync.
-- Shown by: record_over_the_gate.edit.
abbrev pub AreAppended : List DiskCall → ℕ → List ℕ → Result (Unit {0}) Failed → List DiskCall → Type 0
AreAppended old gate text (Ok done) new =
    (mid : List DiskCall) × IsWritten old (min (gate + 1) last) text (Ok tt) mid × IsWritten mid gate (1 ∷ []) (Ok tt) new
AreAppended old gate text (Err fault) new =
    IsWritten old (min (gate + 1) last) text (Err fault) new
    ⊎ ((mid : List DiskCall) × IsWritten old (min (gate + 1) last) text (Ok tt) mid × IsWritten mid gate (1 ∷ []) (Err fault) new)

-- The calls before an append stay. If it succeeds it has made four more: a write and a sync, twice.
-- Shown by: acknowledged_before_second_sync.edit.
abbrev pub MadeCalls : {T E : Type 0} → List DiskCall → List DiskCall → Result T E → Type 0
MadeCalls old new (Ok done) = (more : List DiskCall) × (new ≡ old ++ more) × (length more ≡ 4)
MadeCalls old new (Err fault) = (more : List DiskCall) × (new ≡ old ++ more)

-- A crash at any moment of an append, or between it and the next call, leaves a file of the payloads before it, or of these and all of
-- its own.
-- Shown by: acknowledged_before_second_sync.edit; record_over_the_gate.edit.
abbrev pub LeavesBoth : List DiskCall → List DiskCall → List (List ℕ) → List (List ℕ) → Type 0
LeavesBoth old new before more = (first : List ℕ) → AreAnswers first new → (image : List ℕ) → IsImageSince first new (length old) image →
    IsFileOf image before ⊎ IsFileOf image (before ++ more)

-- What was kept before an append is kept after it: if it succeeded all payloads are safe, its own too; if it failed, those before it.
-- Shown by: proofs alone.
abbrev pub StaysKept : List DiskCall → List DiskCall → List (List ℕ) → List (List ℕ) → Result (Unit {0}) Failed → Type 0
StaysKept old new before more result = (first : List ℕ) (found : List (List ℕ)) (since : ℕ) → AreAnswers first new →
    IsKept first old found since before before →
    MatchResult result
    (λ _. IsKept first new found since (before ++ more) (before ++ more))
    (λ _. IsKept first new found since before (before ++ more))
