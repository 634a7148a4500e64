-- What a file of records, and a scan of it, show.
use Rattle.std.specs.Prelude.{◌≡◌, ◌≢◌, ℕ, ◌+◌, ◌-◌, ◌^◌, ◌<◌, ◌≤◌, List, ◌++◌, length, take, drop, false, ⊤, Some, Result, Ok, Err, OnOk, OnErr}
use Rattle.std.specs.List.{flat_map, AllByRecursion}
use Rattle.router_disk.specs.declared.disk_call.DiskCall.{DiskCall}
use Rattle.router_disk.specs.declared.disk_call.DiskCall.TheVariants.{Size, Read, Write, Cut, Sync}
use Rattle.router_disk.specs.Faults.{Rose}
use Rattle.router_disk.specs.Disk.{AreAnswers, file_of}
use Rattle.record_file.specs.declared.record_file.RecordFile.{RecordFile}
use Rattle.record_file.specs.declared.window.Window.{Window}
use Rattle.record_file.specs.declared.scan.Scan.{Scan}
use Rattle.record_file.specs.Records.{first_gate, header, records, HasRecords}
use Rattle.record_file.specs.Kept.{IsSettled}

-- The payloads that a file of records has found and appended, in order.
-- Shown by: proofs alone.
abbrev pub payloads_of : {D : Type 0} → RecordFile D → List (List ℕ)
payloads_of f = flat_map (λ pair. pair.0) f.appended.items

-- A read gives a file of these payloads, with its first gate at one place, after the header, and the closed gate at another; a crash leaves
-- nothing else.
-- Shown by: proofs alone.
pub record IsAtRest (at : ℕ) (first : List ℕ) (calls : List DiskCall) (payloads : List (List ℕ)) (place : ℕ) : Type 0 where
  pub file : List ℕ
  pub settled : IsSettled first calls file
  pub begins : take 8 file ≡ header
  pub after : 8 ≤ at
  pub gate : ℕ
  pub rest : List ℕ
  pub has : HasRecords at file payloads gate rest
  pub closed : gate ≢ 1
  pub gate_place : place ≡ at + length (records payloads)
  pub low : place < 2 ^ 63

-- A file of records is at rest between its calls, up to the first call that failed.
-- Shown by: written_after_a_fault.edit.
abbrev pub IsSound : {D : Type 0} → (D → List DiskCall) → RecordFile D → Type 0
IsSound calls f =
    f.broken ≡ false → (first : List ℕ) → AreAnswers first (calls f.disk) → IsAtRest first_gate first (calls f.disk) (payloads_of f) f.gate

-- A call that changes nothing: a read, or a call for the length.
-- Shown by: proofs alone.
abbrev pub IsLook : DiskCall → Type 0
IsLook (Size answer) = ⊤
IsLook (Read at bytes answer) = ⊤
IsLook (Write at bytes answer) = ⊥
IsLook (Cut len answer) = ⊥
IsLook (Sync answer) = ⊥

-- Only calls that change nothing were made.
-- Shown by: proofs alone.
abbrev pub OnlyLooks : List DiskCall → List DiskCall → Type 0
OnlyLooks old new = (more : List DiskCall) × (new ≡ old ++ more) × AllByRecursion IsLook more

-- What a call does to the count of a disk's faults: a failure raises it, and nothing else changes it.
-- Shown by: proofs alone.
pub record Counts {T E : Type 0} (before now : ℕ) (result : Result T E) : Type 0 where
  pub later : before ≤ now
  pub rose : OnErr result (Rose before now)
  pub same : OnOk result (now ≡ before)

-- A window has the bytes of a file from its place on.
-- Shown by: proofs alone.
abbrev pub IsWindowOf : List ℕ → Window → Type 0
IsWindowOf file w = w.bytes.items ≡ take (length w.bytes.items) (drop w.at file)

-- A window covers so many bytes from a place on.
-- Shown by: proofs alone.
abbrev pub Covers : Window → ℕ → ℕ → Type 0
Covers w at len = (w.at ≤ at) × (at + len ≤ w.at + length w.bytes.items)

-- the bytes of a window from a place of the file on
abbrev pub piece_of : Window → ℕ → ℕ → List ℕ
piece_of w at len = take len (drop (at - w.at) w.bytes.items)

-- The payload that a scan shows.
-- Shown by: proofs alone.
abbrev pub payload_of : Scan → List ℕ
payload_of s = piece_of s.window s.payload_at s.payload_len

-- A scan is at a gate of a file, after the payloads that were admitted.
-- Shown by: proofs alone.
pub record IsScanOf (file : List ℕ) (s : Scan) : Type 0 where
  pub long : s.first + 1 < length file
  pub short : length file < 2 ^ 63
  pub begins : take 8 file ≡ header
  pub size : s.size ≡ length file
  pub window : IsWindowOf file s.window
  pub gate : ℕ
  pub rest : List ℕ
  pub has : HasRecords s.first file s.found gate rest
  pub place : s.place ≡ s.first + length (records s.found)
  pub count : s.count ≡ length s.found

-- A scan of what a disk's reads give, if that is known and the answers are those of the model.
-- Shown by: proofs alone.
abbrev pub IsScan : List DiskCall → Scan → Type 0
IsScan calls s = (first file : List ℕ) → AreAnswers first calls → file_of first calls ≡ Some file → IsScanOf file s

-- A disk whose reads give a file of at most nine bytes.
-- Shown by: proofs alone.
abbrev pub IsEmptyFile : List DiskCall → Type 0
IsEmptyFile calls = (first file : List ℕ) → AreAnswers first calls → file_of first calls ≡ Some file → length file ≤ 9

-- The disk, whether its file could be begun or not.
-- Shown by: proofs alone.
abbrev pub disk_in : {D : Type 0} → Result (RecordFile D) D → D
disk_in (Ok f) = f.disk
disk_in (Err disk) = disk
