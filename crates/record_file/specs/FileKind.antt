-- What a file is, by its length and its first eight bytes.
use Rattle.std.specs.Prelude.{◌≡◌, ℕ, ◌^◌, ◌<◌, ◌≤◌, List, length, take, ⊤, Result, Ok, Err}
use Rattle.router_disk.specs.declared.fault.Failed.{Failed}
use Rattle.record_file.specs.declared.kind.FileKind.{FileKind}
use Rattle.record_file.specs.declared.kind.FileKind.TheVariants as kinds
use Rattle.record_file.specs.Records.{header, IsOtherFile}

-- A file of at most nine bytes was never begun; a longer one has the header, or is not a file of records.
-- Shown by: proofs alone.
abbrev pub IsKind : List ℕ → FileKind → Type 0
IsKind file kinds.Empty = length file ≤ 9
IsKind file (kinds.Records size) = (size ≡ length file) × (9 < length file) × (length file < 2 ^ 63) × (take 8 file ≡ header)
IsKind file kinds.NotOurs = IsOtherFile file
IsKind file kinds.Failed = ⊤

-- The outcome of a look for the disk's count of faults.
-- Shown by: proofs alone.
abbrev pub kind_outcome : FileKind → Result (Unit {0}) Failed
kind_outcome kinds.Empty = Ok tt
kind_outcome (kinds.Records size) = Ok tt
kind_outcome kinds.NotOurs = Ok tt
kind_outcome kinds.Failed = Err (record {})
