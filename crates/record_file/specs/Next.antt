-- What comes next in a file of records.
use Rattle.std.specs.Prelude.{◌≡◌, ◌≢◌, ℕ, ◌+◌, ◌^◌, ◌<◌, ◌≤◌, List, [], ◌∷◌, ◌++◌, length, take, drop, ⊤, Some, Result, Ok, Err}
use Rattle.router_disk.specs.declared.fault.Failed.{Failed}
use Rattle.router_disk.specs.declared.disk_call.DiskCall.{DiskCall}
use Rattle.router_disk.specs.Disk.{AreAnswers, file_of}
use Rattle.record_file.specs.declared.find.Head.{Head}
use Rattle.record_file.specs.declared.find.Head.TheVariants as heads
use Rattle.record_file.specs.declared.find.Found.{Found}
use Rattle.record_file.specs.declared.find.Found.TheVariants as founds
use Rattle.record_file.specs.declared.scan.Next.{Next}
use Rattle.record_file.specs.declared.scan.Next.TheVariants as nexts
use Rattle.record_file.specs.declared.scan.Scan.{Scan}
use Rattle.record_file.specs.declared.window.Reached.{Reached}
use Rattle.record_file.specs.declared.window.Reached.TheVariants as reacheds
use Rattle.record_file.specs.Records.{length_bytes, records, HasRecords, HasNoRecord}
use Rattle.record_file.specs.State.{payload_of}

-- a gate's byte and the length after it
abbrev pub IsHead : List ℕ → Head → Type 0
IsHead bytes heads.Closed = (gate : ℕ) × (rest : List ℕ) × (bytes ≡ gate ∷ rest) × (gate ≢ 1)
IsHead bytes heads.Short = (rest : List ℕ) × (bytes ≡ 1 ∷ rest) × (length rest < 8)
IsHead bytes (heads.Length len) = (bytes ≡ 1 ∷ length_bytes len) × (len < 2 ^ 64)

-- What is at a place of the file: a record of a payload of this length with a gate after it, a closed gate, or an open gate with no record.
-- Shown by: proofs alone.
abbrev pub IsFoundAt : List ℕ → ℕ → Found → Type 0
IsFoundAt file place (founds.Record len) = (gate : ℕ) × (rest : List ℕ)
    × (drop place file ≡ 1 ∷ (length_bytes len ++ (take len (drop (place + 9) file) ++ (gate ∷ rest))))
    × (length (take len (drop (place + 9) file)) ≡ len)
IsFoundAt file place founds.Closed = (gate : ℕ) × (rest : List ℕ) × (drop place file ≡ gate ∷ rest) × (gate ≢ 1)
IsFoundAt file place founds.Damaged = (rest : List ℕ) × (drop place file ≡ 1 ∷ rest) × HasNoRecord rest
IsFoundAt file place founds.Failed = ⊤
IsFoundAt file place founds.NoMemory = ⊤

-- what becomes of an open gate and a length after it, in a file of this size
abbrev pub PayloadIs : ℕ → ℕ → ℕ → Found → Type 0
PayloadIs size place len (founds.Record n) = (n ≡ len) × (place + 9 + len < size)
PayloadIs size place len founds.Closed = ⊥
PayloadIs size place len founds.Damaged = size ≤ place + 9 + len
PayloadIs size place len founds.Failed = ⊤
PayloadIs size place len founds.NoMemory = ⊤

-- What a scan met: a record, whose payload it shows and after which there is a gate; a closed gate; or an open gate with no record.
-- Shown by: proofs alone.
abbrev pub IsNext : List ℕ → Scan → Next → Type 0
IsNext file s nexts.Record = (gate : ℕ) × (rest : List ℕ) × HasRecords s.first file (s.found ++ payload_of s ∷ []) gate rest
    × (s.next_place ≡ s.first + length (records (s.found ++ payload_of s ∷ [])))
IsNext file s nexts.Closed = (gate : ℕ) × (rest : List ℕ) × HasRecords s.first file s.found gate rest × (gate ≢ 1)
IsNext file s nexts.Damaged = (rest : List ℕ) × HasRecords s.first file s.found 1 rest × HasNoRecord rest
IsNext file s nexts.Failed = ⊤
IsNext file s nexts.NoMemory = ⊤

-- A scan that met a closed gate.
-- Shown by: proofs alone.
abbrev pub IsClosedScan : List DiskCall → Scan → Type 0
IsClosedScan calls s = (first file : List ℕ) → AreAnswers first calls → file_of first calls ≡ Some file → IsNext file s nexts.Closed

-- the outcomes for the disk's count of faults: out of memory is no fault
abbrev pub reached_outcome : Reached → Result (Unit {0}) Failed
reached_outcome reacheds.Ready = Ok tt
reached_outcome reacheds.Failed = Err (record {})
reached_outcome reacheds.NoMemory = Ok tt

abbrev pub found_outcome : Found → Result (Unit {0}) Failed
found_outcome (founds.Record len) = Ok tt
found_outcome founds.Closed = Ok tt
found_outcome founds.Damaged = Ok tt
found_outcome founds.Failed = Err (record {})
found_outcome founds.NoMemory = Ok tt

-- The outcome of a scan's step for the disk's count of faults: out of memory is no fault.
-- Shown by: proofs alone.
abbrev pub next_outcome : Next → Result (Unit {0}) Failed
next_outcome nexts.Record = Ok tt
next_outcome nexts.Closed = Ok tt
next_outcome nexts.Damaged = Ok tt
next_outcome nexts.Failed = Err (record {})
next_outcome nexts.NoMemory = Ok tt
