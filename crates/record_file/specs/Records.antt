-- Files of records: a header of 8 bytes, records, a closed gate, and any rest. A record is an open gate (a byte 1), the length of its
-- payload in 8 bytes, big-endian, and the payload. Every gate but 1 is closed. This project's own format.
use Rattle.std.specs.Prelude.{◌≡◌, ◌≢◌, ◌⊎◌, ℕ, ◌+◌, ◌^◌, ◌<◌, ◌≤◌, List, [], ◌∷◌, ◌++◌, length, take, drop, codes}
use Rattle.std.specs.List.{AllByRecursion}
use Rattle.std.specs.Int.{w64, to_be_bytes}

-- The header: `EBJRNL1` and a line feed.
-- Shown by: proofs alone.
unfoldable pub header : List ℕ
header = codes "EBJRNL1" ++ 10 ∷ []

-- The place of the first gate: after the header.
-- Shown by: proofs alone.
abbrev pub first_gate : ℕ
first_gate = 8

-- A length in 8 bytes, the highest first.
-- Shown by: proofs alone.
unfoldable pub length_bytes : ℕ → List ℕ
length_bytes n = to_be_bytes w64 n

-- A record of a payload.
-- Shown by: proofs alone.
abbrev pub record_bytes : List ℕ → List ℕ
record_bytes payload = 1 ∷ (length_bytes (length payload) ++ payload)

-- The records of payloads, one after the other.
-- Shown by: proofs alone.
abbrev pub records : List (List ℕ) → List ℕ
records [] = []
records (payload ∷ payloads) = record_bytes payload ++ records payloads

-- A payload whose length has 8 bytes.
-- Shown by: proofs alone.
abbrev pub Fits : List ℕ → Type 0
Fits payload = length payload < 2 ^ 64

-- From a place on the file has the records of these payloads, then this gate, then this rest.
-- Shown by: proofs alone.
pub record HasRecords (at : ℕ) (file : List ℕ) (payloads : List (List ℕ)) (gate : ℕ) (rest : List ℕ) : Type 0 where
  pub is : drop at file ≡ records payloads ++ (gate ∷ rest)
  pub fit : AllByRecursion Fits payloads

-- From a place on the file has the records of these payloads, then a closed gate, then any rest.
-- Shown by: proofs alone.
abbrev pub AreFrom : ℕ → List ℕ → List (List ℕ) → Type 0
AreFrom at file payloads = (gate : ℕ) × (rest : List ℕ) × HasRecords at file payloads gate rest × (gate ≢ 1)

-- The file has the header, and from a place on the records of these payloads, a closed gate, and any rest.
-- Shown by: proofs alone.
abbrev pub IsHeaded : ℕ → List ℕ → List (List ℕ) → Type 0
IsHeaded at file payloads = (take 8 file ≡ header) × AreFrom at file payloads

-- The file has these payloads. A file of at most nine bytes was never begun, and has none.
-- Shown by: proofs alone.
abbrev pub IsFileOf : List ℕ → List (List ℕ) → Type 0
IsFileOf file payloads = ((length file ≤ 9) × (payloads ≡ [])) ⊎ IsHeaded first_gate file payloads

-- The file is no file of records: it has more than nine bytes, and another header.
-- Shown by: table_tests test_journal.rt: each_file_is_a_journal_or_refused.
abbrev pub IsOtherFile : List ℕ → Type 0
IsOtherFile file = (9 < length file) × (take 8 file ≡ header → ⊥)

-- What follows an open gate begins with no payload, its length before it and a gate after it.
-- Shown by: a_record_without_a_gate_after_it.edit.
abbrev pub HasNoRecord : List ℕ → Type 0
HasNoRecord rest =
    (payload more : List ℕ) (gate : ℕ) → Fits payload → rest ≡ length_bytes (length payload) ++ (payload ++ (gate ∷ more)) → ⊥

-- The file, whose first gate is at this place, is damaged after these payloads: an open gate comes next, and no record with a gate after it.
-- The record's place counts from 1, the byte is that of its gate.
-- Shown by: proofs alone.
pub record IsDamagedAt (file : List ℕ) (at : ℕ) (payloads : List (List ℕ)) (place byte : ℕ) : Type 0 where
  pub long : at + 1 < length file
  pub begins : take 8 file ≡ header
  pub rest : List ℕ
  pub has : HasRecords at file payloads 1 rest
  pub none : HasNoRecord rest
  pub is_place : place ≡ length payloads + 1
  pub is_byte : byte ≡ at + length (records payloads)

-- What an append writes after the closed gate: the records without their first gate, and a closed gate.
-- Shown by: no_gate_after_the_record.edit.
abbrev pub laid : List (List ℕ) → List ℕ
laid payloads = drop 1 (records payloads ++ 0 ∷ [])

-- The text of an append of these payloads, of which there is at least one.
-- Shown by: proofs alone.
pub record IsText (payloads : List (List ℕ)) (text : List ℕ) : Type 0 where
  pub some : 0 < length payloads
  pub fit : AllByRecursion Fits payloads
  pub is : text ≡ laid payloads
