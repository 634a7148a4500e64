-- What a file of records keeps at every moment.
use Rattle.std.specs.Prelude.{◌≡◌, ℕ, ◌≤◌, List, ◌++◌, length, Some}
use Rattle.router_disk.specs.declared.disk_call.DiskCall.{DiskCall}
use Rattle.router_disk.specs.Disk.{AreAnswers, IsImage, IsImageSince, file_of}
use Rattle.record_file.specs.Records.{IsFileOf}

-- The second list begins with the first.
-- Shown by: proofs alone.
abbrev pub Begins : List (List ℕ) → List (List ℕ) → Type 0
Begins first whole = (rest : List (List ℕ)) × (whole ≡ first ++ rest)

-- The file has at least the payloads of the one list, and at most those of the other, in order.
-- Shown by: proofs alone.
abbrev pub Between : List (List ℕ) → List (List ℕ) → List ℕ → Type 0
Between least most file = (payloads : List (List ℕ)) × IsFileOf file payloads × Begins least payloads × Begins payloads most

-- Every image since a moment has the payloads that were found, and no others than all; each that a crash now may leave has at least those
-- that are safe. What was found is safe.
-- Shown by: proofs alone.
pub record IsKept (first : List ℕ) (calls : List DiskCall) (found : List (List ℕ)) (since : ℕ) (safe all : List (List ℕ)) : Type 0 where
  pub order : Begins found safe
  pub each : (image : List ℕ) → IsImageSince first calls since image → Between found all image
  pub now : (image : List ℕ) → IsImage first calls image → Between safe all image

-- What a read gives is known, and a crash leaves nothing else.
-- Shown by: proofs alone.
pub record IsSettled (first : List ℕ) (calls : List DiskCall) (file : List ℕ) : Type 0 where
  pub known : file_of first calls ≡ Some file
  pub durable : (image : List ℕ) → IsImage first calls image → image ≡ file

-- What a read gives is known, and no crash since a moment leaves anything else.
-- Shown by: proofs alone.
pub record IsSettledSince (first : List ℕ) (calls : List DiskCall) (since : ℕ) (file : List ℕ) : Type 0 where
  pub known : file_of first calls ≡ Some file
  pub past : since ≤ length calls
  pub each : (image : List ℕ) → IsImageSince first calls since image → image ≡ file

-- A disk that was synced: a read gives what it gave when the file was opened, and no crash since leaves anything else.
-- Shown by: proofs alone.
abbrev pub IsOpened : List DiskCall → ℕ → Type 0
IsOpened calls since = (first : List ℕ) → AreAnswers first calls → IsSettledSince first calls since first
