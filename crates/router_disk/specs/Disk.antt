-- The meaning of a disk. What a read gives, and what a crash may leave, are functions of the file's bytes as it was opened and of the calls
-- since, with their answers. Clauses that use them have one premise: that the answers are those of this model (`AreAnswers`).
use Rattle.std.specs.Prelude.{◌≡◌, ℕ, ◌+◌, ◌-◌, ◌^◌, ◌<◌, ◌≤◌, max, List, [], ◌∷◌, ◌++◌, length, take, drop, replicate, ⊤}
use Rattle.std.specs.Prelude.{Option, Some, None, Ok, Err}
use Rattle.router_disk.specs.declared.disk_call.DiskCall.{DiskCall}
use Rattle.router_disk.specs.declared.disk_call.DiskCall.TheVariants.{Size, Read, Write, Cut, Sync}

-- The file with these bytes written over it from a place on. A place past the end leaves zeros between; no bytes change nothing.
-- POSIX, pwrite.
-- Shown by: proofs alone.
abbrev pub overwritten : List ℕ → ℕ → List ℕ → List ℕ
overwritten file at [] = file
overwritten file at (byte ∷ bytes) =
    take at file ++ (replicate (at - length file) 0 ++ ((byte ∷ bytes) ++ drop (at + length (byte ∷ bytes)) file))

-- What a read gives after a call, if it is known. After a write, a cut or a sync that failed it is not known.
-- Shown by: proofs alone.
abbrev pub file_after : Option (List ℕ) → DiskCall → Option (List ℕ)
file_after None call = None
file_after (Some file) (Size answer) = Some file
file_after (Some file) (Read at bytes answer) = Some file
file_after (Some file) (Write at bytes (Ok done)) = Some (overwritten file at bytes)
file_after (Some file) (Write at bytes (Err fault)) = None
file_after (Some file) (Cut len (Ok done)) = Some (take len file)
file_after (Some file) (Cut len (Err fault)) = None
file_after (Some file) (Sync (Ok done)) = Some file
file_after (Some file) (Sync (Err fault)) = None

-- the same after several calls, in order
abbrev pub file_from : Option (List ℕ) → List DiskCall → Option (List ℕ)
file_from known [] = known
file_from known (call ∷ calls) = file_from (file_after known call) calls

-- What a read gives: the file that had these bytes at first, after these calls. `None` if it is not known.
-- Shown by: proofs alone.
abbrev pub file_of : List ℕ → List DiskCall → Option (List ℕ)
file_of first calls = file_from (Some first) calls

-- The answer is the model's, if a read gave this file before the call. A file has at most 2^63 - 1 bytes. Each call may fail; a write that
-- would end above that and a cut above the length have to.
-- Shown by: proofs alone.
abbrev pub IsAnswer : Option (List ℕ) → DiskCall → Type 0
IsAnswer None call = ⊤
IsAnswer (Some file) (Size (Ok len)) = (len ≡ length file) × (len < 2 ^ 63)
IsAnswer (Some file) (Size (Err fault)) = ⊤
IsAnswer (Some file) (Read at bytes (Ok done)) = bytes ≡ take (length bytes) (drop at file)
IsAnswer (Some file) (Read at bytes (Err fault)) = ⊤
IsAnswer (Some file) (Write at bytes (Ok done)) = at + length bytes < 2 ^ 63
IsAnswer (Some file) (Write at bytes (Err fault)) = ⊤
IsAnswer (Some file) (Cut len (Ok done)) = len ≤ length file
IsAnswer (Some file) (Cut len (Err fault)) = ⊤
IsAnswer (Some file) (Sync answer) = ⊤

-- each answer is the model's
abbrev pub AreAnswersFrom : Option (List ℕ) → List DiskCall → Type 0
AreAnswersFrom known [] = ⊤
AreAnswersFrom known (call ∷ calls) = IsAnswer known call × AreAnswersFrom (file_after known call) calls

-- The answers of all calls are those of the model, if the file had these bytes at first. Nothing is asked of answers after a write, a
-- cut or a sync that failed. Of a real disk this is trusted.
-- Shown by: proofs alone.
abbrev pub AreAnswers : List ℕ → List DiskCall → Type 0
AreAnswers first calls = AreAnswersFrom (Some first) calls

-- What a crash may make of a file during and after a write of n bytes at a place, until the next sync: the range, and all past the old
-- end, may hold any bytes; the length is between the old and the new one; the other bytes stay.
-- Shown by: proofs alone.
pub record Torn (at n : ℕ) (old new : List ℕ) : Type 0 where
  pub middle : List ℕ
  pub is : new ≡ take at old ++ (middle ++ drop (at + n) old)
  pub no_shorter : length old ≤ length new
  pub no_longer : length new ≤ max (length old) (at + n)

-- What a crash may make of a file during and after a cut, until the next sync: a length between.
-- Shown by: proofs alone.
abbrev pub Shortened : ℕ → List ℕ → List ℕ → Type 0
Shortened len old new = (kept : ℕ) × (len ≤ kept) × (new ≡ take kept old)

-- Each new image is an old image after a step.
-- Shown by: proofs alone.
abbrev pub Follows : (List ℕ → List ℕ → Type 0) → (List ℕ → Type 0) → List ℕ → Type 0
Follows Step images new = (old : List ℕ) × images old × Step old new

-- What a crash may leave after a call, from what it might leave before, and from what a read gave before, if that is known. After a sync
-- it leaves what a read gives. A sync that follows a failed write, cut or sync settles nothing.
-- Shown by: proofs alone.
abbrev pub images_after : Option (List ℕ) → DiskCall → (List ℕ → Type 0) → List ℕ → Type 0
images_after known (Size answer) images image = images image
images_after known (Read at bytes answer) images image = images image
images_after known (Write at bytes answer) images image = Follows (Torn at (length bytes)) images image
images_after known (Cut len answer) images image = Follows (Shortened len) images image
images_after None (Sync answer) images image = images image
images_after (Some file) (Sync (Ok done)) images image = image ≡ file
images_after (Some file) (Sync (Err fault)) images image = images image

-- the same after several calls, in order
abbrev pub images_from : Option (List ℕ) → (List ℕ → Type 0) → List DiskCall → List ℕ → Type 0
images_from known images [] image = images image
images_from known images (call ∷ calls) image = images_from (file_after known call) (images_after known call images) calls image

-- A crash after these calls may leave this image. Up to the first sync it may leave anything: of what was there before the file was
-- opened, some may not be on the disk.
-- Shown by: proofs alone.
abbrev pub IsImage : List ℕ → List DiskCall → List ℕ → Type 0
IsImage first calls image = images_from (Some first) (λ _. ⊤) calls image

-- A crash at some moment since this one might have left this image, during a call or between two. A moment is a number of calls.
-- Shown by: proofs alone.
abbrev pub IsImageSince : List ℕ → List DiskCall → ℕ → List ℕ → Type 0
IsImageSince first calls since image =
    (moment : ℕ) × (since ≤ moment) × (moment ≤ length calls) × IsImage first (take moment calls) image
