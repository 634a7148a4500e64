-- What a disk in memory holds, and the images that it makes.
use Rattle.std.specs.Prelude.{◌≡◌, ℕ, List, drop, length, Bool, Option, Some, None, Ok, Err, IfSome, option_map}
use Rattle.router_disk.specs.declared.disk_call.DiskCall.{DiskCall}
use Rattle.router_disk.specs.declared.disk_call.DiskCall.TheVariants.{Size, Read, Write, Cut, Sync}
use Rattle.memory_disk.specs.declared.image.Left.{Left}
use Rattle.router_disk.specs.Disk.{AreAnswers, IsImage, Shortened, Torn, file_of}

-- What a disk in memory holds: the file's first bytes, its calls, which of the calls to come fail, and its count of faults.
-- Shown by: outside_tests test_memory_disk.rt: a_disk_in_memory_keeps_its_calls.
pub record HeldDisk : Type 0 where
  pub first : List ℕ
  pub calls : List DiskCall
  pub plan : List Bool
  pub faults : ℕ

-- What a disk in memory holds after a call: the next call of its plan was made.
-- Shown by: outside_tests test_memory_disk.rt: a_disk_in_memory_keeps_its_calls.
abbrev pub after_call : HeldDisk → List DiskCall → ℕ → HeldDisk
after_call old calls faults = record { first = old.first; calls = calls; plan = drop 1 old.plan; faults = faults }

-- for private clauses: the answers are those of the model, and the bytes are what a read gives, if that is known
pub record Mirrors (first bytes : List ℕ) (calls : List DiskCall) : Type 0 where
  pub answers : AreAnswers first calls
  pub known : IfSome (file_of first calls) (λ file. file ≡ bytes)

-- for private clauses: what a read gives, if that is known
abbrev pub file_in : Left → Option (List ℕ)
file_in left = option_map (λ bytes. bytes.items) left.file

-- for private clauses: what a read gives after these calls, and an image that a crash after them may leave
pub record IsLeft (first : List ℕ) (calls : List DiskCall) (left : Left) : Type 0 where
  pub file : file_in left ≡ file_of first calls
  pub image : IsImage first calls left.image.items

-- for private clauses: a crash after a call may leave the new image if it may leave the old one before; what a read gives before the call
abbrev pub IsNextImage : Option (List ℕ) → DiskCall → List ℕ → List ℕ → Type 0
IsNextImage known (Size answer) old new = new ≡ old
IsNextImage known (Read at bytes answer) old new = new ≡ old
IsNextImage known (Write at bytes answer) old new = Torn at (length bytes) old new
IsNextImage known (Cut len answer) old new = Shortened len old new
IsNextImage None (Sync answer) old new = new ≡ old
IsNextImage (Some file) (Sync (Ok done)) old new = new ≡ file
IsNextImage (Some file) (Sync (Err fault)) old new = new ≡ old
