use Rattle.std.proofs.Common.{◌≡◌, take, drop}
use Rattle.archive_keep.specs.Archive.{size_of}
use Rattle.archive_keep.proofs.archive.size_of_first.Given as goal

-- what is left, and the size of what is not
abbrev pub invariant-loop : goal.invariant-loop
invariant-loop l = (l.left ≡ drop l.counter l.events) × (l.bytes ≡ size_of (take l.counter l.events))
