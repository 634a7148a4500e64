use Rattle.std.proofs.Common.{take}
use Rattle.std.specs.Prelude.{All}
use Rattle.archive_keep.specs.Archive.{KeepsUntil}
use Rattle.archive_keep.proofs.archives.next_expiry.Given as goal

-- nothing of the archives so far expires before
abbrev pub invariant-loop-archive : goal.invariant-loop-archive
invariant-loop-archive l = All (KeepsUntil l.next) (take l.archive-index l.rows)
