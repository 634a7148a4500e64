use Rattle.std.proofs.Common.{◌≡◌, take}
use Rattle.archive_keep.specs.Archives.{event_count}
use Rattle.archive_keep.proofs.archives.Archives.count.Given as goal

-- the events of the archives so far
abbrev pub invariant-loop-archive : goal.invariant-loop-archive
invariant-loop-archive l = l.count ≡ event_count (take l.archive-index l.archive-items)
