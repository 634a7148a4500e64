use Rattle.std.proofs.Common.{◌≡◌, ◌++◌, take, drop}
use Rattle.archive_keep.specs.Archives.{all_purged, all_expired}
use Rattle.archive_keep.proofs.archives.purge_rows.Given as goal

-- the archives so far are purged
abbrev pub invariant-loop-archive : goal.invariant-loop-archive
invariant-loop-archive l = (l.rows ≡ all_purged l.moment (take l.archive-index l.fn.rows) ++ drop l.archive-index l.fn.rows)
    × (l.gone ≡ l.fn.gone ++ all_expired l.moment (take l.archive-index l.fn.rows))
