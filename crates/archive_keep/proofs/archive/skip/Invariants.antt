use Rattle.std.proofs.Common.{◌≡◌, drop}
use Rattle.archive_keep.proofs.archive.skip.Given as goal

-- what is left
abbrev pub invariant-loop : goal.invariant-loop
invariant-loop l = l.left ≡ drop l.counter l.events
