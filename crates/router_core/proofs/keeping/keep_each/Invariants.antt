use Rattle.std.proofs.Common.{drop}
use Rattle.router_core.proofs.KeepingLemmas.{IsKeeping}
use Rattle.router_core.proofs.keeping.keep_each.Given as goal

-- the names that are left, with a pointer for each
abbrev pub invariant-loop-name : goal.invariant-loop-name
invariant-loop-name l = IsKeeping l.names (drop l.name-index l.names) l.fn.archives l.archives l.fn.kept l.left
