use Rattle.std.proofs.Common.{◌≡◌, take}
use Rattle.router_core.proofs.ready.shared.Given as goal

-- the rows so far
abbrev pub invariant-loop-duty : goal.invariant-loop-duty
invariant-loop-duty l = l.rows ≡ take l.duty-index l.duties
