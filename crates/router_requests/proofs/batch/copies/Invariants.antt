use Rattle.std.proofs.Common.{◌≡◌, take}
use Rattle.router_requests.proofs.batch.copies.Given as goal

-- the names so far
abbrev pub invariant-loop-name : goal.invariant-loop-name
invariant-loop-name l = l.same.items ≡ take l.name-index l.names
