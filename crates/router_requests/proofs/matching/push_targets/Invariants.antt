use Rattle.std.proofs.Common.{◌≡◌, ◌++◌, map, take}
use Rattle.router_requests.proofs.MatchingLemmas.{seen_row}
use Rattle.router_requests.proofs.matching.push_targets.Given as goal

-- the targets so far
abbrev pub invariant-loop-target : goal.invariant-loop-target
invariant-loop-target l = l.targets.items ≡ l.fn.targets.items ++ map seen_row (take l.target-index l.target-items)
