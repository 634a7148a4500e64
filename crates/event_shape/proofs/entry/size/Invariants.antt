use Rattle.std.proofs.Common.{◌≡◌, ◌+◌, ◌-◌, ◌^◌, min, length, take, sum_by}
use Rattle.event_shape.proofs.EntryLemmas.{members_size}
use Rattle.event_shape.proofs.entry.size.Given as goal

-- what is counted so far
abbrev pub invariant-loop-resource : goal.invariant-loop-resource
invariant-loop-resource l = l.total ≡ min (members_size l.entry + sum_by length (take l.resource-index l.resource-items)) (2 ^ 64 - 1)
