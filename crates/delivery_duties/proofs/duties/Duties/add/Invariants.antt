use Rattle.std.proofs.Common.{length}
use Rattle.delivery_duties.proofs.AddLemmas.{IsLeft}
use Rattle.delivery_duties.proofs.duties.Duties.add.Given as goal

abbrev pub invariant-loop-node : goal.invariant-loop-node
invariant-loop-node l = IsLeft l.fn.duties l.moment l.fn.self l.rows.items l.self

abbrev pub decreases-loop-node : goal.decreases-loop-node
decreases-loop-node l = length l.rows.items
