use Rattle.std.proofs.Common.{◌≡◌, length}
use Rattle.duty_journal.specs.Redo.{are_in_order}
use Rattle.duty_journal.proofs.admit.are_in_order.Given as goal

-- the names that are left are in order exactly if all are
abbrev pub invariant-loop-left : goal.invariant-loop-left
invariant-loop-left l = are_in_order l.left ≡ are_in_order l.names

abbrev pub decreases-loop-left : goal.decreases-loop-left
decreases-loop-left l = length l.left
