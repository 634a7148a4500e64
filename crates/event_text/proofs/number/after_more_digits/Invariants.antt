use Rattle.std.proofs.Common.{◌≤◌, length}
use Rattle.json_text.specs.Number.{AreDigits}
use Rattle.event_text.specs.Written.{Begins}
use Rattle.event_text.proofs.number.after_more_digits.Given as goal

abbrev pub invariant-loop-left : goal.invariant-loop-left
invariant-loop-left l = record { digits : Begins AreDigits l.bytes l.left; within : length l.left ≤ length l.bytes }

abbrev pub decreases-loop-left : goal.decreases-loop-left
decreases-loop-left l = length l.left
