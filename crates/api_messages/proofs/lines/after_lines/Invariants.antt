use Rattle.std.proofs.Common.{◌≡◌, length}
use Rattle.api_messages.specs.Lines.{after_lines}
use Rattle.api_messages.proofs.lines.after_lines.Given as goal

abbrev pub invariant-loop-left : goal.invariant-loop-left
invariant-loop-left l = after_lines l.left l.rest ≡ after_lines l.count l.bytes

abbrev pub decreases-loop-left : goal.decreases-loop-left
decreases-loop-left l = length l.rest
