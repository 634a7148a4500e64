use Rattle.std.proofs.Common.{◌≡◌, length}
use Rattle.api_messages.specs.Lines.{skip_newlines}
use Rattle.api_messages.proofs.lines.skip_newlines.Given as goal

abbrev pub invariant-loop-rest : goal.invariant-loop-rest
invariant-loop-rest l = skip_newlines l.rest ≡ skip_newlines l.bytes

abbrev pub decreases-loop-rest : goal.decreases-loop-rest
decreases-loop-rest l = length l.rest
