use Rattle.std.proofs.Common.{◌↔◌, length}
use Rattle.api_messages.specs.Between.{AreEmptyLines}
use Rattle.api_messages.proofs.front.are_empty_lines.Given as goal

-- the bytes are empty lines exactly if the rest of them is
abbrev pub invariant-loop-rest : goal.invariant-loop-rest
invariant-loop-rest l = AreEmptyLines l.rest ↔ AreEmptyLines l.bytes

abbrev pub decreases-loop-rest : goal.decreases-loop-rest
decreases-loop-rest l = length l.rest
