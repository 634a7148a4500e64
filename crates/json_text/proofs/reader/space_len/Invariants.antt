use Rattle.std.proofs.Common.{take}
use Rattle.json_text.specs.Grammar.{IsSpace}
use Rattle.json_text.proofs.reader.space_len.Given as goal

abbrev pub invariant-loop-n : goal.invariant-loop-n
invariant-loop-n l = IsSpace (take l.n l.bytes)
