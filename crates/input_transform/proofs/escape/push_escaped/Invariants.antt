use Rattle.std.proofs.Common.{◌≡◌, ◌++◌, length, flat_map}
use Rattle.json_text.specs.Compact.{escape}
use Rattle.input_transform.proofs.escape.push_escaped.Given as goal

-- what is written so far and the text of what is left are the text of all
abbrev pub invariant-loop-rest : goal.invariant-loop-rest
invariant-loop-rest l = l.out ++ flat_map escape l.rest ≡ l.initial.out ++ flat_map escape l.text

abbrev pub decreases-loop-rest : goal.decreases-loop-rest
decreases-loop-rest l = length l.rest
