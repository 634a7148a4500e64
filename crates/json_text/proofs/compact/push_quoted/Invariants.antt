use Rattle.std.proofs.Common.{◌≡◌, ◌++◌, length, take, flat_map}
use Rattle.json_text.specs.Compact.{escape}
use Rattle.json_text.proofs.compact.push_quoted.Given as goal

-- what is written so far and the text of what is left are the text of all
abbrev pub invariant-loop-rest : goal.invariant-loop-rest
invariant-loop-rest l = record {
  whole : l.out ++ flat_map escape l.rest ≡ l.initial.out ++ flat_map escape l.text;
  kept : take (length l.fn.out) l.out ≡ l.fn.out;
}

abbrev pub decreases-loop-rest : goal.decreases-loop-rest
decreases-loop-rest l = length l.rest
