use Rattle.std.proofs.Common.{◌≤◌, ◌-◌, length}
use Rattle.json_text.specs.Plain.{PlainBetween}
use Rattle.json_text.proofs.plain.plain_end_by_one.Given as goal

abbrev pub invariant-loop-at : goal.invariant-loop-at
invariant-loop-at l = record {
  within : l.at ≤ length l.bytes;
  plain : PlainBetween l.most l.bytes 0 l.at;
}

abbrev pub decreases-loop-at : goal.decreases-loop-at
decreases-loop-at l = length l.bytes - l.at
