use Rattle.std.proofs.Common.{◌≡◌, ◌≤◌, ◌-◌, [], length, drop}
use Rattle.json_text.specs.{Reading.between, Scan.scan_string}
use Rattle.json_text.proofs.string.string_after.Given as goal

-- reading what is left is reading everything
abbrev pub invariant-loop-at : goal.invariant-loop-at
invariant-loop-at l = record {
  within : l.at ≤ length l.bytes;
  same : scan_string between [] 0 l.bytes ≡ scan_string between l.text.items l.at (drop l.at l.bytes);
}

abbrev pub decreases-loop-at : goal.decreases-loop-at
decreases-loop-at l = length l.bytes - l.at
