use Rattle.std.proofs.Common.{◌≡◌, ◌≤◌, ◌+◌, ◌-◌, ℕ, List, length, drop}
use Rattle.json_text.specs.{Reading.hex, Scan.scan_string, Scan.unit_left, Scan.IsUnitSoFar}
use Rattle.json_text.proofs.string.code_unit.Given as goal

-- reading what is left is reading everything
abbrev pub invariant-loop-place : goal.invariant-loop-place
invariant-loop-place l = record {
  within : l.place ≤ length l.digits;
  unit : IsUnitSoFar l.lead (4 - l.place) l.unit;
  same : (text : List ℕ) (base : ℕ)
      → scan_string (hex l.lead 3 0) text base l.digits ≡ unit_left l.lead (4 - l.place) l.unit text (base + l.place) (drop l.place l.digits);
}
