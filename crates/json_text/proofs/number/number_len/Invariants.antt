use Rattle.std.proofs.Common.{◌≡◌, drop}
use Rattle.json_text.specs.{Scan.scan_number, Parts.part_of}
use Rattle.json_text.proofs.number.number_len.Given as goal

-- reading what is left is reading everything
abbrev pub invariant-loop-n : goal.invariant-loop-n
invariant-loop-n l = scan_number (part_of l.fn.first) 0 l.bytes ≡ scan_number (part_of l.part) l.n (drop l.n l.bytes)
