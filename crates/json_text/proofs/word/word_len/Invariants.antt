use Rattle.std.proofs.Common.{◌≡◌, ◌≤◌, length, drop}
use Rattle.json_text.specs.Scan.{scan_word}
use Rattle.json_text.proofs.word.word_len.Given as goal

-- reading what is left is reading everything
abbrev pub invariant-loop-n : goal.invariant-loop-n
invariant-loop-n l = (scan_word l.word 0 l.bytes ≡ scan_word (drop l.n l.word) l.n (drop l.n l.bytes)) × (l.n ≤ length l.bytes)
