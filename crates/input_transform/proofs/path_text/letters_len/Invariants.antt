use Rattle.std.proofs.Common.{take}
use Rattle.input_transform.specs.Cuts.{IsLetters}
use Rattle.input_transform.proofs.path_text.letters_len.Given as goal

abbrev pub invariant-loop-n : goal.invariant-loop-n
invariant-loop-n l = IsLetters (take l.n l.bytes)
