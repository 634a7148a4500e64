use Rattle.std.proofs.Common.{◌≡◌, ◌++◌, ℕ, List, false, take}
use Rattle.input_transform.specs.Letters.{is_inside}
use Rattle.input_transform.proofs.rewriting.string_cut.Given as goal

-- what comes after the bytes so far is in the string as it is after a backslash or not
abbrev pub invariant-loop-n : goal.invariant-loop-n
invariant-loop-n l = (more : List ℕ) → is_inside false (take l.n l.bytes ++ more) ≡ is_inside l.escaped more
