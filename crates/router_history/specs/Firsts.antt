-- The list of a history. Only contracts see it.
use Rattle.std.specs.Prelude.{List, [], ◌∷◌}

-- The first part of each pair.
-- Shown by: proofs alone.
abbrev pub firsts : {T : Type 0} → List (T × Unit {0}) → List T
firsts [] = []
firsts (p ∷ ps) = p.0 ∷ firsts ps
