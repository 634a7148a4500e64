-- For private clauses alone: numbers of rules.
use Rattle.std.specs.Prelude.{◌≡◌, Bool, true, false, List, slice_index_or}
use Rattle.board_publish.specs.declared.entered.Entered.{Entered}

-- the number of the rule is marked
abbrev pub IsMarked : List Bool → Entered → Type 0
IsMarked marks rule = slice_index_or marks rule.number false ≡ true
