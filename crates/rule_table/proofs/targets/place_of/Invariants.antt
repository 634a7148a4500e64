use Rattle.std.proofs.Common.{take}
use Rattle.std.specs.Prelude.{All}
use Rattle.name_rows.specs.Place.{IsSmaller}
use Rattle.rule_table.proofs.targets.place_of.Given as goal

abbrev pub invariant-loop-at : goal.invariant-loop-at
invariant-loop-at g l = All (IsSmaller g.R.Row.name_of l.id) (take l.at l.targets)
