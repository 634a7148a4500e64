use Rattle.std.proofs.Common.{take}
use Rattle.std.specs.Prelude.{All}
use Rattle.value_index.specs.declared.row.Row.{Row}
use Rattle.value_index.specs.Lengths.{IsListed}
use Rattle.value_index.specs.Rows.{key_in}
use Rattle.value_index.proofs.makes.lengths_of.Given as goal

abbrev pub invariant-loop-row : goal.invariant-loop-row
invariant-loop-row l = All (λ (row : Row). IsListed l.lengths (key_in row).length) (take l.row-index l.rows)
