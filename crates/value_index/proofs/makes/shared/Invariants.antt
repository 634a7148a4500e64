use Rattle.std.proofs.Common.{◌≡◌, map, take}
use Rattle.value_index.specs.Index.{entered}
use Rattle.value_index.specs.Rows.{entry_in}
use Rattle.value_index.proofs.makes.shared.Given as goal

abbrev pub invariant-loop-row : goal.invariant-loop-row
invariant-loop-row l = entered l.tests.items ≡ map entry_in (take l.row-index l.rows)
