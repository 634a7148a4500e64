use Rattle.std.proofs.Common.{◌≡◌, take}
use Rattle.std.specs.List.{filter_map}
use Rattle.value_index.specs.Rows.{range_in}
use Rattle.value_index.proofs.makes.ranges_in.Given as goal

abbrev pub invariant-loop-row : goal.invariant-loop-row
invariant-loop-row l = l.ranges.items ≡ filter_map range_in (take l.row-index l.rows)
