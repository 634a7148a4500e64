use Rattle.std.proofs.Common.{◌≡◌, ◌++◌, map, take}
use Rattle.std.specs.Arc.{arc_value}
use Rattle.name_rows.specs.Blocks.{rows_in}
use Rattle.name_rows.proofs.blocks.push_rows.Given as goal

abbrev pub invariant-loop-block : goal.invariant-loop-block
invariant-loop-block g l = map arc_value l.rows.items ≡ map arc_value l.fn.rows.items ++ rows_in (map arc_value (take l.block-index l.blocks))
