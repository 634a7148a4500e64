use Rattle.std.proofs.Common.{◌≡◌, ◌+◌, length, map, take}
use Rattle.std.specs.Arc.{arc_value}
use Rattle.name_rows.specs.Blocks.{rows_in}
use Rattle.name_rows.proofs.blocks.reach.Given as goal

abbrev pub invariant-loop-block : goal.invariant-loop-block
invariant-loop-block g l = l.left + length (rows_in (map arc_value (take l.block-index l.blocks))) ≡ l.fn.count
