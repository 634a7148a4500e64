use Rattle.std.proofs.Common.{◌≡◌, ◌++◌, map, take}
use Rattle.std.specs.Arc.{arc_value}
use Rattle.name_rows.proofs.block.push_shared.Given as goal

abbrev pub invariant-loop-value : goal.invariant-loop-value
invariant-loop-value g l = map arc_value l.copies.items ≡ map arc_value l.fn.copies.items ++ map arc_value (take l.value-index l.values)
