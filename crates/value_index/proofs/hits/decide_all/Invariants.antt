use Rattle.std.proofs.Common.{take}
use Rattle.json_text.specs.View.{tree_of}
use Rattle.value_index.specs.Adds.{Adds}
use Rattle.value_index.proofs.HitLemmas.{Every}
use Rattle.value_index.proofs.hits.decide_all.Given as goal

abbrev pub invariant-loop-row : goal.invariant-loop-row
invariant-loop-row l = Adds Every (take l.row-index l.rows) (tree_of l.scalar) l.fn.marks l.marks
