use Rattle.json_text.specs.View.{tree_of}
use Rattle.value_index.specs.Adds.{Adds, HasBitsBelow}
use Rattle.value_index.proofs.hits.decide_networks.Given as goal

abbrev pub invariant-loop-number : goal.invariant-loop-number
invariant-loop-number l = Adds (HasBitsBelow l.number l.listed l.address.family l.address.bits) l.rows (tree_of l.scalar) l.fn.marks l.marks
