use Rattle.std.proofs.Common.{◌≡◌, ◌≤◌, length, take}
use Rattle.json_text.specs.View.{tree_of}
use Rattle.value_index.specs.Adds.{Adds, HasEndBelow}
use Rattle.value_index.specs.Signature.{signature, read_from, seed_of}
use Rattle.value_index.proofs.hits.decide_ends.Given as goal

abbrev pub invariant-loop-number : goal.invariant-loop-number
invariant-loop-number l = record {
  signed : l.signature ≡ signature (seed_of l.side) (take l.number (read_from l.side l.bytes));
  within : l.number ≤ length l.bytes;
  adds : Adds (HasEndBelow l.number l.listed l.side l.bytes) l.rows (tree_of l.scalar) l.fn.marks l.marks;
}
