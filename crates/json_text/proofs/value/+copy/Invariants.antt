use Rattle.std.proofs.Common.{◌≡◌, take}
use Rattle.json_text.specs.View.{trees_of, pairs_of}
use Rattle.json_text.proofs.value.+copy.Given as goal

-- the copies so far are those of the items so far
abbrev pub invariant-loop-item : goal.invariant-loop-item
invariant-loop-item l = trees_of l.copies.items ≡ trees_of (take l.item-index l.item-items)

abbrev pub invariant-loop-key : goal.invariant-loop-key
invariant-loop-key l = pairs_of l.copies.items ≡ pairs_of (take l.key-index l.key-items)
