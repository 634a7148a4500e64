use Rattle.std.proofs.Common.{◌≡◌, ◌++◌, length, take, drop}
use Rattle.json_text.specs.{View.trees_of, View.pairs_of, Tree.items_of, Tree.members_of, Compact.items_text, Compact.members_text}
use Rattle.json_text.proofs.CompactLemmas.{items_left, members_left}
use Rattle.json_text.proofs.compact.+push_value.Given as goal

abbrev pub decreases-push_value : goal.decreases-push_value
decreases-push_value l = goal.size-push_value l

-- what is written so far and the text of what is left are the text of all
abbrev pub invariant-items : goal.invariant-items
invariant-items l = record {
  whole : l.out ++ items_left l.i (trees_of (drop l.i l.item-items)) ≡ l.initial.out ++ items_text (items_of (trees_of l.item-items));
  kept : take (length l.fn.out) l.out ≡ l.fn.out;
}

abbrev pub invariant-members : goal.invariant-members
invariant-members l = record {
  whole : l.out ++ members_left l.i (pairs_of (drop l.i l.key-items)) ≡ l.initial.out ++ members_text (members_of (pairs_of l.key-items));
  kept : take (length l.fn.out) l.out ≡ l.fn.out;
}
