use Rattle.std.proofs.Common.{◌≡◌, ◌<◌, ◌+◌, ◌*◌, ℕ, List, ◌∷◌, length}
use Rattle.json_text.specs.Tree.{Tree}
use Rattle.event_text.specs.Written.{BeginsItems, BeginsMembers}
use Rattle.event_text.proofs.ListLemmas.{hashes_of}
use Rattle.event_text.proofs.value.+value.Given as goal

-- four times the bytes that are left
abbrev pub decreases-after_value : goal.decreases-after_value
decreases-after_value l = 4 * length l.bytes.now

abbrev pub decreases-after_items : goal.decreases-after_items
decreases-after_items l = 4 * length l.bytes.now + 1

abbrev pub decreases-after_members : goal.decreases-after_members
decreases-after_members l = 4 * length l.bytes.now + 2

abbrev pub decreases-after_some_members : goal.decreases-after_some_members
decreases-after_some_members l = 4 * length l.bytes.now + 2

abbrev pub decreases-after_member : goal.decreases-after_member
decreases-after_member l = 4 * length l.bytes.now + 1

-- the values so far, of which there is at least one
abbrev pub invariant-after_items-loop-left : goal.invariant-after_items-loop-left
invariant-after_items-loop-left l = record {
  items : (t : Tree) × (ts : List Tree) × BeginsItems l.levels (t ∷ ts) l.bytes l.left;
  shorter : length l.left < length l.bytes;
}

abbrev pub decreases-after_items-loop-left : goal.decreases-after_items-loop-left
decreases-after_items-loop-left l = length l.left

-- the members so far, of which there is at least one, and the hashes of their keys
abbrev pub invariant-after_some_members-loop-left : goal.invariant-after_some_members-loop-left
invariant-after_some_members-loop-left l = record {
  members : (m : List ℕ × Tree) × (ms : List (List ℕ × Tree)) × BeginsMembers l.levels (m ∷ ms) (34 ∷ l.bytes) l.left
      × (l.hashes.items ≡ hashes_of (m ∷ ms));
  shorter : length l.left < length l.bytes;
}

abbrev pub decreases-after_some_members-loop-left : goal.decreases-after_some_members-loop-left
decreases-after_some_members-loop-left l = length l.left
