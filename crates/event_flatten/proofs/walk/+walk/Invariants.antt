use Rattle.std.proofs.Common.{◌≡◌, ◌++◌, drop}
use Rattle.json_text.specs.Tree.{items_of, members_of}
use Rattle.json_text.specs.View.{trees_of, pairs_of}
use Rattle.event_flatten.specs.Walk.{found_in_items, found_in_members}
use Rattle.event_flatten.specs.Wanted.{wants_of}
use Rattle.event_flatten.proofs.walk.+walk.Given as goal

-- what is found so far, and what is found in the rest
abbrev pub invariant-walk_items-loop-item : goal.invariant-walk_items-loop-item
invariant-walk_items-loop-item l =
    l.found ++ found_in_items (wants_of l.wanted) (items_of (trees_of (drop l.item-index l.items)))
    ≡ l.fn.found ++ found_in_items (wants_of l.wanted) (items_of (trees_of l.items))

abbrev pub invariant-walk_members-loop-key : goal.invariant-walk_members-loop-key
invariant-walk_members-loop-key l =
    l.found ++ found_in_members (wants_of l.wanted) (members_of (pairs_of (drop l.key-index l.members)))
    ≡ l.fn.found ++ found_in_members (wants_of l.wanted) (members_of (pairs_of l.members))
