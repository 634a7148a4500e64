use Rattle.std.proofs.Common.{◌≡◌, ◌++◌, drop}
use Rattle.json_text.specs.{View.trees_of, View.pairs_of, Tree.items_of, Tree.members_of, Compact.items_text, Compact.members_text}
use Rattle.json_text.proofs.CompactLemmas.{items_left, members_left}
use Rattle.input_transform.specs.Names.{Scene}
use Rattle.input_transform.specs.Letters.{shown, steps_of}
use Rattle.input_transform.proofs.FlatLemmas.{backs, pairs_back}
use Rattle.input_transform.proofs.flat.+push_value.Given as goal

abbrev pub decreases-push_value : goal.decreases-push_value
decreases-push_value l = goal.size-push_value l

-- what is written so far and the text of what is left are the text of all
abbrev pub invariant-items : goal.invariant-items
invariant-items l = (scene : Scene) → shown scene (steps_of l.paths) l.out ++ items_left l.i (backs l.paths scene (trees_of (drop l.i l.item-items)))
    ≡ shown scene (steps_of l.paths) l.initial.out ++ items_text (items_of (backs l.paths scene (trees_of l.item-items)))

abbrev pub invariant-members : goal.invariant-members
invariant-members l = (scene : Scene) → shown scene (steps_of l.paths) l.out ++ members_left l.i (pairs_back l.paths scene (pairs_of (drop l.i l.member-items)))
    ≡ shown scene (steps_of l.paths) l.initial.out ++ members_text (members_of (pairs_back l.paths scene (pairs_of l.member-items)))
