use Rattle.std.proofs.Common.{◌≡◌, drop}
use Rattle.json_text.specs.Tree.{items_of, members_of}
use Rattle.json_text.specs.View.{trees_of, pairs_of}
use Rattle.pattern_meaning.specs.Frames.{route_of}
use Rattle.pattern_meaning.specs.Meets.{some_has_leaf, first_has_leaf}
use Rattle.pattern_meaning.proofs.absent.+has_leaf.Given as goal

-- what is left answers what all answer
abbrev pub invariant-loop-item : goal.invariant-loop-item
invariant-loop-item l =
    some_has_leaf (route_of l.route) (items_of (trees_of (drop l.item-index l.item-items)))
    ≡ some_has_leaf (route_of l.route) (items_of (trees_of l.item-items))

abbrev pub invariant-loop-name : goal.invariant-loop-name
invariant-loop-name l =
    first_has_leaf l.key.now (route_of l.rest.now) (members_of (pairs_of (drop l.name-index l.name-items)))
    ≡ first_has_leaf l.key.now (route_of l.rest.now) (members_of (pairs_of l.name-items))
