use Rattle.std.proofs.Common.{◌≡◌, drop}
use Rattle.json_text.specs.Tree.{items_of}
use Rattle.json_text.specs.View.{trees_of}
use Rattle.pattern_meaning.specs.View.{some_has_view}
use Rattle.pattern_meaning.proofs.walk.+view.Given as goal

-- what is left answers what all answer
abbrev pub invariant-some_has_view-loop-item : goal.invariant-some_has_view-loop-item
invariant-some_has_view-loop-item l =
    some_has_view (items_of (trees_of (drop l.item-index l.items))) ≡ some_has_view (items_of (trees_of l.items))
