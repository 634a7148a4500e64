use Rattle.std.proofs.Common.{◌≡◌, drop}
use Rattle.json_text.specs.Tree.{items_of}
use Rattle.json_text.specs.View.{trees_of}
use Rattle.json_text.specs.Access.{is_object}
use Rattle.bus_policy.specs.Grammar as spec
use Rattle.bus_policy.proofs.grammar.each_object.Given as goal

abbrev pub invariant-loop-item : goal.invariant-loop-item
invariant-loop-item l = spec.each_item is_object (items_of (trees_of (drop l.item-index l.items)))
    ≡ spec.each_item is_object (items_of (trees_of l.items))
