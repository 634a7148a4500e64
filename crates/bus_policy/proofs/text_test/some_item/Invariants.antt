use Rattle.std.proofs.Common.{drop}
use Rattle.std.specs.Prelude.{◌↔◌}
use Rattle.json_text.specs.Tree.{items_of}
use Rattle.json_text.specs.View.{trees_of}
use Rattle.bus_policy.specs.Verdict as spec
use Rattle.bus_policy.proofs.text_test.some_item.Given as goal

abbrev pub invariant-loop-item : goal.invariant-loop-item
invariant-loop-item g l = spec.SomeItem (g.T.TextTest.wanted l.test) (items_of (trees_of l.items))
    ↔ spec.SomeItem (g.T.TextTest.wanted l.test) (items_of (trees_of (drop l.item-index l.items)))
