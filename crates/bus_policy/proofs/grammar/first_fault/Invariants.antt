use Rattle.std.proofs.Common.{◌≡◌, drop, take, []}
use Rattle.json_text.specs.Tree.{items_of}
use Rattle.json_text.specs.View.{trees_of}
use Rattle.bus_policy.specs.Grammar as spec
use Rattle.bus_policy.proofs.grammar.first_fault.Given as goal

abbrev pub invariant-loop-i : goal.invariant-loop-i
invariant-loop-i l = spec.first_fault (trees_of (take l.i l.statements)) (items_of (trees_of (drop l.i l.statements)))
    ≡ spec.first_fault [] (items_of (trees_of l.statements))
