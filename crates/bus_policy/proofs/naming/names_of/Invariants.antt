use Rattle.std.proofs.Common.{◌≡◌, ◌+◌, ◌++◌, drop}
use Rattle.json_text.specs.Tree.{items_of}
use Rattle.json_text.specs.View.{trees_of}
use Rattle.bus_policy.specs.Verdict as spec
use Rattle.bus_policy.proofs.naming.names_of.Given as goal

abbrev pub invariant-loop-i : goal.invariant-loop-i
invariant-loop-i l = l.names.items ++ spec.names_from (l.i + 1) (items_of (trees_of (drop l.i l.statements)))
    ≡ spec.names_from 1 (items_of (trees_of l.statements))
