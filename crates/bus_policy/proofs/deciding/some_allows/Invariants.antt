use Rattle.std.proofs.Common.{drop}
use Rattle.std.specs.Prelude.{◌↔◌}
use Rattle.json_text.specs.Tree.{items_of}
use Rattle.json_text.specs.View.{trees_of}
use Rattle.bus_policy.specs.View.{asker_of}
use Rattle.bus_policy.specs.Verdict as spec
use Rattle.bus_policy.proofs.deciding.some_allows.Given as goal

abbrev pub invariant-loop-statement : goal.invariant-loop-statement
invariant-loop-statement l = spec.SomeAllows (asker_of l.asker) (items_of (trees_of l.statements))
    ↔ spec.SomeAllows (asker_of l.asker) (items_of (trees_of (drop l.statement-index l.statements)))
