use Rattle.std.proofs.Common.{ℕ, ◌+◌, List, drop}
use Rattle.json_text.specs.Tree.{items_of}
use Rattle.json_text.specs.View.{trees_of}
use Rattle.bus_policy.specs.View.{asker_of}
use Rattle.bus_policy.specs.Verdict as spec
use Rattle.bus_policy.proofs.deciding.first_denial.Given as goal

abbrev pub invariant-loop-i : goal.invariant-loop-i
invariant-loop-i l = record {
  none : spec.NoneDenies (asker_of l.asker) (items_of (trees_of (drop l.i l.statements)))
      → spec.NoneDenies (asker_of l.asker) (items_of (trees_of l.statements));
  first : (name : List ℕ) → spec.FirstDenies (asker_of l.asker) (l.i + 1) (items_of (trees_of (drop l.i l.statements)))
      name → spec.FirstDenies (asker_of l.asker) 1 (items_of (trees_of l.statements)) name;
}
