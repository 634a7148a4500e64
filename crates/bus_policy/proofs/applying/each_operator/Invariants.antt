use Rattle.std.proofs.Common.{drop}
use Rattle.std.specs.Prelude.{◌↔◌}
use Rattle.json_text.specs.Tree.{members_of}
use Rattle.json_text.specs.View.{pairs_of}
use Rattle.bus_policy.specs.View.{asker_of}
use Rattle.bus_policy.specs.Verdict as spec
use Rattle.bus_policy.proofs.applying.each_operator.Given as goal

abbrev pub invariant-loop-operator : goal.invariant-loop-operator
invariant-loop-operator l = spec.EachOperator (asker_of l.asker) (members_of (pairs_of l.members))
    ↔ spec.EachOperator (asker_of l.asker) (members_of (pairs_of (drop l.operator-index l.members)))
