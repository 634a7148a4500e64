use Rattle.std.proofs.Common.{◌≡◌, ◌&&◌, drop}
use Rattle.json_text.specs.Tree.{members_of}
use Rattle.json_text.specs.View.{pairs_of}
use Rattle.bus_policy.specs.Grammar as spec
use Rattle.bus_policy.proofs.condition.each_operator.Given as goal

abbrev pub invariant-loop-operator : goal.invariant-loop-operator
invariant-loop-operator l = spec.each_member (λ operator keys. spec.is_operator operator && spec.are_keys keys)
    (members_of (pairs_of (drop l.operator-index l.members)))
    ≡ spec.each_member (λ operator keys. spec.is_operator operator && spec.are_keys keys)
    (members_of (pairs_of l.members))
