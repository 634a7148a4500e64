use Rattle.std.proofs.Common.{◌≡◌, drop}
use Rattle.json_text.specs.Tree.{members_of}
use Rattle.json_text.specs.View.{pairs_of}
use Rattle.bus_policy.specs.Grammar as spec
use Rattle.bus_policy.proofs.statement.are_known.Given as goal

abbrev pub invariant-loop-key : goal.invariant-loop-key
invariant-loop-key l = spec.each_member (λ key t. spec.is_statement_key key)
    (members_of (pairs_of (drop l.key-index l.members)))
    ≡ spec.each_member (λ key t. spec.is_statement_key key) (members_of (pairs_of l.members))
