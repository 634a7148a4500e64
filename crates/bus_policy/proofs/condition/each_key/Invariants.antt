use Rattle.std.proofs.Common.{◌≡◌, ◌&&◌, drop}
use Rattle.json_text.specs.Tree.{members_of}
use Rattle.json_text.specs.View.{pairs_of}
use Rattle.bus_policy.specs.Grammar as spec
use Rattle.bus_policy.proofs.condition.each_key.Given as goal

abbrev pub invariant-loop-key : goal.invariant-loop-key
invariant-loop-key l = spec.each_member (λ key texts. spec.is_key key && spec.are_texts spec.any_text texts)
    (members_of (pairs_of (drop l.key-index l.members)))
    ≡ spec.each_member (λ key texts. spec.is_key key && spec.are_texts spec.any_text texts)
    (members_of (pairs_of l.members))
