use Rattle.std.proofs.Common.{drop}
use Rattle.std.specs.Prelude.{◌↔◌}
use Rattle.json_text.specs.Tree.{members_of}
use Rattle.json_text.specs.View.{pairs_of}
use Rattle.bus_policy.specs.View.{asker_of}
use Rattle.bus_policy.specs.Verdict as spec
use Rattle.bus_policy.proofs.applying.each_key.Given as goal

abbrev pub invariant-loop-key : goal.invariant-loop-key
invariant-loop-key l = spec.EachKey (asker_of l.asker) l.operator (members_of (pairs_of l.members))
    ↔ spec.EachKey (asker_of l.asker) l.operator (members_of (pairs_of (drop l.key-index l.members)))
