use Rattle.std.proofs.Common.{sym, ap, ◌∙◌, subst}
use Rattle.std.specs.Prelude.{IsTrue, ◌↔◌}
use Rattle.json_text.specs.Tree.{Tree, members_of}
use Rattle.json_text.specs.View.{tree_of, pairs_of}
use Rattle.json_text.proofs.ViewLemmas.{tree_of_object}
use Rattle.bus_policy.specs.View.{asker_of}
use Rattle.bus_policy.specs.Verdict.{EachKey, OperatorHolds}
use Rattle.bus_policy.proofs.applying.operator_holds.Goals as goal

pub returns-in-Obj : goal.returns-in-Obj
returns-in-Obj c =
    let asker = asker_of c.args.asker.now in
    let of_items = subst (λ ms. IsTrue c.each_key.result ↔ EachKey asker c.args.operator.now (members_of (pairs_of ms)))
    c.deref.ensures.value c.each_key.ensures in
    subst (λ (t : Tree). IsTrue c.each_key.result ↔ OperatorHolds asker c.args.operator.now t)
    (sym (ap tree_of c.in-Obj.is ∙ tree_of_object c.in-Obj.members)) of_items
