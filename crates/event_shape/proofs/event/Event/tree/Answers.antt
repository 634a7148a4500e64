use Rattle.std.proofs.Common.{◌∙◌, ap, sym, subst, Some, None}
use Rattle.json_text.specs.Tree.{object, members_of}
use Rattle.json_text.specs.Compact.{IsValue}
use Rattle.json_text.proofs.ViewLemmas.{tree_of_object}
use Rattle.event_shape.proofs.ValidLemmas.{event_value}
use Rattle.event_shape.proofs.event.Event.tree.Goals as goal

pub returns-in_ok-push_text-in-Some-clause-tree : goal.returns-in_ok-push_text-in-Some-clause-tree
returns-in_ok-push_text-in-Some-clause-tree c =
    let pushed = rw c.in_ok-members.ensures.members at c.in_ok-push_text-in-Some.ensures.pushed in
    rw c.in-Some.is (tree_of_object c.push_text.new.members ∙ ap (λ ps. object (members_of ps)) pushed)

pub returns-in-None-clause-tree : goal.returns-in-None-clause-tree
returns-in-None-clause-tree c = rw c.in-None.is (tree_of_object c.in_ok-members.members ∙ ap (λ ps. object (members_of ps)) c.in_ok-members.ensures.members)

pub returns-in_ok-push_text-in-Some-clause-value : goal.returns-in_ok-push_text-in-Some-clause-value
returns-in_ok-push_text-in-Some-clause-value c =
    let pushed = rw c.in_ok-members.ensures.members at c.in_ok-push_text-in-Some.ensures.pushed in
    subst IsValue (sym (tree_of_object c.push_text.new.members ∙ ap (λ ps. object (members_of ps)) pushed))
    (event_value c.args.self.now (Some c.in-Some.name.now) c.own_members.ensures.event c.in_ok-push_text-in-Some.ensures.utf8)

pub returns-in-None-clause-value : goal.returns-in-None-clause-value
returns-in-None-clause-value c =
    subst IsValue (sym (tree_of_object c.in_ok-members.members ∙ ap (λ ps. object (members_of ps)) c.in_ok-members.ensures.members))
    (event_value c.args.self.now None c.own_members.ensures.event tt)
