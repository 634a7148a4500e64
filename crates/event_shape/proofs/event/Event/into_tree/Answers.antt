use Rattle.std.proofs.Common.{◌≡◌, ◌∙◌, None, ap, sym, subst}
use Rattle.json_text.specs.Tree.{object, members_of}
use Rattle.json_text.specs.View.{tree_of}
use Rattle.json_text.specs.Compact.{IsValue}
use Rattle.json_text.specs.declared.value.Json.TheVariants.{Obj}
use Rattle.json_text.proofs.ViewLemmas.{tree_of_object}
use Rattle.event_shape.specs.Event.{IsEvent, event_tree}
use Rattle.event_shape.proofs.ValidLemmas.{event_value}
use Rattle.event_shape.proofs.event.Event.into_tree.Goals as goal

tree : (c : goal.After-drop-self-inside-2) → tree_of (Obj c.push_member.new.members) ≡ event_tree c.args.self None
tree c =
    let front = rw (c.in_ok-id.ensures, c.in_ok-resources.ensures, c.deref.ensures.value) at c.in_ok-members.ensures in
    let pushed = rw front at c.in_ok-push_member.ensures.pushed in
    rw (← c.self.view_is) (tree_of_object c.push_member.new.members ∙ ap (λ ps. object (members_of ps)) pushed)

pub returns-clause-tree : goal.returns-clause-tree
returns-clause-tree c = tree c

pub returns-clause-value : goal.returns-clause-value
returns-clause-value c =
    let is : IsEvent c.args.self = subst IsEvent c.self.view_is (c.self.inside.moment, c.self.invariant) in
    subst IsValue (sym (tree c)) (event_value c.args.self None is tt)
