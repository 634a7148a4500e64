use Rattle.std.proofs.Common.{◌≤◌, ◌∙◌, sym, ap, subst}
use Rattle.std.proofs.lemmas.Result.{IfOk-weaker}
use Rattle.json_text.specs.View.{tree_of}
use Rattle.json_text.specs.Compact.{IsValue, tree_levels}
use Rattle.json_text.proofs.ViewLemmas.{tree_of_object}
use Rattle.event_shape.proofs.PartLemmas.{values_are, parts_are, parts_valid}
use Rattle.event_shape.proofs.reading.event_of.Goals as goal

pub event_with-requires : goal.event_with-requires
event_with-requires c =
    let tree = ap tree_of c.in-Obj.is ∙ tree_of_object c.in-Obj.members in
    parts_valid c.in-Obj.members.items c.in-Some.parts c.in-Some.ensures
    (subst IsValue tree c.requires.value) (subst (λ t. tree_levels t ≤ 100) tree c.requires.levels)

pub returns-in-Some : goal.returns-in-Some
returns-in-Some c =
    IfOk-weaker c.event_with.result _ _ (λ o h e is tree. h e is (parts_are c.in-Obj.members.items c.in-Some.parts e c.in-Some.ensures
    (sym (ap tree_of c.in-Obj.is ∙ tree_of_object c.in-Obj.members) ∙ tree))) c.event_with.ensures

pub returns-in-Obj : goal.returns-in-Obj
returns-in-Obj c = λ e is tree.
    let same = sym (ap tree_of c.in-Obj.is ∙ tree_of_object c.in-Obj.members) ∙ tree in
    absurd (c.in-None.ensures e (values_are c.in-Obj.members.items e same))
