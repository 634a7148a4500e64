use Rattle.std.proofs.Common.{◌∙◌, ap, sym, codes, Some}
use Rattle.json_text.specs.Tree.{object, members_of}
use Rattle.json_text.specs.View.{tree_of, pairs_of}
use Rattle.json_text.proofs.ViewLemmas.{tree_of_object}
use Rattle.input_transform.specs.Names.{without_detail, without_key}
use Rattle.input_transform.proofs.value.bare_event.Goals as goal

pub returns-in_ok-kept-in-Obj : goal.returns-in_ok-kept-in-Obj
returns-in_ok-kept-in-Obj c = ap Some (tree_of_object c.in_ok-kept-in-Obj.kept
    ∙ ap object (c.in_ok-kept-in-Obj.ensures ∙ ap (λ ms. without_key (codes "detail") (members_of (pairs_of ms))) c.deref.ensures.value)
    ∙ sym (ap without_detail (ap tree_of c.in-Obj.is ∙ tree_of_object c.in-Obj.members)))
