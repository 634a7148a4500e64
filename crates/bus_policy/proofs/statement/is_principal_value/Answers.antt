use Rattle.std.proofs.Common.{sym, ap, ◌∙◌}
use Rattle.json_text.specs.Tree.{members_of}
use Rattle.json_text.specs.View.{tree_of, pairs_of}
use Rattle.json_text.proofs.ViewLemmas.{tree_of_object}
use Rattle.bus_policy.specs.Grammar.{is_principal_value, is_one_principal}
use Rattle.bus_policy.proofs.statement.is_principal_value.Goals as goal

pub returns-in-Obj : goal.returns-in-Obj
returns-in-Obj c =
    c.is_one_principal.ensures ∙ ap (λ ms. is_one_principal (members_of (pairs_of ms))) c.deref.ensures.value
    ∙ sym (ap is_principal_value (ap tree_of c.in-Obj.is ∙ tree_of_object c.in-Obj.members))
