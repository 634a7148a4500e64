use Rattle.std.proofs.Common.{◌≡◌, subst, ◌∙◌, List, ℕ}
use Rattle.std.specs.Prelude.{IfOk}
use Rattle.api_messages.specs.Fields.{text_of}
use Rattle.api_messages.proofs.FieldLemmas.{text_of-utf8, text_of-other}
use Rattle.api_messages.proofs.front.text_of.Goals as goal

pub returns-in-Ok : goal.returns-in-Ok
returns-in-Ok c =
    let same : c.in-Ok.text.now ≡ text_of c.args.value.now = c.in-Ok.ensures.cases.0 ∙ text_of-utf8 _ c.in-Ok.ensures.cases.1 in
    subst (λ (x : List ℕ). IfOk c.from_str.result (λ t. t ≡ x)) same c.from_str.ensures

pub returns-in-Err : goal.returns-in-Err
returns-in-Err c = c.new.ensures ∙ text_of-other _ c.in-Err.ensures.cases.0
