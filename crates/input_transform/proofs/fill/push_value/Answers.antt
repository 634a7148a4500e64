use Rattle.std.proofs.Common.{◌++◌, ◌∙◌, ap, sym, [], unwrap_or}
use Rattle.std.proofs.lemmas.Result.{on_ok_weaker}
use Rattle.json_text.specs.Tree.{text}
use Rattle.json_text.specs.Compact.{compact_text}
use Rattle.input_transform.specs.Filling.{tree_in}
use Rattle.input_transform.proofs.fill.push_value.Goals as goal

pub returns-in-Missing : goal.returns-in-Missing
returns-in-Missing c = on_ok_weaker c.extend.result (λ h paths f. h
    ∙ ap (λ o. c.args.out.now ++ compact_text (unwrap_or o (text []))) (sym (ap tree_in c.in-Missing.is) ∙ c.in_ok-value_of.ensures paths f)) c.extend.ensures.ok
