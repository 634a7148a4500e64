use Rattle.std.proofs.Common.{sym, subst, arith}
use Rattle.json_text.specs.View.{tree_of}
use Rattle.json_text.specs.Compact.{compact_text}
use Rattle.input_transform.specs.Fills.{input_text, IsWithinLimit}
use Rattle.input_transform.proofs.FillLemmas.{within_json, value_json, path_json, filled_json}
use Rattle.input_transform.proofs.fill.fill_tree.Goals as goal

pub returns-in-Whole-clause-json : goal.returns-in-Whole-clause-json
returns-in-Whole-clause-json c l s =
    within_json (compact_text (tree_of c.args.event.now)) c.text_of_value.result c.text_of_value.ensures (value_json (tree_of c.args.event.now) c.requires.value (omega (arith, l)))

pub returns-in-Path-clause-json : goal.returns-in-Path-clause-json
returns-in-Path-clause-json c l s =
    within_json _ c.text_at.result c.text_at.ensures (path_json c.in-Path.path (tree_of c.args.event.now) c.requires.value l)

pub returns-in-Transform-clause-text : goal.returns-in-Transform-clause-text
returns-in-Transform-clause-text c time h =
    subst (λ i. IsWithinLimit (λ t. t) (input_text (record { event = tree_of c.args.event.now; rule_arn = c.args.rule_arn.now; time = time }) i) c.fill.result)
    (sym c.in-Transform.is) (c.fill.ensures.text time h)

pub returns-in-Transform-clause-json : goal.returns-in-Transform-clause-json
returns-in-Transform-clause-json c l s = filled_json (tree_of c.args.event.now) c.fill.result l c.fill.ensures.value
