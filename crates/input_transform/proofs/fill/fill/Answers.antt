use Rattle.std.proofs.Common.{sym, subst}
use Rattle.json_text.specs.View.{tree_of}
use Rattle.event_time.specs.Time.{IsIso}
use Rattle.input_transform.proofs.FillLemmas.{at_time}
use Rattle.input_transform.proofs.fill.fill.Goals as goal

pub returns-in-Ok-clause-text : goal.returns-in-Ok-clause-text
returns-in-Ok-clause-text c time h =
    at_time (tree_of c.args.event.now) c.args.rule_arn.now c.as_str.result.now time c.args.ingested c.args.template.now.1 c.args.template.now.0 c.fill_at.result
    (subst (IsIso c.args.ingested) (sym c.as_str.ensures.value) c.in-Ok.ensures.value) h c.fill_at.ensures.text
