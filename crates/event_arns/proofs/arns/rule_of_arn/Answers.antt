use Rattle.std.proofs.Common.{sym, ◌∙◌}
use Rattle.event_shape.specs.Names.{is_short_name, rule_arn}
use Rattle.event_arns.proofs.ArnLemmas.{not_valid, rule_arn_once}
use Rattle.event_arns.proofs.arns.rule_of_arn.Goals as goal

pub returns-else-is_rule_name : goal.returns-else-is_rule_name
returns-else-is_rule_name c =
    let bus = c.args.bus.now in
    not_valid is_short_name (rule_arn bus) (rule_arn_once bus) c.args.arn.now c.in-Some.name.now c.in-Some.ensures
    (sym c.is_rule_name.ensures ∙ c.if-is_rule_name.false)

pub returns-in-None : goal.returns-in-None
returns-in-None c = λ rule is. c.in-None.ensures rule is.1
