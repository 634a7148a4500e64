use Rattle.std.proofs.Common.{◌≡◌, true, false, sym, ◌∙◌}
use Rattle.std.specs.Str.{bytes_eq}
use Rattle.event_shape.specs.Names.{default_bus}
use Rattle.event_arns.proofs.ArnLemmas.{rule_on_default, rule_after_bus, no_rule}
use Rattle.event_arns.proofs.arns.rule_name_in.Goals as goal

pub returns-then-eq : goal.returns-then-eq
returns-then-eq c =
    let e : bytes_eq c.args.bus.now default_bus ≡ true = sym c.eq.ensures ∙ c.if-eq.true in
    c.in-Some.ensures ∙ sym (rule_on_default c.args.bus.now c.in-Some.rest.now e)

pub returns-else-eq : goal.returns-else-eq
returns-else-eq c =
    let e : bytes_eq c.args.bus.now default_bus ≡ false = sym c.eq.ensures ∙ c.if-eq.false in
    rule_after_bus c.args.arn.now c.in-Some.rest.now c.args.bus.now c.after_bus.result e c.in-Some.ensures c.after_bus.ensures

pub returns-in-None : goal.returns-in-None
returns-in-None c = no_rule c.args.arn.now c.args.bus.now c.in-None.ensures
