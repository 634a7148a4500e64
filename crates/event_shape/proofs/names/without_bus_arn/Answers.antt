use Rattle.std.proofs.Common.{sym, ap, unwrap_or}
use Rattle.event_shape.proofs.NameLemmas.{bus_prefix, after_some, after_none}
use Rattle.event_shape.proofs.names.without_bus_arn.Goals as goal

pub returns-in-Some : goal.returns-in-Some
returns-in-Some c = sym (ap (λ o. unwrap_or o c.args.text.now) (after_some bus_prefix c.args.text.now c.in-Some.name.now c.in-Some.ensures))

pub returns-in-None : goal.returns-in-None
returns-in-None c = sym (ap (λ o. unwrap_or o c.args.text.now) (after_none bus_prefix c.args.text.now c.in-None.ensures))
