use Rattle.std.proofs.Common.{sym, ◌∙◌}
use Rattle.event_shape.specs.Names.{is_bus_name, bus_arn}
use Rattle.event_arns.proofs.ArnLemmas.{not_valid, bus_arn_once}
use Rattle.event_arns.proofs.arns.bus_of_arn.Goals as goal

pub returns-else-is_bus_name : goal.returns-else-is_bus_name
returns-else-is_bus_name c =
    not_valid is_bus_name bus_arn bus_arn_once c.args.arn.now c.in-Some.name.now c.in-Some.ensures (sym c.is_bus_name.ensures ∙ c.if-is_bus_name.false)

pub returns-in-None : goal.returns-in-None
returns-in-None c = λ bus is. c.in-None.ensures bus is.1
