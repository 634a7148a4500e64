use Rattle.std.proofs.Common.{◌++◌, codes}
use Rattle.event_shape.proofs.NameLemmas.{bus_resource}
use Rattle.event_shape.proofs.names.bus_name_in.Goals as goal

pub returns-in-Some : goal.returns-in-Some
returns-in-Some c = bus_resource c.args.text.now c.in-Some.resource.now c.after_prefix-in-Some.result c.in-Some.ensures c.after_prefix-in-Some.ensures

pub returns-in-None : goal.returns-in-None
returns-in-None c = λ rest. c.in-None.ensures (codes "event-bus/" ++ rest)
