use Rattle.std.proofs.Common.{◌++◌, codes}
use Rattle.event_arns.proofs.ArnLemmas.{prefixed}
use Rattle.event_arns.proofs.arns.after_bus.Goals as goal

pub returns-in-Some : goal.returns-in-Some
returns-in-Some c =
    prefixed c.args.bus.now (λ rest. codes "/" ++ rest) c.args.text.now c.in-Some.rest.now c.after_prefix-in-Some.result c.in-Some.ensures
    c.after_prefix-in-Some.ensures

pub returns-in-None : goal.returns-in-None
returns-in-None c = λ rest. c.in-None.ensures (codes "/" ++ rest)
