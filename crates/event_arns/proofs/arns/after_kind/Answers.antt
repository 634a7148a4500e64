use Rattle.std.proofs.Common.{[], ◌++◌}
use Rattle.event_shape.specs.Names.{events_arn}
use Rattle.event_arns.proofs.ArnLemmas.{prefixed}
use Rattle.event_arns.proofs.arns.after_kind.Goals as goal

pub returns-in-Some : goal.returns-in-Some
returns-in-Some c =
    prefixed (events_arn []) (λ rest. c.args.kind.now ++ rest) c.args.text.now c.in-Some.resource.now c.after_prefix-in-Some.result c.in-Some.ensures
    c.after_prefix-in-Some.ensures

pub returns-in-None : goal.returns-in-None
returns-in-None c = λ rest. c.in-None.ensures (c.args.kind.now ++ rest)
