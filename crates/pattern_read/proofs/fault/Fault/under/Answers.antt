use Rattle.pattern_read.proofs.CheckLemmas.{under_reported}
use Rattle.pattern_read.proofs.fault.Fault.under.Goals as goal

pub returns-in-Ok : goal.returns-in-Ok
returns-in-Ok c = λ checks h.
    under_reported c.args.key.now checks c.in-Refused.why c.in-Refused.path c.in-Ok.path c.args.self c.in-Refused.is c.in-Ok.ensures h
