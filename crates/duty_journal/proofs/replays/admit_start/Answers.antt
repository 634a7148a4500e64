use Rattle.duty_journal.proofs.replays.admit_start.Goals as goal

pub returns-in-Ok-clause-ok : goal.returns-in-Ok-clause-ok
returns-in-Ok-clause-ok c =
    (c.can_start.ensures.0 c.if-not-can_start.false, (c.in-Ok.ensures.part c.args.tables.now.set, c.in-Ok.ensures.made))
