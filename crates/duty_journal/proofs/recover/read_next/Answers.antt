use Rattle.duty_journal.proofs.RecoveryLemmas.{damaged_step, record_step}
use Rattle.duty_journal.proofs.recover.read_next.Goals as goal

pub returns-in-Record-clause-step : goal.returns-in-Record-clause-step
returns-in-Record-clause-step g c =
    let e = c.in-Record.ensures in
    record_step (g.D.Disk.calls c.args.disk.now) (g.D.Disk.calls c.next.new.disk) c.args.scan.now c.next.new.self c.redo_record.new.scan c.args.tables.now
    c.redo_record.new.tables c.redo_record.result c.requires.unclaimed
    (record { found = e.found; place = e.place; size = e.size; first = e.first; ahead = e.ahead; scan = e.scan; next_is = e.next }) c.redo_record.ensures

pub returns-in-Damaged-clause-step : goal.returns-in-Damaged-clause-step
returns-in-Damaged-clause-step g c =
    let e = c.in-Damaged.ensures in
    damaged_step (g.D.Disk.calls c.args.disk.now) (g.D.Disk.calls c.next.new.disk) c.args.scan.now c.next.new.self c.next.new.self c.args.tables.now
    c.args.tables.now c.damage_at.result
    (record { found = e.found; place = e.place; size = e.size; first = e.first; ahead = e.ahead; scan = e.scan; next_is = e.next }) c.damage_at.ensures
