use Rattle.std.proofs.Common.{Some, ap}
use Rattle.duty_journal.specs.Recovery.{batches_found}
use Rattle.book_recovery.proofs.OpenedLemmas.{opened_from, starved, unopened}
use Rattle.book_recovery.proofs.opened.open_journal.Goals as goal

pub opened-requires-clause-found : goal.opened-requires-clause-found
opened-requires-clause-found g c κs lives = c.in-Ok.ensures.found

pub opened-requires-clause-opened : goal.opened-requires-clause-opened
opened-requires-clause-opened g c κs lives = c.in-Ok.ensures.opened

pub returns-in-Ok-opened-clause-opened : goal.returns-in-Ok-opened-clause-opened
returns-in-Ok-opened-clause-opened g c =
    opened_from g.D.Disk.calls g.D.Disk.faults c.args.disk c.in-Ok-opened.book c.in-Ok.journal (batches_found c.in-Ok.found) c.in-Ok-opened.ensures.home
    c.in-Ok-opened.ensures.opened c.in-Ok.ensures.found.1 c.in-Ok.ensures.count.same c.in-Ok.ensures.opened

pub returns-in-Err-opened-clause-fault : goal.returns-in-Err-opened-clause-fault
returns-in-Err-opened-clause-fault g c =
    starved g.D.Disk.calls g.D.Disk.faults c.args.disk c.in-Ok.journal c.in-Err-opened.journal (batches_found c.in-Ok.found) _ c.in-Err-opened.ensures.err (ap (λ d. Some d) c.into_disk.ensures)
    c.in-Ok.ensures.count.same c.in-Ok.ensures.count c.in-Ok.ensures.opened

pub returns-in-Err-clause-fault : goal.returns-in-Err-clause-fault
returns-in-Err-clause-fault g c =
    unopened g.D.Disk.calls g.D.Disk.faults c.args.disk c.in-Err.disk c.in-Err.fault c.in-Err.ensures.fault c.in-Err.ensures.unwritten c.in-Err.ensures.stopped
    c.in-Err.ensures.count
