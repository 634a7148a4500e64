use Rattle.std.proofs.Common.{[], ◌∙◌}
use Rattle.router_core.specs.Tables.{first_tables}
use Rattle.record_file.specs.State.{IsScan}
use Rattle.duty_journal.specs.Recovery.{IsReadTo}
use Rattle.duty_journal.proofs.RecoveryLemmas.{fault_of_read}
use Rattle.duty_journal.proofs.recover.read_records.Goals as goal

pub returns-in-Ok-redo_all-clause-ok : goal.returns-in-Ok-redo_all-clause-ok
returns-in-Ok-redo_all-clause-ok g c =
    let end = c.in-Ok-redo_all.ensures.read in
    let scan : IsScan (g.D.Disk.calls c.args.disk.now) c.new-scan.result =
    λ first file answers known. let r = c.requires.records first file answers known in c.new-scan.ensures.scan file r.0 r.1 r.2 in
    let read : IsReadTo first_tables c.new-scan.result c.in-Ok.tables =
    record { batches = []; payloads = c.new-scan.ensures.found; recordable = tt; tables = c.in-Ok.ensures } in
    (end.scan scan, end.closed scan, end.read first_tables read, end.first ∙ c.new-scan.ensures.first)

pub returns-in-Err-redo_all-clause-fault : goal.returns-in-Err-redo_all-clause-fault
returns-in-Err-redo_all-clause-fault g c =
    let scan : IsScan (g.D.Disk.calls c.args.disk.now) c.new-scan.result =
    λ first file answers known. let r = c.requires.records first file answers known in c.new-scan.ensures.scan file r.0 r.1 r.2 in
    let read : IsReadTo first_tables c.new-scan.result c.in-Ok.tables =
    record { batches = []; payloads = c.new-scan.ensures.found; recordable = tt; tables = c.in-Ok.ensures } in
    fault_of_read first_tables (g.D.Disk.calls c.args.disk.now) (g.D.Disk.calls c.redo_all.new.disk) c.new-scan.result c.redo_all.new.scan c.in-Ok.tables c.redo_all.new.tables
    c.in-Err-redo_all.fault c.new-scan.ensures.first read scan c.in-Err-redo_all.ensures.read
