use Rattle.std.proofs.Common.{refl}
use Rattle.router_core.specs.Tables.{first_tables}
use Rattle.duty_journal.proofs.OpeningLemmas.{empty_journal, empty_now, file_so, found_so, not_ours_now, sized}
use Rattle.duty_journal.proofs.recover.inspect.Goals as goal

pub read_records-requires-clause-long : goal.read_records-requires-clause-long
read_records-requires-clause-long g c κs lives = c.in-Records.ensures.long c.in-Records.size refl

pub read_records-requires-clause-records : goal.read_records-requires-clause-records
read_records-requires-clause-records g c κs lives =
    sized (g.D.Disk.calls c.args.disk.now) (g.D.Disk.calls c.file_kind.new.disk) c.in-Records.size c.in-Records.ensures.looks c.in-Records.ensures.kind

pub returns-in-Ok-clause-found : goal.returns-in-Ok-clause-found
returns-in-Ok-clause-found g c =
    found_so first_tables c.found_in.result c.in-Ok.scan c.in-Ok.tables c.found_in.ensures.batches c.found_in.ensures.tables c.in-Ok.ensures.ok.2

pub returns-in-Ok-clause-journal : goal.returns-in-Ok-clause-journal
returns-in-Ok-clause-journal g c =
    let ok = c.in-Ok.ensures.ok in
    file_so first_tables c.found_in.result c.in-Ok.scan c.in-Ok.tables (g.D.Disk.calls c.read_records.new.disk) c.found_in.ensures.batches ok.2 ok.0 ok.1 ok.3

pub returns-in-Empty-clause-journal : goal.returns-in-Empty-clause-journal
returns-in-Empty-clause-journal g c =
    empty_journal (g.D.Disk.calls c.file_kind.new.disk) c.nothing_found.result
    (empty_now (g.D.Disk.calls c.args.disk.now) (g.D.Disk.calls c.file_kind.new.disk) c.in-Empty.ensures.looks c.in-Empty.ensures.kind)
    c.nothing_found.ensures.found

pub returns-in-NotOurs-clause-fault : goal.returns-in-NotOurs-clause-fault
returns-in-NotOurs-clause-fault g c =
    not_ours_now (g.D.Disk.calls c.args.disk.now) (g.D.Disk.calls c.file_kind.new.disk) c.in-NotOurs.ensures.looks c.in-NotOurs.ensures.kind
