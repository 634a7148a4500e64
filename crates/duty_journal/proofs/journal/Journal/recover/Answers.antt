use Rattle.std.proofs.Common.{map, refl, sym, ap, subst, ◌∙◌}
use Rattle.router_disk.specs.Disk.{AreAnswers}
use Rattle.record_file.specs.Kept.{IsOpened}
use Rattle.record_file.proofs.LookLemmas.{OnlyLooks-opened}
use Rattle.router_core.specs.Tables.{first_tables}
use Rattle.duty_journal.specs.Batch.{batch_bytes}
use Rattle.duty_journal.specs.Journal.{batches_in}
use Rattle.duty_journal.specs.Recovery.{HasOpened, batches_found}
use Rattle.duty_journal.proofs.OpeningLemmas.{begun_so, empty_now, file_so, found_so, not_ours_now, opened_so, payloads_so, sized, stopped_begun, stopped_by_looks}
use Rattle.duty_journal.proofs.journal.Journal.recover.Goals as goal

pub read_records-requires-clause-long : goal.read_records-requires-clause-long
read_records-requires-clause-long g c κs lives = c.in-Records.ensures.long c.in-Records.size refl

pub read_records-requires-clause-records : goal.read_records-requires-clause-records
read_records-requires-clause-records g c κs lives =
    sized (g.D.Disk.calls c.settle.new.disk) (g.D.Disk.calls c.file_kind.new.disk) c.in-Records.size c.in-Records.ensures.looks c.in-Records.ensures.kind

pub begin-requires-after_bounds : goal.begin-requires-after_bounds
begin-requires-after_bounds g c κs lives =
    empty_now (g.D.Disk.calls c.settle.new.disk) (g.D.Disk.calls c.file_kind.new.disk) c.in-Empty.ensures.looks c.in-Empty.ensures.kind

pub returns-in-Ok-read_records-clause-found : goal.returns-in-Ok-read_records-clause-found
returns-in-Ok-read_records-clause-found g c =
    let e = c.in-Ok-read_records.ensures in
    let scan = c.in-Ok-read_records.scan in
    let tables = c.in-Ok-read_records.tables in
    let found = c.found_in-found.result in
    let made = c.resume-file.ensures.made in
    let batches = c.found_in-found.ensures.batches in
    let own = ap batches_in made.1 ∙ sym batches in
    let opened : IsOpened (g.D.Disk.calls c.read_records.new.disk) 1 =
    OnlyLooks-opened (g.D.Disk.calls c.file_kind.new.disk) (g.D.Disk.calls c.read_records.new.disk) e.looks 1
    (c.in-Records.ensures.opened 1 c.in-Ok.ensures.opened) in (
      found_so first_tables found scan tables batches c.found_in-found.ensures.tables e.ok.2,
      own,
      made.2,
      (
        c.resume-file.ensures.sound 1 opened,
        made.1 ∙ payloads_so first_tables found scan tables batches e.ok.2 ∙ ap (map batch_bytes) (sym own),
      ),
    )

pub returns-in-Ok-read_records-clause-opened : goal.returns-in-Ok-read_records-clause-opened
returns-in-Ok-read_records-clause-opened g c = λ first answers.
    let e = c.in-Ok-read_records.ensures in
    let found = c.found_in-found.result in
    let calls = g.D.Disk.calls c.read_records.new.disk in
    let same = ap g.D.Disk.calls c.resume-file.ensures.made.0 in
    let own = subst (AreAnswers first) same answers in
    let opened : IsOpened calls 1 =
    OnlyLooks-opened (g.D.Disk.calls c.file_kind.new.disk) calls e.looks 1 (c.in-Records.ensures.opened 1 c.in-Ok.ensures.opened) in
    let now = opened first own in
    let journal = file_so first_tables found c.in-Ok-read_records.scan c.in-Ok-read_records.tables calls c.found_in-found.ensures.batches e.ok.2 e.ok.0
    e.ok.1 e.ok.3 first first own now.known in
    subst (λ cs. HasOpened first cs (batches_found found)) (sym same) (opened_so first calls (batches_found found) now journal)

pub returns-in-Err-read_records-clause-unwritten : goal.returns-in-Err-read_records-clause-unwritten
returns-in-Err-read_records-clause-unwritten g c = λ other.
    OnlyLooks-opened (g.D.Disk.calls c.file_kind.new.disk) (g.D.Disk.calls c.read_records.new.disk) c.in-Err-read_records.ensures.looks 1
    (c.in-Records.ensures.opened 1 c.in-Ok.ensures.opened)

pub returns-in-Err-read_records-clause-stopped : goal.returns-in-Err-read_records-clause-stopped
returns-in-Err-read_records-clause-stopped g c =
    stopped_by_looks (g.D.Disk.calls c.read_records.new.disk)
    (OnlyLooks-opened (g.D.Disk.calls c.file_kind.new.disk) (g.D.Disk.calls c.read_records.new.disk) c.in-Err-read_records.ensures.looks 1
    (c.in-Records.ensures.opened 1 c.in-Ok.ensures.opened))

pub returns-in-Ok-begin-clause-found : goal.returns-in-Ok-begin-clause-found
returns-in-Ok-begin-clause-found g c =
    let none = c.in-Ok-nothing_found.ensures.found in
    let made = c.in-Ok-begin.ensures.made in (
      none.0,
      ap batches_in made.0 ∙ sym none.1,
      made.1,
      (
        c.in-Ok-begin.ensures.sound 1 (c.in-Empty.ensures.opened 1 c.in-Ok.ensures.opened),
        made.0 ∙ sym (ap (λ ps. map batch_bytes (batches_in ps)) made.0),
      ),
    )

pub returns-in-Ok-begin-clause-opened : goal.returns-in-Ok-begin-clause-opened
returns-in-Ok-begin-clause-opened g c = λ first answers.
    let e = c.in-Ok-begin.ensures in
    let old = g.D.Disk.calls c.file_kind.new.disk in
    let opened : IsOpened old 1 = c.in-Empty.ensures.opened 1 c.in-Ok.ensures.opened in
    let empty = empty_now (g.D.Disk.calls c.settle.new.disk) old c.in-Empty.ensures.looks c.in-Empty.ensures.kind in
    subst (HasOpened first (g.D.Disk.calls c.in-Ok-begin.file.disk)) (sym c.in-Ok-nothing_found.ensures.found.1)
    (begun_so g.D.Disk.calls old c.in-Ok-begin.file opened empty e.answers (e.sound 1 opened) e.made.1 e.made.0 (e.kept 1 opened) first answers)

pub returns-in-Err-begin-clause-stopped : goal.returns-in-Err-begin-clause-stopped
returns-in-Err-begin-clause-stopped g c =
    let e = c.in-Err-begin.ensures in
    let old = g.D.Disk.calls c.file_kind.new.disk in
    let opened : IsOpened old 1 = c.in-Empty.ensures.opened 1 c.in-Ok.ensures.opened in
    stopped_begun old (g.D.Disk.calls c.in-Err-begin.disk) opened
    (empty_now (g.D.Disk.calls c.settle.new.disk) old c.in-Empty.ensures.looks c.in-Empty.ensures.kind) e.answers (e.kept 1 opened)

pub returns-in-Err-nothing_found-clause-unwritten : goal.returns-in-Err-nothing_found-clause-unwritten
returns-in-Err-nothing_found-clause-unwritten g c = λ other. c.in-Empty.ensures.opened 1 c.in-Ok.ensures.opened

pub returns-in-Err-nothing_found-clause-stopped : goal.returns-in-Err-nothing_found-clause-stopped
returns-in-Err-nothing_found-clause-stopped g c =
    stopped_by_looks (g.D.Disk.calls c.file_kind.new.disk) (c.in-Empty.ensures.opened 1 c.in-Ok.ensures.opened)

pub returns-in-NotOurs-clause-fault : goal.returns-in-NotOurs-clause-fault
returns-in-NotOurs-clause-fault g c =
    not_ours_now (g.D.Disk.calls c.settle.new.disk) (g.D.Disk.calls c.file_kind.new.disk) c.in-NotOurs.ensures.looks c.in-NotOurs.ensures.kind

pub returns-in-NotOurs-clause-unwritten : goal.returns-in-NotOurs-clause-unwritten
returns-in-NotOurs-clause-unwritten g c = λ other. c.in-NotOurs.ensures.opened 1 c.in-Ok.ensures.opened

pub returns-in-Failed-clause-stopped : goal.returns-in-Failed-clause-stopped
returns-in-Failed-clause-stopped g c =
    stopped_by_looks (g.D.Disk.calls c.file_kind.new.disk) (c.in-Failed.ensures.opened 1 c.in-Ok.ensures.opened)

pub returns-in-NotOurs-clause-stopped : goal.returns-in-NotOurs-clause-stopped
returns-in-NotOurs-clause-stopped g c =
    stopped_by_looks (g.D.Disk.calls c.file_kind.new.disk) (c.in-NotOurs.ensures.opened 1 c.in-Ok.ensures.opened)
