use Rattle.std.proofs.Common.{[], ◌∷◌, None, Ok, Err, refl, sym, ap, subst}
use Rattle.std.proofs.lemmas.Result.{err_from_is_err_and}
use Rattle.router_requests.specs.Batch.{Batch}
use Rattle.router_requests.specs.View.{batch_of}
use Rattle.router_core.specs.Admitted.{IsAdmitted}
use Rattle.router_core.specs.Tables.{moment_at}
use Rattle.duty_journal.specs.Home.{CanAppend, HasAppended}
use Rattle.router_history.specs.History.{repeats, breaks}
use Rattle.router_history.specs.Book.{turns_of}
use Rattle.router_history.specs.Answered.{IsAdded, IsBroken}
use Rattle.router_history.proofs.HomeLemmas.{lost_journal, sound_home}
use Rattle.router_history.proofs.RepeatLemmas.{repeat_lacks, repeat_broke}
use Rattle.router_history.proofs.SoundLemmas.{sound_appended, sound_lost, whole_book, step_can_append}
use Rattle.router_history.proofs.book.Book.append_step.Goals as goal

pub append-requires-clause-sound : goal.append-requires-clause-sound
append-requires-clause-sound g c κs lives =
    sound_home g.D.Disk.calls g.D.Disk.faults (turns_of c.args.self.now.machine) c.args.self.now.home c.requires.book.home

pub append-requires-clause-next : goal.append-requires-clause-next
append-requires-clause-next g c κs lives = (
  batch_of c.batch.result.now,
  c.in_ok-prepared.ensures,
  subst (λ (b : Batch). CanAppend c.args.self.now.home b) (sym (ap batch_of c.batch.ensures))
      (step_can_append g.D.Disk.calls g.D.Disk.faults c.args.self.now (moment_at c.args.self.now.machine.tables c.args.reading) (batch_of c.in_ok-ready.ready.batch)
      c.requires.book c.in_ok-ready.ensures.ready.admitted c.in_ok-ready.ensures.step),
)

pub repeat-requires-clause-unbroken : goal.repeat-requires-clause-unbroken
repeat-requires-clause-unbroken g c = whole_book g.D.Disk.calls g.D.Disk.faults c.args.self.now c.requires.book c.requires.unbroken

pub break_by-requires-clause-unbroken : goal.break_by-requires-clause-unbroken
break_by-requires-clause-unbroken g c = whole_book g.D.Disk.calls g.D.Disk.faults c.args.self.now c.requires.book c.requires.unbroken

pub break_by-requires-clause-journal : goal.break_by-requires-clause-journal
break_by-requires-clause-journal g c =
    lost_journal g.D.Disk.calls g.D.Disk.faults (turns_of c.args.self.now.machine) c.args.self.now.home c.append.new.self (batch_of c.batch.result.now) (Err c.in-Err.field-0)
    c.in-Err.field-0 refl c.requires.book.home
    (c.in-Err.ensures (batch_of c.batch.result.now) c.in_ok-prepared.ensures
    (subst (λ (b : Batch). CanAppend c.args.self.now.home b) (sym (ap batch_of c.batch.ensures))
    (step_can_append g.D.Disk.calls g.D.Disk.faults c.args.self.now (moment_at c.args.self.now.machine.tables c.args.reading) (batch_of c.in_ok-ready.ready.batch)
    c.requires.book c.in_ok-ready.ensures.ready.admitted c.in_ok-ready.ensures.step)))

pub break_by-requires-clause-admitted : goal.break_by-requires-clause-admitted
break_by-requires-clause-admitted g c =
    subst (λ (b : Batch). IsAdmitted c.args.self.now.machine.tables b) (sym (ap batch_of c.batch-in-Err.ensures)) c.in_ok-ready.ensures.ready.admitted

pub returns-in_err-ready-clause-refused : goal.returns-in_err-ready-clause-refused
returns-in_err-ready-clause-refused g c =
    let p = err_from_is_err_and c.from_residual.result c.from_residual.ensures.1 in
    rw (p.1, p.2) (repeat_lacks c.args.seat c.args.self.now.machine c.args.reading)

pub returns-in_err-prepared-clause-refused : goal.returns-in_err-prepared-clause-refused
returns-in_err-prepared-clause-refused g c =
    let p = err_from_is_err_and c.from_residual-in_err-prepared.result c.from_residual-in_err-prepared.ensures.1 in
    rw (p.1, p.2) (repeat_lacks c.args.seat c.args.self.now.machine c.args.reading)

pub returns-in-Ok-clause-book : goal.returns-in-Ok-clause-book
returns-in-Ok-clause-book g c =
    sound_appended g.D.Disk.calls g.D.Disk.faults c.args.self.now c.repeat.new.self c.append.new.self (repeats c.args.reading)
    (batch_of c.in_ok-ready.ready.batch) (Ok tt) tt refl c.requires.book c.repeat.ensures.kept c.in_ok-ready.ensures.ready.admitted c.requires.unbroken c.repeat.ensures.added
    (subst (λ (b : Batch). HasAppended g.D.Disk.calls g.D.Disk.faults c.args.self.now.home c.append.new.self b (Ok tt)) (ap batch_of c.batch.ensures)
    (c.in-Ok.ensures (batch_of c.batch.result.now) c.in_ok-prepared.ensures
    (subst (λ (b : Batch). CanAppend c.args.self.now.home b) (sym (ap batch_of c.batch.ensures))
    (step_can_append g.D.Disk.calls g.D.Disk.faults c.args.self.now (moment_at c.args.self.now.machine.tables c.args.reading) (batch_of c.in_ok-ready.ready.batch)
    c.requires.book c.in_ok-ready.ensures.ready.admitted c.in_ok-ready.ensures.step))))

pub returns-in-Err-clause-book : goal.returns-in-Err-clause-book
returns-in-Err-clause-book g c =
    sound_lost g.D.Disk.calls g.D.Disk.faults c.args.self.now c.break_by.new.self c.append.new.self (batch_of c.in_ok-ready.ready.batch) (Err c.in-Err.field-0) c.in-Err.field-0
    refl c.requires.book c.break_by.ensures.kept c.in_ok-ready.ensures.ready.admitted c.requires.unbroken
    (subst (λ (b : Batch). IsAdded (breaks (b ∷ [])) None (turns_of c.args.self.now.machine) (turns_of c.break_by.new.self)) (ap batch_of c.batch-in-Err.ensures)
    c.break_by.ensures.added)
    (subst (λ (b : Batch). HasAppended g.D.Disk.calls g.D.Disk.faults c.args.self.now.home c.append.new.self b (Err c.in-Err.field-0)) (ap batch_of c.batch.ensures)
    (c.in-Err.ensures (batch_of c.batch.result.now) c.in_ok-prepared.ensures
    (subst (λ (b : Batch). CanAppend c.args.self.now.home b) (sym (ap batch_of c.batch.ensures))
    (step_can_append g.D.Disk.calls g.D.Disk.faults c.args.self.now (moment_at c.args.self.now.machine.tables c.args.reading) (batch_of c.in_ok-ready.ready.batch)
    c.requires.book c.in_ok-ready.ensures.ready.admitted c.in_ok-ready.ensures.step))))

pub returns-in-Err-clause-refused : goal.returns-in-Err-clause-refused
returns-in-Err-clause-refused g c =
    repeat_broke c.args.seat c.args.self.now.machine c.args.reading (batch_of c.in_ok-ready.ready.batch) (turns_of c.break_by.new.self) c.requires.book.kept
    c.in_ok-ready.ensures.step
    (subst (λ (b : Batch). IsBroken c.args.seat b (turns_of c.args.self.now.machine) (turns_of c.break_by.new.self)) (ap batch_of c.batch-in-Err.ensures)
    c.break_by.ensures.broken)
