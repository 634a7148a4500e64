use Rattle.std.proofs.Common.{[], ◌∷◌, None, Ok, Err, refl, sym, ap, ◌∙◌, subst}
use Rattle.router_core.specs.Admitted.{IsAdmitted}
use Rattle.router_requests.specs.Batch.{Batch}
use Rattle.router_requests.specs.View.{batch_of, request_of}
use Rattle.duty_journal.specs.Home.{CanAppend, HasAppended}
use Rattle.router_history.specs.History.{asked, breaks}
use Rattle.router_history.specs.Book.{turns_of}
use Rattle.router_history.specs.Answered.{IsAdded, IsBroken}
use Rattle.router_history.proofs.BreakLemmas.{fails, failed_before}
use Rattle.router_history.proofs.HomeLemmas.{lost_journal, sound_home}
use Rattle.router_history.proofs.SoundLemmas.{sound_appended, sound_lost, whole_book, broken_book, decided_can_append}
use Rattle.router_history.proofs.book.Book.write.Goals as goal

pub append-requires-clause-sound : goal.append-requires-clause-sound
append-requires-clause-sound g c κs lives =
    sound_home g.D.Disk.calls g.D.Disk.faults (turns_of c.args.self.now.machine) c.args.self.now.home c.requires.book.home

pub append-requires-clause-next : goal.append-requires-clause-next
append-requires-clause-next g c κs lives = (
  batch_of c.batch.result.now,
  c.in_ok-prepared.ensures,
  subst (λ (b : Batch). CanAppend c.args.self.now.home b) (sym (ap batch_of c.batch.ensures))
      (decided_can_append g.D.Disk.calls g.D.Disk.faults c.args.self.now (request_of c.args.request.now) c.args.ready c.args.reply c.requires.book c.requires.decided),
)

pub change-requires-clause-unbroken : goal.change-requires-clause-unbroken
change-requires-clause-unbroken g c =
    whole_book g.D.Disk.calls g.D.Disk.faults c.args.self.now c.requires.book (sym c.is_broken.ensures ∙ c.if-is_broken.false)

pub break_by-requires-clause-unbroken : goal.break_by-requires-clause-unbroken
break_by-requires-clause-unbroken g c =
    whole_book g.D.Disk.calls g.D.Disk.faults c.args.self.now c.requires.book (sym c.is_broken.ensures ∙ c.if-is_broken.false)

pub break_by-requires-clause-journal : goal.break_by-requires-clause-journal
break_by-requires-clause-journal g c =
    lost_journal g.D.Disk.calls g.D.Disk.faults (turns_of c.args.self.now.machine) c.args.self.now.home c.append.new.self (batch_of c.batch.result.now) (Err c.in-Err.field-0)
    c.in-Err.field-0 refl c.requires.book.home
    (c.in-Err.ensures (batch_of c.batch.result.now) c.in_ok-prepared.ensures
    (subst (λ (b : Batch). CanAppend c.args.self.now.home b) (sym (ap batch_of c.batch.ensures))
    (decided_can_append g.D.Disk.calls g.D.Disk.faults c.args.self.now (request_of c.args.request.now) c.args.ready c.args.reply c.requires.book c.requires.decided)))

pub break_by-requires-clause-admitted : goal.break_by-requires-clause-admitted
break_by-requires-clause-admitted g c =
    subst (λ (b : Batch). IsAdmitted c.args.self.now.machine.tables b) (sym (ap batch_of c.batch-in-Err.ensures)) c.requires.decided.ready.admitted

pub returns-then-is_broken-clause-broken : goal.returns-then-is_broken-clause-broken
returns-then-is_broken-clause-broken g c = λ is.
    failed_before c.args.self.now.machine c.args.seat (request_of c.args.request.now) c.args.ready c.args.reply c.requires.book.kept c.requires.askable
    c.requires.decided (broken_book g.D.Disk.calls g.D.Disk.faults c.args.self.now c.requires.book (sym c.is_broken.ensures ∙ c.if-is_broken.true))

pub returns-in-Ok-clause-book : goal.returns-in-Ok-clause-book
returns-in-Ok-clause-book g c =
    sound_appended g.D.Disk.calls g.D.Disk.faults c.args.self.now c.change.new.self c.append.new.self (asked (request_of c.args.request.now))
    (batch_of c.args.ready.batch) (Ok tt) tt refl c.requires.book c.change.ensures.kept c.requires.decided.ready.admitted
    (sym c.is_broken.ensures ∙ c.if-is_broken.false) c.change.ensures.added
    (subst (λ (b : Batch). HasAppended g.D.Disk.calls g.D.Disk.faults c.args.self.now.home c.append.new.self b (Ok tt)) (ap batch_of c.batch.ensures)
    (c.in-Ok.ensures (batch_of c.batch.result.now) c.in_ok-prepared.ensures
    (subst (λ (b : Batch). CanAppend c.args.self.now.home b) (sym (ap batch_of c.batch.ensures))
    (decided_can_append g.D.Disk.calls g.D.Disk.faults c.args.self.now (request_of c.args.request.now) c.args.ready c.args.reply c.requires.book c.requires.decided))))

pub returns-in-Err-clause-book : goal.returns-in-Err-clause-book
returns-in-Err-clause-book g c =
    sound_lost g.D.Disk.calls g.D.Disk.faults c.args.self.now c.break_by.new.self c.append.new.self (batch_of c.args.ready.batch) (Err c.in-Err.field-0) c.in-Err.field-0
    refl c.requires.book c.break_by.ensures.kept c.requires.decided.ready.admitted (sym c.is_broken.ensures ∙ c.if-is_broken.false)
    (subst (λ (b : Batch). IsAdded (breaks (b ∷ [])) None (turns_of c.args.self.now.machine) (turns_of c.break_by.new.self)) (ap batch_of c.batch-in-Err.ensures)
    c.break_by.ensures.added)
    (subst (λ (b : Batch). HasAppended g.D.Disk.calls g.D.Disk.faults c.args.self.now.home c.append.new.self b (Err c.in-Err.field-0)) (ap batch_of c.batch.ensures)
    (c.in-Err.ensures (batch_of c.batch.result.now) c.in_ok-prepared.ensures
    (subst (λ (b : Batch). CanAppend c.args.self.now.home b) (sym (ap batch_of c.batch.ensures))
    (decided_can_append g.D.Disk.calls g.D.Disk.faults c.args.self.now (request_of c.args.request.now) c.args.ready c.args.reply c.requires.book c.requires.decided))))

pub returns-in-Err-clause-broken : goal.returns-in-Err-clause-broken
returns-in-Err-clause-broken g c = λ is.
    fails c.args.self.now.machine c.args.seat (turns_of c.break_by.new.self) (request_of c.args.request.now) c.args.ready c.args.reply c.requires.book.kept c.requires.askable
    c.requires.decided
    (subst (λ (b : Batch). IsBroken c.args.seat b (turns_of c.args.self.now.machine) (turns_of c.break_by.new.self)) (ap batch_of c.batch-in-Err.ensures)
    c.break_by.ensures.broken)
