use Rattle.std.proofs.Common.{◌≡◌, ℕ, [], ◌∷◌, None, Ok, Err, refl, sym, ap, ◌∙◌, subst}
use Rattle.delivery_duties.specs.declared.outcome.Outcome.{Outcome}
use Rattle.router_core.specs.Admitted.{IsAdmitted}
use Rattle.router_requests.specs.Batch.{Batch}
use Rattle.router_requests.specs.View.{batch_of}
use Rattle.router_core.specs.Tables.{Tables, is_full, moment_at}
use Rattle.router_core.specs.Steps.{IsRecordedAs, record_of}
use Rattle.duty_journal.specs.Home.{HasAppended}
use Rattle.courier_run.specs.Claim.{Claim, FitsClaim}
use Rattle.courier_run.specs.Steps.{unkept}
use Rattle.router_history.specs.declared.held.Held.{Held}
use Rattle.router_history.specs.Held.{held_claim}
use Rattle.router_history.specs.History.{records, breaks, puts_back}
use Rattle.router_history.specs.Book.{turns_of, Holds}
use Rattle.router_history.specs.Answered.{IsAdded, IsBroken, IsPutBack, IsRecorded}
use Rattle.router_history.proofs.BookLemmas.{grown_twice}
use Rattle.router_history.proofs.BreakLemmas.{unkept_by}
use Rattle.router_history.proofs.HomeLemmas.{lost_journal, sound_home}
use Rattle.router_history.proofs.RecordLemmas.{record_is}
use Rattle.router_history.proofs.SoundLemmas.{sound_same, sound_appended, sound_lost, whole_book, attempt_can_append, holds_broken, broken_then}
use Rattle.router_history.proofs.book.Book.append_record.Goals as goal

-- the batch that was made is the one that was appended
appended_is : (tables : Tables) (held now : Held) (b : Batch) (at n : ℕ) (made : Outcome) → held_claim now ≡ held_claim held
    → b ≡ record_of (moment_at tables held.reading) held.errand.claim.number made → at ≡ moment_at tables now.reading → n ≡ now.errand.claim.number
    → b ≡ record_of at n made
appended_is tables held now b at n made same is at_is n_is =
    record_is b (moment_at tables held.reading) at held.errand.claim.number n made is
    (at_is ∙ ap (λ (c : Claim). moment_at tables c.reading) same) (n_is ∙ ap (λ (c : Claim). c.number) same)

pub append_attempt-requires-clause-sound : goal.append_attempt-requires-clause-sound
append_attempt-requires-clause-sound g c κs lives =
    sound_home g.D.Disk.calls g.D.Disk.faults (turns_of c.args.self.now.machine) c.args.self.now.home c.requires.book.home

pub append_attempt-requires-clause-next : goal.append_attempt-requires-clause-next
append_attempt-requires-clause-next g c κs lives =
    let made = c.attempted-held.result in
    attempt_can_append g.D.Disk.calls g.D.Disk.faults c.args.self.now (batch_of made.0.errand.batch) c.turn_moment-moment.result c.number.result made.1 c.requires.book
    c.attempted-held.ensures.admitted
    (appended_is c.args.self.now.machine.tables c.args.held made.0 (batch_of made.0.errand.batch) c.turn_moment-moment.result c.number.result made.1
    c.attempted-held.ensures.claim c.attempted-held.ensures.recorded.1 c.turn_moment-moment.ensures.moment c.number.ensures)

pub record-requires-clause-unbroken : goal.record-requires-clause-unbroken
record-requires-clause-unbroken g c = whole_book g.D.Disk.calls g.D.Disk.faults c.args.self.now c.requires.book c.requires.unbroken

pub record-requires-clause-holds : goal.record-requires-clause-holds
record-requires-clause-holds g c =
    subst (λ (x : Claim). Holds c.args.seat.pass (turns_of c.args.self.now.machine) x) (sym c.attempted-held.ensures.claim) c.requires.holds

pub record-requires-clause-fits : goal.record-requires-clause-fits
record-requires-clause-fits g c = subst (λ (x : Claim). FitsClaim x c.args.outcome) (sym c.attempted-held.ensures.claim) c.requires.fits

pub record-requires-clause-recorded : goal.record-requires-clause-recorded
record-requires-clause-recorded g c =
    let made = c.attempted-held.result in (
      subst (λ (x : Claim). IsRecordedAs c.args.self.now.machine.tables.duties.queues x.endpoint c.args.outcome made.1) (sym c.attempted-held.ensures.claim)
          c.attempted-held.ensures.recorded.0,
      subst (λ (x : Claim). batch_of made.0.errand.batch ≡ record_of (moment_at c.args.self.now.machine.tables x.reading) x.number made.1)
          (sym c.attempted-held.ensures.claim) c.attempted-held.ensures.recorded.1,
    )

pub break_by-requires-clause-unbroken : goal.break_by-requires-clause-unbroken
break_by-requires-clause-unbroken g c = whole_book g.D.Disk.calls g.D.Disk.faults c.args.self.now c.requires.book c.requires.unbroken

pub break_by-requires-clause-journal : goal.break_by-requires-clause-journal
break_by-requires-clause-journal g c =
    lost_journal g.D.Disk.calls g.D.Disk.faults (turns_of c.args.self.now.machine) c.args.self.now.home c.append_attempt.new.self
    (record_of c.turn_moment-moment.result c.number.result c.attempted-held.result.1) (Err c.in-Err.field-0) c.in-Err.field-0 refl c.requires.book.home
    c.in-Err.ensures

pub break_by-requires-clause-admitted : goal.break_by-requires-clause-admitted
break_by-requires-clause-admitted g c =
    subst (λ (b : Batch). IsAdmitted c.args.self.now.machine.tables b) (sym (ap batch_of c.batch.ensures)) c.attempted-held.ensures.admitted

pub put_back-requires-clause-holds : goal.put_back-requires-clause-holds
put_back-requires-clause-holds g c =
    holds_broken c.args.seat.pass (turns_of c.args.self.now.machine) (turns_of c.break_by.new.self) (batch_of c.batch.result.now ∷ []) (held_claim c.attempted-held.result.0)
    c.break_by.ensures.added
    (subst (λ (x : Claim). Holds c.args.seat.pass (turns_of c.args.self.now.machine) x) (sym c.attempted-held.ensures.claim) c.requires.holds)

pub put_back-requires-clause-reason : goal.put_back-requires-clause-reason
put_back-requires-clause-reason g c = (
  broken_then (turns_of c.args.self.now.machine) (turns_of c.break_by.new.self) (batch_of c.batch.result.now ∷ []) c.break_by.ensures.added,
  ap (λ t. is_full t) (c.break_by.ensures.kept.tables ∙ c.break_by.ensures.tables) ∙ c.requires.numbered,
)

pub returns-in-Ok-clause-book : goal.returns-in-Ok-clause-book
returns-in-Ok-clause-book g c =
    let made = c.attempted-held.result in
    let b : Batch = batch_of made.0.errand.batch in
    sound_appended g.D.Disk.calls g.D.Disk.faults c.args.self.now c.record.new.self c.append_attempt.new.self
    (records (record { claim = held_claim made.0; outcome = made.1; fate = c.record.result.0 })) b (Ok tt) tt refl c.requires.book
    c.record.ensures.kept c.attempted-held.ensures.admitted c.requires.unbroken c.record.ensures.added
    (subst (λ (x : Batch). HasAppended g.D.Disk.calls g.D.Disk.faults c.args.self.now.home c.append_attempt.new.self x (Ok tt))
    (sym (appended_is c.args.self.now.machine.tables c.args.held made.0 b c.turn_moment-moment.result c.number.result made.1
    c.attempted-held.ensures.claim c.attempted-held.ensures.recorded.1 c.turn_moment-moment.ensures.moment c.number.ensures))
    c.in-Ok.ensures)

pub returns-in-Ok-clause-recorded : goal.returns-in-Ok-clause-recorded
returns-in-Ok-clause-recorded g c =
    subst (λ (x : Claim). IsRecorded c.args.seat x c.args.outcome c.record.result.0 (turns_of c.args.self.now.machine) (turns_of c.record.new.self))
    c.attempted-held.ensures.claim c.record.ensures.recorded

pub returns-in-Err-clause-book : goal.returns-in-Err-clause-book
returns-in-Err-clause-book g c =
    let made = c.attempted-held.result in
    let b : Batch = batch_of made.0.errand.batch in
    sound_same g.D.Disk.calls g.D.Disk.faults (record { machine = c.break_by.new.self; home = c.append_attempt.new.self }) c.put_back.new.self
    (puts_back (held_claim made.0) unkept) tt
    (sound_lost g.D.Disk.calls g.D.Disk.faults c.args.self.now c.break_by.new.self c.append_attempt.new.self b (Err c.in-Err.field-0) c.in-Err.field-0 refl
    c.requires.book c.break_by.ensures.kept c.attempted-held.ensures.admitted c.requires.unbroken
    (subst (λ (x : Batch). IsAdded (breaks (x ∷ [])) None (turns_of c.args.self.now.machine) (turns_of c.break_by.new.self)) (ap batch_of c.batch.ensures)
    c.break_by.ensures.added)
    (subst (λ (x : Batch). HasAppended g.D.Disk.calls g.D.Disk.faults c.args.self.now.home c.append_attempt.new.self x (Err c.in-Err.field-0))
    (sym (appended_is c.args.self.now.machine.tables c.args.held made.0 b c.turn_moment-moment.result c.number.result made.1
    c.attempted-held.ensures.claim c.attempted-held.ensures.recorded.1 c.turn_moment-moment.ensures.moment c.number.ensures))
    c.in-Err.ensures))
    c.put_back.ensures.kept c.put_back.ensures.added

pub returns-in-Err-clause-grows : goal.returns-in-Err-clause-grows
returns-in-Err-clause-grows g c =
    grown_twice c.args.seat c.args.self.now.machine c.break_by.new.self c.put_back.new.self c.break_by.ensures.grows c.put_back.ensures.grows

pub returns-in-Err-clause-refused : goal.returns-in-Err-clause-refused
returns-in-Err-clause-refused g c =
    let made = c.attempted-held.result in
    let b : Batch = batch_of made.0.errand.batch in
    unkept_by c.args.seat c.args.self.now.machine (held_claim c.args.held) c.args.outcome made.1 b (turns_of c.break_by.new.self) (turns_of c.put_back.new.self)
    c.requires.book.kept c.break_by.ensures.kept.book c.attempted-held.ensures.recorded.0 c.attempted-held.ensures.recorded.1
    (subst (λ (x : Batch). IsBroken c.args.seat x (turns_of c.args.self.now.machine) (turns_of c.break_by.new.self)) (ap batch_of c.batch.ensures)
    c.break_by.ensures.broken)
    (subst (λ (x : Claim). IsPutBack c.args.seat x unkept (turns_of c.break_by.new.self) (turns_of c.put_back.new.self)) c.attempted-held.ensures.claim
    c.put_back.ensures.put_back)
