use Rattle.std.proofs.Common.{ℕ, sym, ◌∙◌, subst}
use Rattle.router_history.specs.declared.book.Seat.{Seat}
use Rattle.router_history.specs.Held.{held_claim}
use Rattle.router_history.specs.Book.{Rests, Holds}
use Rattle.router_sessions.specs.Desk.{turns_seen}
use Rattle.router_sessions.specs.Seated.{IsRecordResult}
use Rattle.router_sessions.proofs.SeatedLemmas.{seat_is, still_seated}
use Rattle.router_sessions.proofs.delivery.record_at.Goals as goal

pub record-requires-clause-here : goal.record-requires-clause-here
record-requires-clause-here g c κs lives = c.requires.seated.0 ∙ sym c.requires.hall

pub record-requires-clause-holds : goal.record-requires-clause-holds
record-requires-clause-holds g c κs lives =
    subst (λ (n : ℕ). Holds n (turns_seen c.args.pass.now.seat) (held_claim c.args.held)) (sym c.requires.seated.2) c.requires.holds

pub returns-clause-seated : goal.returns-clause-seated
returns-clause-seated g c =
    still_seated g.N.Naming.hall g.N.Naming.seat g.N.Naming.passes g.N.Naming.made c.args.pass.now.seat c.record.new.pass.seat c.requires.seated c.record.ensures.pass.0
    c.record.ensures.pass.1 c.record.ensures.book

pub returns-clause-rests : goal.returns-clause-rests
returns-clause-rests g c = subst (λ (n : ℕ). Rests n (turns_seen c.record.new.pass.seat)) c.requires.seated.2 c.record.ensures.rests

pub returns-clause-recorded : goal.returns-clause-recorded
returns-clause-recorded g c =
    let old = c.args.pass.now.seat in
    let new = c.record.new.pass.seat in
    subst (λ (s : Seat). IsRecordResult s (held_claim c.args.held) c.args.outcome old new c.record.result)
    (seat_is g.N.Naming.seat c.args.desk.connection old c.requires.named c.requires.seated.2)
    (record {
      first = c.requires.seated.5;
      book = c.record.ensures.book;
      more = c.record.ensures.more;
      recorded = c.record.ensures.recorded;
      refused = c.record.ensures.refused;
    })
