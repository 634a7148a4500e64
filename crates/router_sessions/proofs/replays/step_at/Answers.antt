use Rattle.std.proofs.Common.{ℕ, sym, ◌∙◌, subst}
use Rattle.router_history.specs.declared.book.Seat.{Seat}
use Rattle.router_history.specs.Book.{Rests}
use Rattle.router_sessions.specs.Desk.{turns_seen}
use Rattle.router_sessions.specs.Seated.{IsStepResult}
use Rattle.router_sessions.proofs.SeatedLemmas.{seat_is, still_seated}
use Rattle.router_sessions.proofs.replays.step_at.Goals as goal

pub step-requires-clause-here : goal.step-requires-clause-here
step-requires-clause-here g c κs lives = c.requires.seated.0 ∙ sym c.requires.hall

pub step-requires-clause-rests : goal.step-requires-clause-rests
step-requires-clause-rests g c κs lives = subst (λ (n : ℕ). Rests n (turns_seen c.args.pass.now.seat)) (sym c.requires.seated.2) c.requires.rests

pub returns-clause-seated : goal.returns-clause-seated
returns-clause-seated g c =
    still_seated g.N.Naming.hall g.N.Naming.seat g.N.Naming.passes g.N.Naming.made c.args.pass.now.seat c.step.new.pass.seat c.requires.seated c.step.ensures.pass.0
    c.step.ensures.pass.1 c.step.ensures.book

pub returns-clause-rests : goal.returns-clause-rests
returns-clause-rests g c = subst (λ (n : ℕ). Rests n (turns_seen c.step.new.pass.seat)) c.requires.seated.2 c.step.ensures.rests

pub returns-clause-stepped : goal.returns-clause-stepped
returns-clause-stepped g c =
    let old = c.args.pass.now.seat in
    let new = c.step.new.pass.seat in
    subst (λ (s : Seat). IsStepResult s c.args.reading old new c.step.result) (seat_is g.N.Naming.seat c.args.desk.connection old c.requires.named c.requires.seated.2)
    (record {
      first = c.requires.seated.5;
      book = c.step.ensures.book;
      more = c.step.ensures.more;
      stepped = c.step.ensures.stepped;
      refused = c.step.ensures.refused;
    })
