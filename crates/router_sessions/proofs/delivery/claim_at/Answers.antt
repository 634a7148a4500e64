use Rattle.std.proofs.Common.{ℕ, sym, ◌∙◌, subst}
use Rattle.router_history.specs.declared.book.Seat.{Seat}
use Rattle.router_history.specs.Book.{Rests}
use Rattle.router_sessions.specs.Desk.{turns_seen}
use Rattle.router_sessions.specs.Seated.{IsClaimResult}
use Rattle.router_sessions.proofs.SeatedLemmas.{seat_is, still_seated}
use Rattle.router_sessions.proofs.delivery.claim_at.Goals as goal

pub claim-requires-clause-here : goal.claim-requires-clause-here
claim-requires-clause-here g c κs lives = c.requires.seated.0 ∙ sym c.requires.hall

pub claim-requires-clause-rests : goal.claim-requires-clause-rests
claim-requires-clause-rests g c κs lives = subst (λ (n : ℕ). Rests n (turns_seen c.args.pass.now.seat)) (sym c.requires.seated.2) c.requires.rests

pub returns-clause-seated : goal.returns-clause-seated
returns-clause-seated g c =
    still_seated g.N.Naming.hall g.N.Naming.seat g.N.Naming.passes g.N.Naming.made c.args.pass.now.seat c.claim.new.pass.seat c.requires.seated c.claim.ensures.pass.0
    c.claim.ensures.pass.1 c.claim.ensures.book

pub returns-clause-claimed : goal.returns-clause-claimed
returns-clause-claimed g c =
    let old = c.args.pass.now.seat in
    let new = c.claim.new.pass.seat in
    subst (λ (s : Seat). IsClaimResult s c.args.reading old new c.claim.result) (seat_is g.N.Naming.seat c.args.desk.connection old c.requires.named c.requires.seated.2)
    (record {
      first = c.requires.seated.5;
      book = c.claim.ensures.book;
      more = c.claim.ensures.more;
      held = c.claim.ensures.held;
      idle = c.claim.ensures.idle;
      refused = c.claim.ensures.refused;
    })
