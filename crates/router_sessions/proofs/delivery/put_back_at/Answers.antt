use Rattle.std.proofs.Common.{ℕ, sym, ◌∙◌, subst}
use Rattle.router_history.specs.declared.book.Seat.{Seat}
use Rattle.router_history.specs.Held.{held_claim}
use Rattle.router_history.specs.Book.{Rests, Holds}
use Rattle.router_sessions.specs.Desk.{turns_seen}
use Rattle.router_sessions.specs.Seated.{IsBackResult}
use Rattle.router_sessions.proofs.SeatedLemmas.{seat_is, still_seated}
use Rattle.router_sessions.proofs.delivery.put_back_at.Goals as goal

pub put_back-requires-clause-here : goal.put_back-requires-clause-here
put_back-requires-clause-here g c κs lives = c.requires.seated.0 ∙ sym c.requires.hall

pub put_back-requires-clause-holds : goal.put_back-requires-clause-holds
put_back-requires-clause-holds g c κs lives =
    subst (λ (n : ℕ). Holds n (turns_seen c.args.pass.now.seat) (held_claim c.args.held)) (sym c.requires.seated.2) c.requires.holds

pub returns-clause-seated : goal.returns-clause-seated
returns-clause-seated g c =
    still_seated g.N.Naming.hall g.N.Naming.seat g.N.Naming.passes g.N.Naming.made c.args.pass.now.seat c.put_back.new.pass.seat c.requires.seated c.put_back.ensures.pass.0
    c.put_back.ensures.pass.1 c.put_back.ensures.book

pub returns-clause-rests : goal.returns-clause-rests
returns-clause-rests g c = subst (λ (n : ℕ). Rests n (turns_seen c.put_back.new.pass.seat)) c.requires.seated.2 c.put_back.ensures.rests

pub returns-clause-put_back : goal.returns-clause-put_back
returns-clause-put_back g c =
    let old = c.args.pass.now.seat in
    let new = c.put_back.new.pass.seat in
    subst (λ (s : Seat). IsBackResult s (held_claim c.args.held) old new) (seat_is g.N.Naming.seat c.args.desk.connection old c.requires.named c.requires.seated.2)
    (record { first = c.requires.seated.5; book = c.put_back.ensures.book; more = c.put_back.ensures.more; back = c.put_back.ensures.put_back })
