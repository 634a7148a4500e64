use Rattle.std.proofs.Common.{[], sym, ap, ◌∙◌, subst}
use Rattle.courier_run.specs.Act.{book_acts_in}
use Rattle.courier_run.specs.Link.{outside}
use Rattle.router_history.specs.declared.book.Seat.{Seat}
use Rattle.router_sessions.specs.Desk.{Known, turns_seen, SeesMore}
use Rattle.router_sessions.specs.Delivery.{Made, Delivers}
use Rattle.router_sessions.proofs.DidLemmas.{made_start, delivers}
use Rattle.router_sessions.proofs.delivery.deliver_by.Goals as goal

pub returns-clause-pass : goal.returns-clause-pass
returns-clause-pass g c =
    let (new, ended) = c.pass-1.given in
    let is = ended (sym c.turn.ensures.lender) in
    let (table, free, number, passes, made, book) = c.turn.ensures.sound.0 in (
      ap (λ p. p.seat.table_id) is ∙ table ∙ sym c.requires.hall.1,
      ap (λ p. p.seat.me.0.number) is ∙ number ∙ sym (ap (λ (s : Seat). s.pass) c.requires.seat),
      ap (λ p. p.seat.me.0.passes) is ∙ passes ∙ sym c.requires.passes.0,
      ap (λ p. p.seat.me.0.made) is ∙ made ∙ sym c.requires.passes.1,
    )

pub returns-clause-more : goal.returns-clause-more
returns-clause-more g c =
    let (new, ended) = c.pass-1.given in
    let is = ended (sym c.turn.ensures.lender) in
    let (acts, did, steps, goes) = c.turn.ensures.stepped in
    let done : Made g.N.Naming.seat c.args.pass.now.seat c.turn.new.book.pass.now.seat (book_acts_in acts) =
    did c.args.pass.now.seat [] (made_start g.N.Naming.seat c.args.pass.now.seat c.requires.book) in
    subst (λ (known : Known _). SeesMore c.args.pass.now.seat known) (sym (ap (λ p. p.seat) is)) done.more

pub returns-clause-delivers : goal.returns-clause-delivers
returns-clause-delivers g c =
    let (new, ended) = c.pass-1.given in
    let is = ended (sym c.turn.ensures.lender) in
    let (acts, did, steps, goes) = c.turn.ensures.stepped in
    let done : Made g.N.Naming.seat c.args.pass.now.seat c.turn.new.book.pass.now.seat (book_acts_in acts) =
    did c.args.pass.now.seat [] (made_start g.N.Naming.seat c.args.pass.now.seat c.requires.book) in
    subst (λ (known : Known _). Delivers g.N.Naming.seat c.args.budget (turns_seen c.args.pass.now.seat) (turns_seen known)
    (outside (g.C.Clock.gave c.args.clock.now) (g.L.Link.exchanges c.args.link.now) (g.L.Link.faults c.args.link.now))
    (outside (g.C.Clock.gave c.turn.new.clock) (g.L.Link.exchanges c.turn.new.link) (g.L.Link.faults c.turn.new.link)) c.turn.result)
    (sym (ap (λ p. p.seat) is))
    (delivers g.N.Naming.seat c.args.budget (turns_seen c.args.pass.now.seat) (turns_seen c.turn.new.book.pass.now.seat) _ _ c.turn.result acts done.makes steps goes)
