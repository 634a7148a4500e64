use Rattle.std.proofs.Common.{List, ap, sym, refl, ◌∙◌, subst, arith, Some}
use Rattle.shared_door.specs.declared.connection.Over.TheVariants.{Stopped}
use Rattle.shared_door.specs.Shown.{shown_by}
use Rattle.shared_door.proofs.Keeping.{finishes, no_more, no_fewer, over_now}
use Rattle.shared_door.proofs.porch.Porch.end_stopped.Goals as goal

pub invariant_of-self : goal.invariant_of-self
invariant_of-self g c = let p = c.self.inside in let (here, (own, count, name), k) = c.self.invariant in let e = c.end.ensures in let d = g.D.Door in
    let going = ap (λ s. s.standing.over) c.self.view_is ∙ c.requires.going in let now = shown_by d.faults d.ahead d.given d.ended d.gave d.took_back d.closed p.door in
    let stops = subst (λ (l : List g.row.V-Turn.Denot). g.V.Served.stops l) (sym (ap (λ s. s.seen) c.self.view_is)) c.requires.stops in (
      here,
      (own, count ∙ sym (ap (λ s. s.gave) e.standing), e.acts.0 ∙ name),
      finishes g.N.Naming.most g.N.Naming.start g.V.Served.fits g.V.Served.lasts g.V.Served.stops g.V.Served.stays now now p.pass.seat.me.0.seen p.standing c.end.new.standing
          p.acts.items c.end.new.acts.items p.tickets.seat.me.0.given p.tickets.seat.me.0.back Stopped k going (omega arith) refl refl
          (no_more now.given) (no_fewer now.ahead) refl e.standing e.acts.1 (λ is. absurd (cc (is))) (λ is. absurd (cc (is))) (λ _. stops),
    )

pub returns-clause-standing : goal.returns-clause-standing
returns-clause-standing g c = c.end.ensures.standing ∙ ap (λ s. record s.standing { over = Some Stopped }) c.self.view_is

pub returns-clause-front : goal.returns-clause-front
returns-clause-front g c = let (_, (_, _, name), _) = c.self.invariant in let e = c.end.ensures in (e.front.0 ∙ (e.acts.0 ∙ name), e.front.1)

pub returns-clause-over : goal.returns-clause-over
returns-clause-over g c = let p = c.self.inside in let (_, _, k) = c.self.invariant in
    let going = ap (λ s. s.standing.over) c.self.view_is ∙ c.requires.going in
    (Stopped, over_now p.acts.items c.end.new.acts.items Stopped (sym k.gave.over_is ∙ going) c.end.ensures.acts.1)
