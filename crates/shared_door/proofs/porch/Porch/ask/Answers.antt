use Rattle.std.proofs.Common.{◌+◌, ℕ, ap, sym, refl, ◌∙◌, arith, append-nil, inl, inr, Some}
use Rattle.shared_door.specs.declared.connection.Over.TheVariants.{Closed, Failed}
use Rattle.shared_door.specs.Shown.{shown_by}
use Rattle.shared_door.specs.Acts.{given_of}
use Rattle.shared_door.proofs.Keeping.{enters, finishes, no_more, no_fewer, has_given, given_all, rose_later, over_now}
use Rattle.shared_door.proofs.porch.Porch.ask.Goals as goal

pub invariant_of-self : goal.invariant_of-self
invariant_of-self g c = let p = c.self.inside in let (here, (own, count, name), k) = c.self.invariant in let e = c.end-front.ensures in let d = g.D.Door in
    let going = ap (λ s. s.standing.over) c.self.view_is ∙ c.requires.going in let now = shown_by d.faults d.ahead d.given d.ended d.gave d.took_back d.closed p.door in (
      here,
      (own, count ∙ sym (ap (λ s. s.gave) e.standing), e.acts.0 ∙ name),
      finishes g.N.Naming.most g.N.Naming.start g.V.Served.fits g.V.Served.lasts g.V.Served.stops g.V.Served.stays now now p.pass.seat.me.0.seen p.standing c.end-front.new.standing
          p.acts.items c.end-front.new.acts.items p.tickets.seat.me.0.given p.tickets.seat.me.0.back Closed k going (omega arith) refl refl
          (no_more now.given) (no_fewer now.ahead) refl e.standing e.acts.1 (λ is. absurd (cc (is)))
          (λ _. inr (given_all g.N.Naming.most p.standing.gave p.standing.left k.gave.left c.if-gave_all.ensures)) (λ is. absurd (cc (is))),
    )

pub returns-then-gave_all-clause-knocks : goal.returns-then-gave_all-clause-knocks
returns-then-gave_all-clause-knocks g c = let p = c.self.inside in let (_, (_, _, name), k) = c.self.invariant in let e = c.end-front.ensures in
    let going = ap (λ s. s.standing.over) c.self.view_is ∙ c.requires.going in (
      inr c.requires.going,
      e.standing ∙ ap (λ s. record s.standing { over = Some Closed }) c.self.view_is,
      record {
        name_is = e.front.0 ∙ (e.acts.0 ∙ name);
        acts_are = e.front.1;
        over_is = over_now p.acts.items c.end-front.new.acts.items Closed (sym k.gave.over_is ∙ going) e.acts.1;
      },
    )

pub invariant_of-self-in-Conn : goal.invariant_of-self-in-Conn
invariant_of-self-in-Conn g c = let p = c.self.inside in let (here, (own, count, name), k) = c.self.invariant in let d = g.D.Door in let e = c.in-Conn.ensures in
    let x = c.enter-came.ensures in let (number, came, seen) = x.arrival in
    let going = ap (λ s. s.standing.over) c.self.view_is ∙ c.requires.going in (
      here,
      (x.same ∙ own, x.count ∙ ap (λ (n : ℕ). n + 1) count, x.acts.0 ∙ name),
      enters g.N.Naming.most g.N.Naming.start g.V.Served.fits g.V.Served.lasts g.V.Served.stops g.V.Served.stays (shown_by d.faults d.ahead d.given d.ended d.gave d.took_back d.closed p.door)
          (shown_by d.faults d.ahead d.given d.ended d.gave d.took_back d.closed c.next.new.self) p.pass.seat.me.0.seen p.standing c.one_fewer-self-inside.result p.acts.items
          c.enter-came.new.acts.items p.tickets.seat.me.0.given c.enter-came.new.tickets.seat.me.0.given p.tickets.seat.me.0.back
          c.enter-came.new.tickets.seat.me.0.back c.enter-came.result.ticket.came.value (c.in-Conn.input, c.in-Conn.output) k going
          e.count.later e.given e.ahead e.ended e.gave e.took_back c.one_fewer-self-inside.ensures x.given x.back x.acts.1 number came seen,
    )

pub invariant_of-self-in-Closed : goal.invariant_of-self-in-Closed
invariant_of-self-in-Closed g c = let p = c.self.inside in let (here, (own, count, name), k) = c.self.invariant in let e = c.end-front-in-Closed.ensures in let d = g.D.Door in
    let n = c.in-Closed.ensures in let going = ap (λ s. s.standing.over) c.self.view_is ∙ c.requires.going in
    let old = shown_by d.faults d.ahead d.given d.ended d.gave d.took_back d.closed p.door in let now = shown_by d.faults d.ahead d.given d.ended d.gave d.took_back d.closed c.next.new.self in (
      here,
      (own, count ∙ sym (ap (λ s. s.gave) e.standing), e.acts.0 ∙ name),
      finishes g.N.Naming.most g.N.Naming.start g.V.Served.fits g.V.Served.lasts g.V.Served.stops g.V.Served.stays old now p.pass.seat.me.0.seen p.standing c.end-front-in-Closed.new.standing
          p.acts.items c.end-front-in-Closed.new.acts.items p.tickets.seat.me.0.given p.tickets.seat.me.0.back Closed k going n.count.later n.ended n.took_back
          n.given n.ahead (n.gave ∙ append-nil old.gave) e.standing e.acts.1 (λ is. absurd (cc (is)))
          (λ _. inl (n.over, has_given g.N.Naming.start.ahead old.ahead (given_of p.acts.items) k.gave.ahead_is (n.closed refl))) (λ is. absurd (cc (is))),
    )

pub invariant_of-self-in-Failed : goal.invariant_of-self-in-Failed
invariant_of-self-in-Failed g c = let p = c.self.inside in let (here, (own, count, name), k) = c.self.invariant in let e = c.end-front-in-Failed.ensures in let d = g.D.Door in
    let n = c.in-Failed.ensures in let going = ap (λ s. s.standing.over) c.self.view_is ∙ c.requires.going in
    let old = shown_by d.faults d.ahead d.given d.ended d.gave d.took_back d.closed p.door in let now = shown_by d.faults d.ahead d.given d.ended d.gave d.took_back d.closed c.next.new.self in (
      here,
      (own, count ∙ sym (ap (λ s. s.gave) e.standing), e.acts.0 ∙ name),
      finishes g.N.Naming.most g.N.Naming.start g.V.Served.fits g.V.Served.lasts g.V.Served.stops g.V.Served.stays old now p.pass.seat.me.0.seen p.standing c.end-front-in-Failed.new.standing
          p.acts.items c.end-front-in-Failed.new.acts.items p.tickets.seat.me.0.given p.tickets.seat.me.0.back Failed k going n.count.later n.ended n.took_back
          n.given n.ahead (n.gave ∙ append-nil old.gave) e.standing e.acts.1
          (λ _. rose_later g.N.Naming.start.faults old.faults now.faults k.gave.later n.count.rose) (λ is. absurd (cc (is))) (λ is. absurd (cc (is))),
    )

pub returns-in-Closed-clause-knocks : goal.returns-in-Closed-clause-knocks
returns-in-Closed-clause-knocks g c = let p = c.self.inside in let (_, (_, _, name), k) = c.self.invariant in let e = c.end-front-in-Closed.ensures in
    let going = ap (λ s. s.standing.over) c.self.view_is ∙ c.requires.going in (
      inr c.requires.going,
      e.standing ∙ ap (λ s. record s.standing { over = Some Closed }) c.self.view_is,
      record {
        name_is = e.front.0 ∙ (e.acts.0 ∙ name);
        acts_are = e.front.1;
        over_is = over_now p.acts.items c.end-front-in-Closed.new.acts.items Closed (sym k.gave.over_is ∙ going) e.acts.1;
      },
    )

pub returns-in-Failed-clause-knocks : goal.returns-in-Failed-clause-knocks
returns-in-Failed-clause-knocks g c = let p = c.self.inside in let (_, (_, _, name), k) = c.self.invariant in let e = c.end-front-in-Failed.ensures in
    let going = ap (λ s. s.standing.over) c.self.view_is ∙ c.requires.going in (
      inr (c.requires.going, λ is. c.if-gave_all.ensures (ap (λ s. s.standing.left) c.self.view_is ∙ is)),
      e.standing ∙ ap (λ s. record s.standing { over = Some Failed }) c.self.view_is,
      record {
        name_is = e.front.0 ∙ (e.acts.0 ∙ name);
        acts_are = e.front.1;
        over_is = over_now p.acts.items c.end-front-in-Failed.new.acts.items Failed (sym k.gave.over_is ∙ going) e.acts.1;
      },
    )
