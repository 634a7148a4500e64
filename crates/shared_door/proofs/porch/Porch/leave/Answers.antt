use Rattle.std.proofs.Common.{List, sym, refl, ap, ◌∙◌, ◌++◌, ◌∷◌, [], subst}
use Rattle.shared_door.specs.declared.acts.Visit.{Visit}
use Rattle.shared_door.specs.declared.acts.Act.TheVariants as act
use Rattle.shared_door.specs.Shown.{shown_by}
use Rattle.shared_door.specs.Knocks.{number_of, came_of}
use Rattle.shared_door.proofs.Keeping.{leaves}
use Rattle.shared_door.proofs.porch.Porch.leave.Goals as goal

pub invariant_of-self : goal.invariant_of-self
invariant_of-self g c = let p = c.self.inside in let a = c.args.connection in let t = a.ticket in let (here, (own, count, name), k) = c.self.invariant in
    let d = g.D.Door in let done = c.done.ensures in let took = c.take-number.ensures in let went : g.row.D-In.Denot × g.row.D-Out.Denot = (a.input, a.output) in
    let fit = subst (λ (l : List g.row.V-Turn.Denot). g.V.Served.fits (number_of a) (came_of a) went c.args.cut c.args.before.items l)
    (sym (ap (λ s. s.seen) c.self.view_is)) c.requires.fits in (
      here,
      (took.same.0 ∙ own, took.same.1 ∙ count, c.push.ensures.0 ∙ name),
      leaves g.N.Naming.most g.N.Naming.start g.V.Served.fits g.V.Served.lasts g.V.Served.stops g.V.Served.stays (shown_by d.faults d.ahead d.given d.ended d.gave d.took_back d.closed p.door)
          (shown_by d.faults d.ahead d.given d.ended d.gave d.took_back d.closed c.done.new.self) p.pass.seat.me.0.seen p.standing p.acts.items c.push.new.self.items p.tickets.seat.me.0.given c.take-number.new.self.seat.me.0.given
          p.tickets.seat.me.0.back c.take-number.new.self.seat.me.0.back
          record { number = c.take-number.result.0; pass = c.args.pass; arrival = c.take-number.result.1; before = c.args.before; went = c.of.result; cut = c.args.cut; seen = c.turns_seen.result }
          t.number t.came.value went k done.faults done.given done.ahead done.gave done.over done.ended done.took_back took.given took.back c.push.ensures.1
          took.once.0 took.once.1 took.ticket.0 took.ticket.1 c.of.ensures c.turns_seen.ensures c.requires.after fit,
    )

pub returns-clause-acts : goal.returns-clause-acts
returns-clause-acts g c = let took = c.take-number.ensures in
    let v : Visit g.row.D-In.Denot g.row.D-Out.Denot g.row.V-Turn.Denot = record { number = c.take-number.result.0; pass = c.args.pass; arrival = c.take-number.result.1; before = c.args.before; went = c.of.result; cut = c.args.cut; seen = c.turns_seen.result } in (
      v,
      record { number = took.ticket.0; pass_is = refl; arrival = took.ticket.1; went = c.of.ensures; cut_is = refl; before_is = refl; seen_is = c.turns_seen.ensures },
      c.push.ensures.1 ∙ ap (λ s. s.acts ++ act.Ended v ∷ []) c.self.view_is,
    )
