use Rattle.std.proofs.Common.{◌∙◌}
use Rattle.shared_door.proofs.RestLemmas.{still_unturned}
use Rattle.shared_door.specs.Shown.{shown_by}
use Rattle.shared_door.proofs.Keeping.{sees}
use Rattle.shared_door.proofs.porch.Porch.meet.Goals as goal

pub invariant_of-self : goal.invariant_of-self
invariant_of-self g c = let p = c.self.inside in let ((hall, of, (stage, held), named, none), own, k) = c.self.invariant in
    let ((same, number, _, _), (still, _, holds), learns) = c.meet.ensures.one in let d = g.D.Door in (
      (hall, same ∙ of, (still ∙ stage, holds ∙ held), number ∙ named, still_unturned g.V.Story.made_by g.N.Naming.pass p.pass.seat.me.0 c.meet.new.one.seat.me.0.seen named learns none),
      own,
      sees g.N.Naming.most g.N.Naming.start g.V.Served.fits g.V.Served.lasts g.V.Served.stops g.V.Served.stays (shown_by d.faults d.ahead d.given d.ended d.gave d.took_back d.closed p.door) p.standing p.acts.items p.pass.seat.me.0.seen
          c.meet.new.one.seat.me.0.seen p.tickets.seat.me.0.given p.tickets.seat.me.0.back k learns.0,
    )
