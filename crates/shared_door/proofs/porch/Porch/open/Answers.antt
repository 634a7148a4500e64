use Rattle.std.proofs.Common.{◌∙◌}
use Rattle.shared_door.specs.Shown.{shown_by}
use Rattle.shared_door.proofs.Keeping.{opens}
use Rattle.shared_door.proofs.porch.Porch.open.Goals as goal

pub invariant_of-result : goal.invariant_of-result
invariant_of-result g c = let a = c.args in let (hall, of, free) = c.requires.here in let (own, count, back) = c.requires.tickets in let (name, empty) = c.requires.acts in let d = g.D.Door in (
  (hall, of, free, c.requires.unturned.0, c.requires.unturned.1),
  (own, count, name),
  opens g.N.Naming.most g.N.Naming.start g.V.Served.fits g.V.Served.lasts g.V.Served.stops g.V.Served.stays (shown_by d.faults d.ahead d.given d.ended d.gave d.took_back d.closed a.door) a.connections a.acts.items a.pass.seat.me.0.seen
      a.tickets.seat.me.0.given a.tickets.seat.me.0.back c.requires.door c.requires.most empty (a.tickets.count ∙ count) back,
)
