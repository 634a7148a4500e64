use Rattle.shared_door.specs.Shown.{shown_by}
use Rattle.shared_door.proofs.Keeping.{parts, over_later}
use Rattle.shared_door.proofs.porch.Porch.into_parts.Goals as goal

pub returns-clause-over : goal.returns-clause-over
returns-clause-over g c = let (_, _, pre) = c.covers.ensures in let (_, _, k) = c.self.invariant in
    let (o, is) = over_later c.args.over.items c.self.inside.acts.items pre c.requires.over.1 in λ none. absurd (cc (k.gave.over_is, is, none))

pub returns-clause-visited : goal.returns-clause-visited
returns-clause-visited g c = let p = c.self.inside in let (_, same, _) = c.covers.ensures in let (_, _, k) = c.self.invariant in let d = g.D.Door in
    parts g.N.Naming.most g.N.Naming.start g.V.Served.fits g.V.Served.lasts g.V.Served.stops g.V.Served.stays (shown_by d.faults d.ahead d.given d.ended d.gave d.took_back d.closed p.door)
    record { standing = p.standing; acts = p.acts.items; seen = p.pass.seat.me.0.seen } c.covers.new.self.items p.tickets.seat.me.0.given p.tickets.seat.me.0.back k same
    p.tickets.places p.tickets.apart

pub returns-clause-stopped : goal.returns-clause-stopped
returns-clause-stopped g c = let (_, _, k) = c.self.invariant in k.stopped
