use Rattle.std.proofs.Common.{refl}
use Rattle.session_workers.specs.Jobs.{outside_of}
use Rattle.session_workers.proofs.clerk.ClerkWorkBookTuple2.meanwhile.Goals as goal

pub returns : goal.returns
returns g c =
    let (same, free, rests, goes_on) = c.requires.works.waits _ _ _ _ refl c.requires.free c.requires.rests c.meanwhile.ensures in
    record {
      pass = (same, free);
      rests = rests;
      did = λ lent sessions done. goes_on (outside_of g.C.Clock.gave g.L.Link.exchanges g.L.Link.faults lent) sessions done;
    }
