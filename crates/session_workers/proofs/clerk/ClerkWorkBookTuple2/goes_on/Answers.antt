use Rattle.std.proofs.Common.{refl}
use Rattle.session_workers.proofs.clerk.ClerkWorkBookTuple2.goes_on.Goals as goal

pub returns : goal.returns
returns g c =
    let (same, free, learns, stops) = c.requires.works.asks _ _ _ refl c.requires.free c.goes_on.ensures in
    record { pass = (same, free, learns); stops = stops }
