use Rattle.std.proofs.Common.{arith}
use Rattle.std.proofs.lemmas.Int.{ints}
use Rattle.jiff_core.proofs.SignedLemmas.{signed_arith}
use Rattle.event_time.proofs.ClockLemmas.{clock_shows}
use Rattle.event_time.proofs.time.civil_of.Goals as goal

pub returns : goal.returns
returns c =
    let nanos = c.to_datetime.ensures in
    let value = c.in-Ok.ensures.value in
    clock_shows c.to_datetime.result c.args.moment (omega (arith, signed_arith, ints, nanos, value, c.requires))
