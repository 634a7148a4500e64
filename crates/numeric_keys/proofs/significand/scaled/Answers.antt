use Rattle.std.proofs.Common.{arith}
use Rattle.numeric_keys.proofs.PowerLemmas.{above_largest}
use Rattle.numeric_keys.proofs.significand.scaled.Goals as goal

pub returns-then-power-ge-POWER_ABOVE-clause-none : goal.returns-then-power-ge-POWER_ABOVE-clause-none
returns-then-power-ge-POWER_ABOVE-clause-none c =
    above_largest c.args.number c.args.power (omega arith) (omega arith)
