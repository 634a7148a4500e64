use Rattle.std.proofs.Common.{arith}
use Rattle.std.proofs.lemmas.Bool.Decides.{nat_tests}
use Rattle.rule_table.specs.WellFormed.{IsSpelled}
use Rattle.entry_bytes.specs.ChangeReading.{plain_at}
use Rattle.entry_bytes.proofs.Finding.{plain_so}
use Rattle.entry_bytes.proofs.ChangeFinding.{kind_else}
use Rattle.entry_bytes.proofs.change.take_kind.Goals as goal

pub returns-in_default : goal.returns-in_default
returns-in_default c =
    let e = kind_else c.args.kind c.args.bytes.now (grind (arith, nat_tests)) (grind (arith, nat_tests)) (grind (arith, nat_tests))
    (grind (arith, nat_tests)) (grind (arith, nat_tests)) in
    rw e (plain_so _ IsSpelled c.take_plain.result (plain_at c.args.kind c.args.bytes.now) c.take_plain.ensures.gives c.take_plain.ensures.spelled)
