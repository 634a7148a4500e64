use Rattle.std.proofs.Common.{sym, ◌∙◌}
use Rattle.event_shape.proofs.NumberLemmas.{digits_tested}
use Rattle.event_shape.proofs.time.are_digits.Goals as goal

pub returns-then-not-is_empty : goal.returns-then-not-is_empty
returns-then-not-is_empty c =
    rw c.all_digits.ensures (digits_tested c.args.bytes.now (sym c.is_empty.ensures ∙ c.if-not-is_empty.true))
