use Rattle.std.proofs.lemmas.Option.{IfSome_then}
use Rattle.event_text.proofs.NumberLemmas.{number_begins}
use Rattle.event_text.proofs.number.after_number.Goals as goal

pub returns-clause-number : goal.returns-clause-number
returns-clause-number c =
    IfSome_then c.after_exponent.result c.after_exponent.ensures.exponent
    (λ rest e. number_begins c.args.bytes.now c.after_minus-int.result.now c.in_ok-fraction.fraction.now c.in_ok-exponent.exponent.now rest.now
    c.after_minus-int.ensures.minus c.in_ok-fraction.ensures.int c.in_ok-exponent.ensures.fraction e)
