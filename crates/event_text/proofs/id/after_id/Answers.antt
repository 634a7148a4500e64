use Rattle.std.proofs.Common.{◌∷◌, subst, arith}
use Rattle.std.proofs.lemmas.Bool.Decides.{nat_tests}
use Rattle.event_text.specs.Written.{BeginsText}
use Rattle.event_text.proofs.id.after_id.Goals as goal

pub returns-then-is_id_of : goal.returns-then-is_id_of
returns-then-is_id_of c = (
  c.last_number-number.result,
  grind (arith, nat_tests, c.if-number-eq0.false),
  omega arith,
  subst (λ t. BeginsText t c.args.bytes.now (34 ∷ c.in_ok-id.rest.now)) (c.is_id_of.ensures c.if-is_id_of.true) c.in_ok-id.ensures.text,
)
