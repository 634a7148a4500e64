use Rattle.std.proofs.Common.{◌≡◌, ◌∙◌, refl, sym, None, arith}
use Rattle.event_shape.proofs.Found.{not_found}
use Rattle.event_shape.proofs.time.text_moment.Goals as goal

pub returns-then-second-le-LAST_MOMENT : goal.returns-then-second-le-LAST_MOMENT
returns-then-second-le-LAST_MOMENT c = λ n. (
  λ e. let same : c.in-Some.second ≡ n = cc in (omega (arith, same), (c.text_moment.ensures n).0 (c.in-Some.is ∙ e)),
  λ p. sym c.in-Some.is ∙ (c.text_moment.ensures n).1 p.1,
)

pub returns-else-second-le-LAST_MOMENT : goal.returns-else-second-le-LAST_MOMENT
returns-else-second-le-LAST_MOMENT c =
    not_found None refl (λ n p.
    let found = sym c.in-Some.is ∙ (c.text_moment.ensures n).1 p.1 in
    let same : c.in-Some.second ≡ n = cc in
    omega (arith, same, p.0))

pub returns-in-None : goal.returns-in-None
returns-in-None c =
    not_found None refl (λ n p.
    let found = sym c.in-None.is ∙ (c.text_moment.ensures n).1 p.1 in
    cc)
