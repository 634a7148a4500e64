use Rattle.std.proofs.Common.{◌++◌, ◌∷◌, [], ◌∙◌, refl, sym, ap, None, arith}
use Rattle.std.proofs.lemmas.Bool.{false≢true}
use Rattle.std.proofs.lemmas.List.{append-nil}
use Rattle.std.proofs.lemmas.Str.Pattern.{split_text_parts}
use Rattle.event_shape.proofs.Found.{not_found}
use Rattle.event_shape.proofs.NumberLemmas.{whole_with_places, whole_alone}
use Rattle.event_shape.proofs.time.unsigned_moment.Goals as goal

pub returns-then-not-are_digits : goal.returns-then-not-are_digits
returns-then-not-are_digits c =
    let cut = rw c.in-Some.is at (split_text_parts (46 ∷ []) c.args.spelling.now c.split_once.result c.split_once.ensures.cases) in
    let digits = rw c.as_bytes.ensures.value at c.if-not-are_digits.ensures in
    not_found None refl (λ n p.
    false≢true (digits.1 (whole_with_places c.args.spelling.now c.in-Some.whole.now c.in-Some.places.now n cut (omega (arith, p.0)) p.1).1))

pub returns-else-not-are_digits : goal.returns-else-not-are_digits
returns-else-not-are_digits c = λ n.
    let cut = rw c.in-Some.is at (split_text_parts (46 ∷ []) c.args.spelling.now c.split_once.result c.split_once.ensures.cases) in
    let digits = rw c.as_bytes.ensures.value at c.if-not-are_digits.ensures in (
      λ e. let p = (c.whole_moment.ensures n).0 e in
          (p.0, (46 ∷ c.in-Some.places.now, (refl, digits.0 refl), cut ∙ ap (λ w. w ++ 46 ∷ c.in-Some.places.now) p.1)),
      λ p. (c.whole_moment.ensures n).1
          (p.0, (whole_with_places c.args.spelling.now c.in-Some.whole.now c.in-Some.places.now n cut (omega (arith, p.0)) p.1).0),
    )

pub returns-in-None : goal.returns-in-None
returns-in-None c = λ n.
    let none = rw c.in-None.is at (split_text_parts (46 ∷ []) c.args.spelling.now c.split_once.result c.split_once.ensures.cases) in (
      λ e. let p = (c.whole_moment-in-None.ensures n).0 e in (p.0, ([], tt, p.1 ∙ sym (append-nil _))),
      λ p. (c.whole_moment-in-None.ensures n).1 (p.0, whole_alone c.args.spelling.now n none p.1),
    )
