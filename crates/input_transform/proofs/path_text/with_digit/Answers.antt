use Rattle.std.proofs.Common.{inl, inr, sym, ap, ◌∙◌, ◌++◌, ◌∷◌, [], arith, decimal}
use Rattle.input_transform.proofs.PathLemmas.{no_further, value_of_digit, digit_after}
use Rattle.input_transform.proofs.path_text.with_digit.Goals as goal

pub returns-then-n-eq0 : goal.returns-then-n-eq0
returns-then-n-eq0 c m bytes rest fits e = no_further c.args.n m c.args.byte bytes rest c.requires fits (inl c.if-n-eq0.true) e

pub returns-then-next-ge2147483648 : goal.returns-then-next-ge2147483648
returns-then-next-ge2147483648 c m bytes rest fits e =
    let value = value_of_digit c.args.byte c.in-Some.digit c.in-Some.ensures.0 c.in-Some.ensures.1 in
    let large = c.if-next-ge2147483648.true in
    no_further c.args.n m c.args.byte bytes rest c.requires fits (inr (inr (omega (arith, value, large)))) e

pub returns-else-next-ge2147483648 : goal.returns-else-next-ge2147483648
returns-else-next-ge2147483648 c =
    let is = c.in-Some.ensures.1 in
    let low = c.in-Some.ensures.0 in
    (omega arith, digit_after c.args.n c.in-Some.digit (omega arith) low (omega arith) ∙ ap (λ b. decimal c.args.n ++ b ∷ []) (sym is))

pub returns-in-None : goal.returns-in-None
returns-in-None c m bytes rest fits e = no_further c.args.n m c.args.byte bytes rest c.requires fits (inr (inl c.in-None.ensures)) e
