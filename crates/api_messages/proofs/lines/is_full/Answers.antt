use Rattle.std.proofs.Common.{◌≡◌, ℕ, ◌+◌, List, [], ◌∷◌, ◌++◌, length, take, ap, ◌∙◌, arith, length-append, rules}
use Rattle.std.proofs.lemmas.Bool.Decides.{nat_tests}
use Rattle.api_messages.proofs.LineLemmas.{full_by, full_back}
use Rattle.api_messages.proofs.lines.is_full.Goals as goal

nothing_before : (xs : List ℕ) → length xs ≡ 0 + length xs
nothing_before xs = omega arith

pub returns-then-spans-len : goal.returns-then-spans-len
returns-then-spans-len c =
    let front = c.args.front.now in
    let first : take (length front) c.append.new.out ≡ front =
    ap (λ (n : ℕ). take n c.append.new.out) (nothing_before front) ∙ c.append.ensures.written in
    let text : take (length front + 1) c.append-2.new.out ≡ front ++ 10 ∷ [] =
    c.append-2.ensures.written ∙ ap (λ (f : List ℕ). f ++ 10 ∷ []) first in
    let len : c.in-Ok-Complete.spans.len ≡ length (take (length front + 1) c.append-2.new.out) =
    omega (arith, ap length text, length-append front (10 ∷ []), c.if-spans-len.true) in
    let headers = c.parse_request.new.headers in (
      λ count. full_by front _ headers c.in-Ok-Complete.spans c.requires.ends text (search rules) (search rules) len (grind (arith, nat_tests)),
      λ full. let back = full_back front _ headers c.in-Ok-Complete.spans full text (search rules) (search rules) in grind (arith, nat_tests),
    )
