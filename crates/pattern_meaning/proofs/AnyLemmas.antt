-- One of a list, by place and by recursion: `any_of`, `of_any`.
use Rattle.std.proofs.Common.{zero, suc, List, [], ◌∷◌, inl, inr, refl, sym, subst, arith}
use Rattle.std.specs.List.{Any}
use Rattle.pattern_meaning.specs.Meets.{SomeMetOf}

pub any_of : {X : Type 0} (holds : X → Type 0) (xs : List X) → Any holds xs → SomeMetOf holds xs
any_of holds [] h = absurd (omega (arith, h.2))
any_of holds (x ∷ xs) (zero, y, inside, is, fact) = inl (subst holds (sym is) fact)
any_of holds (x ∷ xs) (suc k, y, inside, is, fact) = inr (any_of holds xs (k, y, omega (arith, inside), is, fact))

pub of_any : {X : Type 0} (holds : X → Type 0) (xs : List X) → SomeMetOf holds xs → Any holds xs
of_any holds [] h = absurd h
of_any holds (x ∷ xs) h = elim h [
  | inl here ↦ (0, x, omega arith, refl, here)
  | inr more ↦ let r = of_any holds xs more in (suc r.0, r.1, omega (arith, r.2), r.3, r.4)
]
