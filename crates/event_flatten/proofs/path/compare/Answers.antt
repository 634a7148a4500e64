use Rattle.std.proofs.Common.{◌≡◌, ◌<◌, ℕ, List, [], ◌∷◌, length, ◌∙◌, arith, inl, inr, refl, rules}
use Rattle.std.specs.Prelude.{◌⊎◌}
use Rattle.std.specs.Ordering.{nat_cmp}
use Rattle.std.proofs.lemmas.Bool.Decides.{nat_tests}
use Rattle.event_flatten.specs.Path.{path_cmp}
use Rattle.event_flatten.proofs.path.compare.Goals.{in_default, in_default-2}
use Rattle.event_flatten.proofs.path.compare.Goals as goal

ended : (a b : List (List ℕ)) → (length a < 1) ⊎ (length b < 1) → nat_cmp (length a) (length b) ≡ path_cmp a b
ended [] [] h = refl
ended [] (l ∷ b) h = grind (arith, nat_tests)
ended (k ∷ a) [] h = grind (arith, nat_tests)
ended (k ∷ a) (l ∷ b) (inl h) = absurd (omega arith)
ended (k ∷ a) (l ∷ b) (inr h) = absurd (omega arith)

pub returns : goal.returns
returns c =
    c.cmp.ensures ∙ ended c.loop-a.a.now c.loop-a.b.now (elim c.if-a-lt1.branch [
      | in_default w ↦ inl w.in_default.len_below
      | in_default-2 w ↦ inr (search rules)
    ]) ∙ c.loop-a.invariant
