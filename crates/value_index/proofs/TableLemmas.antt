-- The rows between two places are those with a key: `keyed_between`.
use Rattle.std.proofs.Common.{◌≡◌, ℕ, ◌+◌, ◌<◌, Bool, true, false, List, [], ◌∷◌, ◌++◌, length, filter, take, drop, refl, sym, ap, ap₂, ◌∙◌, subst, arith, append-nil, length-take, length-drop}
use Rattle.std.specs.Prelude.{All, ◌==◌}
use Rattle.std.specs.List.{AllByRecursion, AllWithin}
use Rattle.std.proofs.lemmas.Bool.{eq-eqb, ne_eqb}
use Rattle.std.proofs.lemmas.List.{get_or-take, get_or-drop, take-append-drop}
use Rattle.std.proofs.lemmas.List.Elements.{recursion_from_All, filter-append}

module _ {X : Type 0} where
  filter_all : (p : X → Bool) (xs : List X) → AllByRecursion (λ x. p x ≡ true) xs → filter p xs ≡ xs
  filter_all p [] h = refl
  filter_all p (x ∷ xs) h = rw (h.0, filter_all p xs h.1)

  filter_none : (p : X → Bool) (xs : List X) → AllByRecursion (λ x. p x ≡ false) xs → filter p xs ≡ []
  filter_none p [] h = refl
  filter_none p (x ∷ xs) h = rw (h.0, filter_none p xs h.1)

  pub All-take_within : (P : X → Type 0) (xs : List X) (i : ℕ) → AllWithin P xs 0 i → All P (take i xs)
  All-take_within P xs i h k d within =
      let short : k < i = omega (arith, length-take i xs) in
      subst P (sym (get_or-take i xs k d short)) (h k d (omega arith) short)

  pub All-drop_within : (P : X → Type 0) (xs : List X) (i : ℕ) → AllWithin P xs i (length xs) → All P (drop i xs)
  All-drop_within P xs i h k d within =
      subst P (sym (get_or-drop i xs k d)) (h (i + k) d (omega arith) (omega (arith, length-drop i xs)))

  pub keyed_between : (key : X → ℕ) (n from count : ℕ) (xs : List X)
      → All (λ x. key x < n) (take from xs)
      → All (λ x. key x ≡ n) (take count (drop from xs))
      → All (λ x. n < key x) (drop count (drop from xs))
      → take count (drop from xs) ≡ filter (λ x. key x == n) xs
  keyed_between key n from count xs first second third =
      let test = λ (x : X). key x == n in
      let a = take from xs in
      let b = take count (drop from xs) in
      let c = drop count (drop from xs) in
      let whole : xs ≡ a ++ (b ++ c) = sym (ap (λ x. a ++ x) (take-append-drop count (drop from xs)) ∙ take-append-drop from xs) in
      let one : filter test a ≡ [] = filter_none test a (recursion_from_All (λ x. (key x == n) ≡ false) a (λ k d h. ne_eqb _ n (λ e. omega (arith, first k d h)))) in
      let two : filter test b ≡ b = filter_all test b (recursion_from_All (λ x. (key x == n) ≡ true) b (λ k d h. eq-eqb _ n (second k d h))) in
      let three : filter test c ≡ [] = filter_none test c (recursion_from_All (λ x. (key x == n) ≡ false) c (λ k d h. ne_eqb _ n (λ e. omega (arith, third k d h)))) in
      sym (ap (filter test) whole ∙ filter-append test a (b ++ c) ∙ ap (λ x. filter test a ++ x) (filter-append test b c)
      ∙ ap₂ ◌++◌ one (ap₂ ◌++◌ two three) ∙ append-nil b)
