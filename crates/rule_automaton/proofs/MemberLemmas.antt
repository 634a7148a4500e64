-- What lists have: `kept_there`, `from_kept`, `map_in`, `in_map`, `flat_in`, `in_flat`.
use Rattle.std.proofs.Common.{◌≡◌, ℕ, zero, suc, ◌<◌, Bool, true, List, [], ◌∷◌, ◌++◌, length, map, filter, ◌⊎◌, inl, inr, refl, sym, ap, ◌∙◌, subst, append_assoc, arith}
use Rattle.std.specs.Prelude.{Contains, Any, flat_map}
use Rattle.std.proofs.lemmas.Bool.{cases_Bool, cond-true, cond-false}
use Rattle.std.proofs.lemmas.List.Elements.{All-contains, Contains-append_left, Contains-append_right, Contains-append_cases, filter_passes}

module _ {X : Type 0} where
  pub nothing_in : (x : X) → Contains [] x → ⊥
  nothing_in x (k, within, same) = omega (arith, within)

  pub first : (x : X) (xs : List X) → Contains (x ∷ xs) x
  first x xs = (0, omega arith, refl)

  pub later : (y x : X) (xs : List X) → Contains xs x → Contains (y ∷ xs) x
  later y x xs (k, within, same) = (suc k, omega (arith, within), same)

  pub in_cons : (y x : X) (xs : List X) → Contains (y ∷ xs) x → (y ≡ x) ⊎ Contains xs x
  in_cons y x xs (zero, within, same) = inl same
  in_cons y x xs (suc k, within, same) = inr (k, omega (arith, within), same)

  -- some element of a list that has one
  pub some_of : (xs : List X) (k : ℕ) → k < length xs → X
  some_of [] k within = absurd (omega (arith, within))
  some_of (x ∷ xs) k within = x

  pub any_in : (P : X → Type 0) (xs : List X) (x : X) → Contains xs x → P x → Any P xs
  any_in P xs x c h = (c.0, x, c.1, c.2, h)

  pub kept_there : (p : X → Bool) (xs : List X) (x : X) → Contains xs x → p x ≡ true → Contains (filter p xs) x
  kept_there p [] x c passes = absurd (nothing_in x c)
  kept_there p (y ∷ ys) x (zero, within, same) passes =
      subst (λ l. Contains l x) (sym (cond-true (p y) (y ∷ filter p ys) (filter p ys) (ap p same ∙ passes))) (0, omega arith, same)
  kept_there p (y ∷ ys) x (suc k, within, same) passes =
      let rest = kept_there p ys x (k, omega (arith, within), same) passes in
      elim (cases_Bool (p y)) [
        | inl sure ↦ subst (λ l. Contains l x) (sym (cond-true (p y) (y ∷ filter p ys) (filter p ys) sure)) (later y x (filter p ys) rest)
        | inr apart ↦ subst (λ l. Contains l x) (sym (cond-false (p y) (y ∷ filter p ys) (filter p ys) apart)) rest
      ]

  was_head : (y x : X) (fs ys : List X) → (Contains fs x → Contains ys x) → Contains (y ∷ fs) x → Contains (y ∷ ys) x
  was_head y x fs ys rest (zero, within, same) = (0, omega arith, same)
  was_head y x fs ys rest (suc k, within, same) = later y x ys (rest (k, omega (arith, within), same))

  was_there : (p : X → Bool) (xs : List X) (x : X) → Contains (filter p xs) x → Contains xs x
  was_there p [] x c = c
  was_there p (y ∷ ys) x c = elim (cases_Bool (p y)) [
    | inl sure ↦ was_head y x (filter p ys) ys (λ h. was_there p ys x h)
        (subst (λ l. Contains l x) (cond-true (p y) (y ∷ filter p ys) (filter p ys) sure) c)
    | inr apart ↦ later y x ys (was_there p ys x (subst (λ l. Contains l x) (cond-false (p y) (y ∷ filter p ys) (filter p ys) apart) c))
  ]

  pub from_kept : (p : X → Bool) (xs : List X) (x : X) → Contains (filter p xs) x → Contains xs x × (p x ≡ true)
  from_kept p xs x c = (was_there p xs x c, All-contains (λ y. p y ≡ true) (filter p xs) x (filter_passes p xs) c)

module _ {X Y : Type 0} where
  pub map_in : (f : X → Y) (xs : List X) (x : X) → Contains xs x → Contains (map f xs) (f x)
  map_in f [] x c = absurd (nothing_in x c)
  map_in f (y ∷ ys) x (zero, within, same) = (0, omega arith, ap f same)
  map_in f (y ∷ ys) x (suc k, within, same) = later (f y) (f x) (map f ys) (map_in f ys x (k, omega (arith, within), same))

  pub in_map : (f : X → Y) (xs : List X) (y : Y) → Contains (map f xs) y → (x : X) × Contains xs x × (f x ≡ y)
  in_map f [] y c = absurd (nothing_in y c)
  in_map f (x ∷ xs) y (zero, within, same) = (x, first x xs, same)
  in_map f (x ∷ xs) y (suc k, within, same) =
      let r = in_map f xs y (k, omega (arith, within), same) in
      (r.0, later x r.0 xs r.1, r.2)

  pub flat_in : (f : X → List Y) (xs : List X) (x : X) (y : Y) → Contains xs x → Contains (f x) y → Contains (flat_map f xs) y
  flat_in f [] x y c inside = absurd (nothing_in x c)
  flat_in f (z ∷ zs) x y (zero, within, same) inside =
      Contains-append_left (f z) (flat_map f zs) y (subst (λ w. Contains (f w) y) (sym same) inside)
  flat_in f (z ∷ zs) x y (suc k, within, same) inside =
      Contains-append_right (f z) (flat_map f zs) y (flat_in f zs x y (k, omega (arith, within), same) inside)

  pub in_flat : (f : X → List Y) (xs : List X) (y : Y) → Contains (flat_map f xs) y → (x : X) × Contains xs x × Contains (f x) y
  in_flat f [] y c = absurd (nothing_in y c)
  in_flat f (x ∷ xs) y c = elim (Contains-append_cases (f x) (flat_map f xs) y c) [
    | inl here ↦ (x, first x xs, here)
    | inr more ↦ let r = in_flat f xs y more in (r.0, later x r.0 xs r.1, r.2)
  ]

  pub flat_append : (f : X → List Y) (xs ys : List X) → flat_map f (xs ++ ys) ≡ flat_map f xs ++ flat_map f ys
  flat_append f [] ys = refl
  flat_append f (x ∷ xs) ys = ap (λ l. f x ++ l) (flat_append f xs ys) ∙ sym (append_assoc (f x) (flat_map f xs) (flat_map f ys))
