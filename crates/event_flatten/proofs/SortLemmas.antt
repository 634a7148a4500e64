-- A list whose keys rise has one order in which they rise: `same_order`.
use Rattle.std.proofs.Common.{◌≡◌, ℕ, zero, suc, ◌<◌, ◌≤◌, Bool, true, false, not, cond, List, [], ◌∷◌, ◌++◌, length, get_or, set, swap, filter, ltb, refl, ap, ap₂, ◌∙◌, subst, arith, IsPermutation}
use Rattle.std.specs.List.{AllByRecursion}
use Rattle.std.proofs.lemmas.Bool.Decides.{nat_tests}
use Rattle.std.proofs.lemmas.List.Elements.{recursion_from_All, All-from_recursion}
use Rattle.std.proofs.lemmas.List.Sorted.{length_permutation, All-permutation, IsPermutation-refl, IsPermutation-keeps, IsPermutation-trans, IsPermutation-append_left, IsPermutation-append_right, IsPermutation-append_comm}

module _ {X : Type 0} where
  pub all_weaker : (P Q : X → Type 0) → ((x : X) → P x → Q x) → (xs : List X) → AllByRecursion P xs → AllByRecursion Q xs
  all_weaker P Q f [] h = tt
  all_weaker P Q f (x ∷ xs) h = (f x h.0, all_weaker P Q f xs h.1)

  pub all-filter : (P : X → Type 0) (p : X → Bool) (xs : List X) → AllByRecursion P xs → AllByRecursion P (filter p xs)
  all-filter P p [] h = tt
  all-filter P p (x ∷ xs) h =
      elim (p x) as (λ b. AllByRecursion P (cond b (x ∷ filter p xs) (filter p xs))) [ true ↦ (h.0, all-filter P p xs h.1) | false ↦ all-filter P p xs h.1 ]

  pub filter_all : (p : X → Bool) (xs : List X) → AllByRecursion (λ x. p x ≡ true) xs → filter p xs ≡ xs
  filter_all p [] h = refl
  filter_all p (x ∷ xs) h = rw (h.0, filter_all p xs h.1)

  pub filter_none : (p : X → Bool) (xs : List X) → AllByRecursion (λ x. p x ≡ false) xs → filter p xs ≡ []
  filter_none p [] h = refl
  filter_none p (x ∷ xs) h = rw (h.0, filter_none p xs h.1)

  -- a relation holds along each permutation if it is reflexive and transitive, and goes under a head and over an exchange of two heads
  module _ (R : List X → List X → Type 0) (same : (xs : List X) → R xs xs)
      (skip : (x : X) (xs ys : List X) → R xs ys → R (x ∷ xs) (x ∷ ys))
      (turn : (x y : X) (xs : List X) → R (x ∷ y ∷ xs) (y ∷ x ∷ xs))
      (chain : (xs ys zs : List X) → R xs ys → R ys zs → R xs zs) where
    to_head : (l : List X) (j : ℕ) (x d : X) → j < length l → R (x ∷ l) (get_or l j d ∷ set l j x)
    to_head [] j x d h = absurd (omega arith)
    to_head (y ∷ l) zero x d h = turn x y l
    to_head (y ∷ l) (suc j) x d h =
        chain _ _ _ (turn x y l) (chain _ _ _ (skip y _ _ (to_head l j x d (omega arith))) (turn y (get_or l j d) (set l j x)))

    exchanged : (l : List X) (i j : ℕ) (d : X) → i < length l → j < length l → R l (set (set l i (get_or l j d)) j (get_or l i d))
    exchanged [] i j d p q = absurd (omega arith)
    exchanged (x ∷ l) zero zero d p q = same (x ∷ l)
    exchanged (x ∷ l) zero (suc j) d p q = to_head l j x d (omega arith)
    exchanged (x ∷ l) (suc i) zero d p q = to_head l i x d (omega arith)
    exchanged (x ∷ l) (suc i) (suc j) d p q = skip x _ _ (exchanged l i j d (omega arith) (omega arith))

    swapped : (l : List X) (i j : ℕ) → i < length l → j < length l → R l (swap l i j)
    swapped [] i j p q = same []
    swapped (x ∷ l) i j p q = exchanged (x ∷ l) i j x p q

    pub along_permutation : (xs ys : List X) → IsPermutation xs ys → R xs ys
    along_permutation xs = IsPermutation-keeps xs (R xs) (same xs) (λ l i j p q h. chain xs l _ h (swapped l i j p q))

  pub IsPermutation-filter : (p : X → Bool) (xs ys : List X) → IsPermutation xs ys → IsPermutation (filter p xs) (filter p ys)
  IsPermutation-filter p = along_permutation (λ xs ys. IsPermutation (filter p xs) (filter p ys))
      (λ xs. IsPermutation-refl _)
      (λ x xs ys h. elim (p x) as (λ b. IsPermutation (cond b (x ∷ filter p xs) (filter p xs)) (cond b (x ∷ filter p ys) (filter p ys))) [
        | true ↦ IsPermutation-append_right (x ∷ []) _ _ h
        | false ↦ h
      ])
      (λ x y xs. elim (p x) as (λ b. IsPermutation
      (cond b (x ∷ cond (p y) (y ∷ filter p xs) (filter p xs)) (cond (p y) (y ∷ filter p xs) (filter p xs)))
      (cond (p y) (y ∷ cond b (x ∷ filter p xs) (filter p xs)) (cond b (x ∷ filter p xs) (filter p xs)))) [
        | true ↦ elim (p y) as (λ c. IsPermutation (x ∷ cond c (y ∷ filter p xs) (filter p xs)) (cond c (y ∷ x ∷ filter p xs) (x ∷ filter p xs))) [
          | true ↦ IsPermutation-append_left (filter p xs) _ _ (IsPermutation-append_comm (x ∷ []) (y ∷ []))
          | false ↦ IsPermutation-refl _
        ]
        | false ↦ IsPermutation-refl _
      ])
      (λ xs ys zs. IsPermutation-trans _ _ _)

  -- lists whose keys rise: each is at most, or less than, those after it
  module _ (key : X → ℕ) where
    abbrev pub Rises : List X → Type 0
    Rises [] = Unit {0}
    Rises (x ∷ xs) = AllByRecursion (λ y. key x ≤ key y) xs × Rises xs

    abbrev pub Climbs : List X → Type 0
    Climbs [] = Unit {0}
    Climbs (x ∷ xs) = AllByRecursion (λ y. key x < key y) xs × Climbs xs

    pub Rises-filter : (p : X → Bool) (xs : List X) → Rises xs → Rises (filter p xs)
    Rises-filter p [] up = tt
    Rises-filter p (x ∷ xs) up =
        elim (p x) as (λ b. Rises (cond b (x ∷ filter p xs) (filter p xs))) [
          | true ↦ (all-filter _ p xs up.0, Rises-filter p xs up.1)
          | false ↦ Rises-filter p xs up.1
        ]

    pub Climbs-filter : (p : X → Bool) (xs : List X) → Climbs xs → Climbs (filter p xs)
    Climbs-filter p [] up = tt
    Climbs-filter p (x ∷ xs) up =
        elim (p x) as (λ b. Climbs (cond b (x ∷ filter p xs) (filter p xs))) [
          | true ↦ (all-filter _ p xs up.0, Climbs-filter p xs up.1)
          | false ↦ Climbs-filter p xs up.1
        ]

    abbrev is_above : X → X → Bool
    is_above x y = ltb (key x) (key y)

    above : (x y : X) → key x < key y → is_above x y ≡ true
    above x y h = grind (arith, nat_tests)

    -- a list that rises is what is not above x, and then what is
    split : (x : X) (ys : List X) → Rises ys → ys ≡ filter (λ y. not (is_above x y)) ys ++ filter (is_above x) ys
    split x [] up = refl
    split x (y ∷ ys) up = go (is_above x y) refl (split x ys up.1)
      where
        go : (b : Bool) → is_above x y ≡ b → ys ≡ filter (λ z. not (is_above x z)) ys ++ filter (is_above x) ys
            → y ∷ ys ≡ filter (λ z. not (is_above x z)) (y ∷ ys) ++ filter (is_above x) (y ∷ ys)
        go false e more = rw e (ap (λ l. y ∷ l) more)
        go true e more =
            let all = all_weaker (λ z. key y ≤ key z) (λ z. is_above x z ≡ true) (λ z le. grind (arith, nat_tests)) ys up.0 in
            rw (e, filter_none _ ys (all_weaker _ (λ z. not (is_above x z) ≡ false) (λ z h. ap not h) ys all), filter_all _ ys all)

    one : (x : X) (ys : List X) → IsPermutation (x ∷ []) ys → ys ≡ x ∷ []
    one x [] same = absurd (omega (arith, length_permutation _ _ same))
    one x (y ∷ []) same =
        ap (λ z. z ∷ []) (recursion_from_All (λ z. z ≡ x) (y ∷ []) (All-permutation (λ z. z ≡ x) (x ∷ []) (y ∷ []) same (All-from_recursion (λ z. z ≡ x) (x ∷ []) (refl, tt)))).0
    one x (y ∷ z ∷ ys) same = absurd (omega (arith, length_permutation _ _ same))

    -- the head is all that is not above the head, and the rest follows by induction
    pub same_order : (xs ys : List X) → Climbs xs → IsPermutation xs ys → Rises ys → ys ≡ xs
    same_order [] [] strict same up = refl
    same_order [] (y ∷ ys) strict same up = absurd (omega (arith, length_permutation _ _ same))
    same_order (x ∷ xs) ys strict same up =
        let here : is_above x x ≡ false = grind (arith, nat_tests) in
        let all = all_weaker (λ z. key x < key z) (λ z. is_above x z ≡ true) (λ z h. above x z h) xs strict.0 in
        let first : filter (λ z. not (is_above x z)) (x ∷ xs) ≡ x ∷ [] =
        rw (here, filter_none _ xs (all_weaker _ (λ z. not (is_above x z) ≡ false) (λ z h. ap not h) xs all)) in
        let later : filter (is_above x) (x ∷ xs) ≡ xs = rw (here, filter_all _ xs all) in
        let head = one x _ (subst (λ l. IsPermutation l (filter (λ z. not (is_above x z)) ys)) first (IsPermutation-filter (λ z. not (is_above x z)) _ _ same)) in
        let tail = same_order xs _ strict.1 (subst (λ l. IsPermutation l (filter (is_above x) ys)) later (IsPermutation-filter (is_above x) _ _ same)) (Rises-filter _ ys up) in
        split x ys up ∙ ap₂ ◌++◌ head tail
