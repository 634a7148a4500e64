-- `Any` of longer, changed and filtered lists: the `any_` lemmas.
use Rattle.std.proofs.Common.{◌≡◌, Bool, true, false, cond, List, [], ◌∷◌, ◌++◌, map, refl, sym, ◌∙◌, subst, inl, inr, arith, length-append}
use Rattle.std.specs.Prelude.{Any, Contains, filter, ◌⊎◌, zero, suc}
use Rattle.std.proofs.lemmas.List.{get_or_append_left}

pub any_here : {X : Type 0} (P : X → Type 0) (x : X) (xs : List X) → P x → Any P (x ∷ xs)
any_here P x xs p = (0, x, omega arith, refl, p)

pub any_there : {X : Type 0} (P : X → Type 0) (x : X) (xs : List X) → Any P xs → Any P (x ∷ xs)
any_there P x xs (k, y, l, e, p) = (suc k, y, omega arith, e, p)

pub any_middle : {X : Type 0} (P : X → Type 0) (front : List X) (x : X) (xs : List X) → P x → Any P (front ++ x ∷ xs)
any_middle P [] x xs p = any_here P x xs p
any_middle P (y ∷ ys) x xs p = any_there P y (ys ++ x ∷ xs) (any_middle P ys x xs p)

pub any_cases : {X : Type 0} (P : X → Type 0) (x : X) (xs : List X) → Any P (x ∷ xs) → P x ⊎ Any P xs
any_cases P x xs (zero, y, l, e, p) = inl (subst P (sym e) p)
any_cases P x xs (suc k, y, l, e, p) = inr (k, y, omega arith, e, p)

pub any_left : {X : Type 0} (P : X → Type 0) (xs ys : List X) → Any P xs → Any P (xs ++ ys)
any_left P xs ys (k, x, l, e, p) =
    (k, x, omega (arith, length-append xs ys), get_or_append_left xs ys x k l ∙ e, p)

pub any_map : {X : Type 0} (P : X → Type 0) (f : X → X) → ((x : X) → P x → P (f x)) → (xs : List X) → Any P xs → Any P (map f xs)
any_map P f step [] h = h
any_map P f step (x ∷ xs) h =
    elim (any_cases P x xs h) [ inl p ↦ any_here P (f x) (map f xs) (step x p) | inr r ↦ any_there P (f x) (map f xs) (any_map P f step xs r) ]

pub any_filter : {X : Type 0} (P : X → Type 0) (p : X → Bool) → ((x : X) → P x → p x ≡ true) → (xs : List X) → Any P xs → Any P (filter p xs)
any_filter P p passes [] h = h
any_filter P p passes (x ∷ xs) h =
    elim (any_cases P x xs h) [
      | inl q ↦ let e : p x ≡ true = passes x q in rw e (any_here P x (filter p xs) q)
      | inr r ↦ let rest = any_filter P p passes xs r in
          elim (p x) as (λ b. Any P (cond b (x ∷ filter p xs) (filter p xs)))
          [ true ↦ any_there P x (filter p xs) rest | false ↦ rest ]
    ]

any_none : {X : Type 0} (P : X → Type 0) → Any P [] → ⊥
any_none P (k, x, l, e, p) = omega arith

pub any_push_cases : {X : Type 0} (P : X → Type 0) (xs : List X) (y : X) → Any P (xs ++ y ∷ []) → Any P xs ⊎ P y
any_push_cases P [] y h = elim (any_cases P y [] h) [ inl p ↦ inr p | inr r ↦ inl r ]
any_push_cases P (x ∷ xs) y h =
    elim (any_cases P x (xs ++ y ∷ []) h) [
      | inl p ↦ inl (any_here P x xs p)
      | inr r ↦ elim (any_push_cases P xs y r) [ inl q ↦ inl (any_there P x xs q) | inr q ↦ inr q ]
    ]

pub any_unmap : {X : Type 0} (P : X → Type 0) (f : X → X) → ((x : X) → P (f x) → P x) → (xs : List X) → Any P (map f xs) → Any P xs
any_unmap P f back [] h = h
any_unmap P f back (x ∷ xs) h =
    elim (any_cases P (f x) (map f xs) h) [ inl p ↦ any_here P x xs (back x p) | inr r ↦ any_there P x xs (any_unmap P f back xs r) ]

pub any_passed : {X : Type 0} (P : X → Type 0) (p : X → Bool) (xs : List X) → Any P (filter p xs) → Any (λ x. P x × (p x ≡ true)) xs
any_passed P p [] h = absurd (any_none P h)
any_passed {X} P p (x ∷ xs) h =
    let Q : X → Type 0 = λ y. P y × (p y ≡ true) in
    (elim (p x) as (λ b. p x ≡ b → Any P (cond b (x ∷ filter p xs) (filter p xs)) → Any Q (x ∷ xs)) [
      | true ↦ λ e g. elim (any_cases P x (filter p xs) g) [ inl q ↦ any_here Q x xs (q, e) | inr r ↦ any_there Q x xs (any_passed P p xs r) ]
      | false ↦ λ e g. any_there Q x xs (any_passed P p xs g)
    ]) refl h

pub any_weaker : {X : Type 0} (P Q : X → Type 0) → ((x : X) → P x → Q x) → (xs : List X) → Any P xs → Any Q xs
any_weaker P Q step xs (k, x, l, e, p) = (k, x, l, e, step x p)

pub contains_any : {X : Type 0} (P : X → Type 0) (xs : List X) (x : X) → Contains xs x → P x → Any P xs
contains_any P xs x (k, l, e) p = (k, x, l, e, p)
