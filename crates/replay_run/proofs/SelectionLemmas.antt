-- Lists of events in the order of their times: what `by_time` makes of a list (`by_time_rises`, `by_time_stable`, `by_time_same`,
-- `by_time_permutes`, `by_time_ordered`), and that order and ties decide it (`sorted_same`, `sorted_by`). `rises_push` is for the code.
use Rattle.std.proofs.Common.{◌≡◌, ◌==◌, ℕ, suc, ◌<◌, ◌≤◌, ◌&&◌, inl, inr, Bool, true, false, not, cond, List, [], ◌∷◌, ◌++◌, refl, sym, ap, ◌∙◌, subst, arith, nat_lt}
use Rattle.std.specs.Prelude.{All, filter, nat_le}
use Rattle.std.specs.Ordering.{nat_cmp, is_lt}
use Rattle.std.specs.List.Sorted.{IsPermutation, IsStableByKey, IsNonDecreasingBy}
use Rattle.std.proofs.lemmas.Bool.{leb-false, leb-true, cases_order}
use Rattle.std.proofs.lemmas.Bool.Decides.{nat_tests}
use Rattle.std.proofs.Math.Nat.{eq-or-lt_of_le}
use Rattle.std.proofs.lemmas.List.Elements.{All-nil, All-cons, All-head, All-tail, All-push, All-weaker}
use Rattle.std.proofs.lemmas.List.Sorted.{IsPermutation-refl, IsPermutation-cons, IsPermutation-swap, IsPermutation-trans}
use Rattle.archive_keep.specs.declared.event_ref.KeptEvent.{KeptEvent}
use Rattle.archive_keep.specs.Kept.{IsLater, AreInOrder}
use Rattle.replay_run.specs.Selection.{placed_by_time, by_time, ComesBefore, AreByTimeAndNumber, AreByTime}

abbrev pub time_of : KeptEvent → ℕ
time_of e = e.time

-- the two times are one, as a sort sees it
abbrev tie : ℕ → ℕ → Bool
tie a b = not (is_lt (nat_cmp a b)) && not (is_lt (nat_cmp b a))

abbrev tied : KeptEvent → KeptEvent → Bool
tied x e = tie x.time e.time

and_false : (b : Bool) → b && false ≡ false
and_false true = refl
and_false false = refl

not_below : (a : ℕ) → nat_lt a a ≡ false
not_below a = grind (arith, nat_tests)

equals_itself : (a : ℕ) → (a == a) ≡ true
equals_itself a = grind (arith, nat_tests)

below : (a b : ℕ) → a < b → nat_lt a b ≡ true
below a b h = grind (arith, nat_tests)

cmp_below : (a b : ℕ) → a < b → is_lt (nat_cmp a b) ≡ true
cmp_below a b h = let e = below a b h in rw e refl

cmp_same : (a : ℕ) → is_lt (nat_cmp a a) ≡ false
cmp_same a =
    let e = not_below a in
    let f = equals_itself a in
    rw e (rw f refl)

tie_same : (a b : ℕ) → a ≡ b → tie a b ≡ true
tie_same a b same = let e = cmp_same a in subst (λ n. tie a n ≡ true) same (rw e refl)

tie_below : (a b : ℕ) → a < b → tie a b ≡ false
tie_below a b h = let e = cmp_below a b h in rw e refl

tie_above : (a b : ℕ) → b < a → tie a b ≡ false
tie_above a b h = let e = cmp_below b a h in rw e (and_false (not (is_lt (nat_cmp a b))))

tie_equal : (a b : ℕ) → tie a b ≡ true → a ≡ b
tie_equal a b h = elim (cases_order a b) [
  | inl same ↦ same
  | inr other ↦ elim other [
    | inl less ↦ absurd (let no = tie_below a b less in cc)
    | inr more ↦ absurd (let no = tie_above a b more in cc)
  ]
]

none_tied : (x : KeptEvent) (zs : List KeptEvent) → All (λ (o : KeptEvent). x.time < o.time) zs → filter (tied x) zs ≡ []
none_tied x [] a = refl
none_tied x (z ∷ zs) a =
    let P : KeptEvent → Type 0 = λ o. x.time < o.time in
    let no = tie_below x.time z.time (All-head P z zs a) in
    rw no (none_tied x zs (All-tail P z zs a))

one_tied : (x e : KeptEvent) (es : List KeptEvent) → x.time ≡ e.time → filter (tied x) (e ∷ es) ≡ e ∷ filter (tied x) es
one_tied x e es same = let yes = tie_same x.time e.time same in rw yes refl

-- an event before all of a list has no tie in it
apart : (x y : KeptEvent) (xs ys : List KeptEvent) → AreByTime (y ∷ ys) → x.time < y.time
    → filter (tied x) (x ∷ xs) ≡ filter (tied x) (y ∷ ys) → ⊥
apart x y xs ys up less same =
    let P : KeptEvent → Type 0 = λ o. x.time < o.time in
    let Q : KeptEvent → Type 0 = λ o. y.time ≤ o.time in
    let none = none_tied x (y ∷ ys) (All-cons P y ys less (All-weaker Q P (λ o le. omega (arith, less, le)) ys up.0)) in
    let some = one_tied x x xs refl in
    let both : x ∷ filter (tied x) xs ≡ [] = sym some ∙ same ∙ none in
    absurd (cc)

same_rest : (b : Bool) (x : KeptEvent) (xs ys : List KeptEvent) → cond b (x ∷ xs) xs ≡ cond b (x ∷ ys) ys → xs ≡ ys
same_rest true x xs ys h = cc
same_rest false x xs ys h = h

-- two lists in the order of their times are one if the events of each time are the same, in the same order
pub sorted_same : (xs ys : List KeptEvent) → AreByTime xs → AreByTime ys → ((x : KeptEvent) → filter (tied x) xs ≡ filter (tied x) ys) → xs ≡ ys
sorted_same [] [] up going ties = refl
sorted_same [] (y ∷ ys) up going ties = absurd (let h = ties y in let some = one_tied y y ys refl in cc)
sorted_same (x ∷ xs) [] up going ties = absurd (let h = ties x in let some = one_tied x x xs refl in cc)
sorted_same (x ∷ xs) (y ∷ ys) up going ties = elim (cases_order x.time y.time) [
  | inl same ↦
      let first : x ∷ filter (tied x) xs ≡ y ∷ filter (tied x) ys = sym (one_tied x x xs refl) ∙ ties x ∙ one_tied x y ys same in
      let is : x ≡ y = cc in
      let R : KeptEvent → Type 0 = λ e. (z : KeptEvent) → filter (tied z) (x ∷ xs) ≡ filter (tied z) (e ∷ ys) in
      let all = subst R (sym is) ties in
      let rest = sorted_same xs ys up.1 going.1 (λ z. same_rest (tied z x) x (filter (tied z) xs) (filter (tied z) ys) (all z)) in
      ap (λ e. e ∷ xs) is ∙ ap (λ zs. y ∷ zs) rest
  | inr other ↦ elim other [
    | inl less ↦ absurd (apart x y xs ys going less (ties x))
    | inr more ↦ absurd (apart y x ys xs up more (sym (ties y)))
  ]
]

All_placed : (P : KeptEvent → Type 0) (e : KeptEvent) (ys : List KeptEvent) → P e → All P ys → All P (placed_by_time e ys)
All_placed P e [] p a = All-cons P e [] p a
All_placed P e (o ∷ os) p a =
    elim (nat_le e.time o.time) as (λ b. All P (cond b (e ∷ o ∷ os) (o ∷ placed_by_time e os))) [
      | true ↦ All-cons P e (o ∷ os) p a
      | false ↦ All-cons P o (placed_by_time e os) (All-head P o os a) (All_placed P e os p (All-tail P o os a))
    ]

pub by_time_all : (P : KeptEvent → Type 0) (xs : List KeptEvent) → All P xs → All P (by_time xs)
by_time_all P [] a = a
by_time_all P (e ∷ es) a = All_placed P e (by_time es) (All-head P e es a) (by_time_all P es (All-tail P e es a))

placed_rises : (e : KeptEvent) (ys : List KeptEvent) → AreByTime ys → AreByTime (placed_by_time e ys)
placed_rises e [] up = (All-nil (λ (o : KeptEvent). e.time ≤ o.time), tt)
placed_rises e (o ∷ os) up =
    let From : KeptEvent → KeptEvent → Type 0 = λ x z. x.time ≤ z.time in
    (elim (nat_le e.time o.time) as (λ b. nat_le e.time o.time ≡ b → AreByTime (cond b (e ∷ o ∷ os) (o ∷ placed_by_time e os))) [
      | true ↦ λ yes.
          let le : e.time ≤ o.time = leb-true e.time o.time yes in
          (All-cons (From e) o os le (All-weaker (From o) (From e) (λ z more. omega (arith, le, more)) os up.0), up)
      | false ↦ λ no.
          let less : o.time < e.time = leb-false e.time o.time no in
          (All_placed (From o) e os (omega (arith, less)) up.0, placed_rises e os up.1)
    ]) refl

pub by_time_rises : (xs : List KeptEvent) → AreByTime (by_time xs)
by_time_rises [] = tt
by_time_rises (e ∷ es) = placed_rises e (by_time es) (by_time_rises es)

swapped : (p q : Bool) (e o : KeptEvent) (F : List KeptEvent) → (p ≡ true → q ≡ true → ⊥) → cond q (o ∷ cond p (e ∷ F) F) (cond p (e ∷ F) F)
    ≡ cond p (e ∷ cond q (o ∷ F) F) (cond q (o ∷ F) F)
swapped true true e o F never = absurd (never refl refl)
swapped true false e o F never = refl
swapped false true e o F never = refl
swapped false false e o F never = refl

placed_stable : (x e : KeptEvent) (ys : List KeptEvent) → filter (tied x) (placed_by_time e ys) ≡ filter (tied x) (e ∷ ys)
placed_stable x e [] = refl
placed_stable x e (o ∷ os) =
    (elim (nat_le e.time o.time) as (λ b. nat_le e.time o.time ≡ b
    → filter (tied x) (cond b (e ∷ o ∷ os) (o ∷ placed_by_time e os)) ≡ filter (tied x) (e ∷ o ∷ os)) [
      | true ↦ λ _. refl
      | false ↦ λ no.
          let less : o.time < e.time = leb-false e.time o.time no in
          ap (λ zs. cond (tied x o) (o ∷ zs) zs) (placed_stable x e os)
          ∙ swapped (tied x e) (tied x o) e o (filter (tied x) os)
          (λ one two. let a = tie_equal x.time e.time one in let b = tie_equal x.time o.time two in omega (arith, less, a, b))
    ]) refl

pub by_time_stable : (x : KeptEvent) (xs : List KeptEvent) → filter (tied x) (by_time xs) ≡ filter (tied x) xs
by_time_stable x [] = refl
by_time_stable x (e ∷ es) = placed_stable x e (by_time es) ∙ ap (λ zs. cond (tied x e) (e ∷ zs) zs) (by_time_stable x es)

placed_first : (e : KeptEvent) (es : List KeptEvent) → AreByTime (e ∷ es) → placed_by_time e es ≡ e ∷ es
placed_first e [] up = refl
placed_first e (o ∷ os) up =
    let le : e.time ≤ o.time = All-head (λ (z : KeptEvent). e.time ≤ z.time) o os up.0 in
    (elim (nat_le e.time o.time) as (λ b. nat_le e.time o.time ≡ b → cond b (e ∷ o ∷ os) (o ∷ placed_by_time e os) ≡ e ∷ o ∷ os) [
      | true ↦ λ _. refl
      | false ↦ λ no. absurd (omega (arith, le, leb-false e.time o.time no))
    ]) refl

pub by_time_same : (xs : List KeptEvent) → AreByTime xs → by_time xs ≡ xs
by_time_same [] up = refl
by_time_same (e ∷ es) up = ap (placed_by_time e) (by_time_same es up.1) ∙ placed_first e es up

placed_permutes : (e : KeptEvent) (ys : List KeptEvent) → IsPermutation (e ∷ ys) (placed_by_time e ys)
placed_permutes e [] = IsPermutation-refl (e ∷ [])
placed_permutes e (o ∷ os) =
    elim (nat_le e.time o.time) as (λ b. IsPermutation (e ∷ o ∷ os) (cond b (e ∷ o ∷ os) (o ∷ placed_by_time e os))) [
      | true ↦ IsPermutation-refl (e ∷ o ∷ os)
      | false ↦ IsPermutation-trans (e ∷ o ∷ os) (o ∷ e ∷ os) (o ∷ placed_by_time e os)
          (IsPermutation-swap (e ∷ o ∷ os) (o ∷ e ∷ os) 0 1 (omega arith) (omega arith) refl)
          (IsPermutation-cons o (e ∷ os) (placed_by_time e os) (placed_permutes e os))
    ]

pub by_time_permutes : (xs : List KeptEvent) → IsPermutation xs (by_time xs)
by_time_permutes [] = IsPermutation-refl []
by_time_permutes (e ∷ es) =
    IsPermutation-trans (e ∷ es) (e ∷ by_time es) (placed_by_time e (by_time es)) (IsPermutation-cons e es (by_time es) (by_time_permutes es))
    (placed_permutes e (by_time es))

before_from : (e z : KeptEvent) → e.time ≤ z.time → e.number < z.number → ComesBefore e z
before_from e z le less = elim (eq-or-lt_of_le le) [ inl same ↦ inr (same, less) | inr earlier ↦ inl earlier ]

All_before : (e : KeptEvent) (zs : List KeptEvent) → All (λ (z : KeptEvent). e.time ≤ z.time) zs → All (λ (z : KeptEvent). e.number < z.number) zs → All (ComesBefore e) zs
All_before e [] a b = All-nil (ComesBefore e)
All_before e (z ∷ zs) a b =
    let P : KeptEvent → Type 0 = λ z. e.time ≤ z.time in
    let Q : KeptEvent → Type 0 = λ z. e.number < z.number in
    All-cons (ComesBefore e) z zs (before_from e z (All-head P z zs a) (All-head Q z zs b)) (All_before e zs (All-tail P z zs a) (All-tail Q z zs b))

not_earlier : (o z : KeptEvent) → ComesBefore o z → o.time ≤ z.time
not_earlier o z (inl less) = omega (arith, less)
not_earlier o z (inr both) = omega (arith, both.0)

placed_ordered : (e : KeptEvent) (ys : List KeptEvent) → All (λ (o : KeptEvent). e.number < o.number) ys → AreByTimeAndNumber ys
    → AreByTimeAndNumber (placed_by_time e ys)
placed_ordered e [] a up = (All-nil (ComesBefore e), tt)
placed_ordered e (o ∷ os) a up =
    let Q : KeptEvent → Type 0 = λ z. e.number < z.number in
    let From : KeptEvent → Type 0 = λ z. e.time ≤ z.time in
    (elim (nat_le e.time o.time) as (λ b. nat_le e.time o.time ≡ b → AreByTimeAndNumber (cond b (e ∷ o ∷ os) (o ∷ placed_by_time e os))) [
      | true ↦ λ yes.
          let le : e.time ≤ o.time = leb-true e.time o.time yes in
          let later = All-weaker (ComesBefore o) From (λ z before. omega (arith, le, not_earlier o z before)) os up.0 in
          (All_before e (o ∷ os) (All-cons From o os le later) a, up)
      | false ↦ λ no.
          let less : o.time < e.time = leb-false e.time o.time no in
          (All_placed (ComesBefore o) e os (inl less) up.0, placed_ordered e os (All-tail Q o os a) up.1)
    ]) refl

pub by_time_ordered : (xs : List KeptEvent) → AreInOrder xs → AreByTimeAndNumber (by_time xs)
by_time_ordered [] o = tt
by_time_ordered (e ∷ es) o =
    let Q : KeptEvent → Type 0 = λ z. e.number < z.number in
    placed_ordered e (by_time es) (by_time_all Q es (All-weaker (IsLater e) Q (λ z later. later.0) es o.0)) (by_time_ordered es o.1)

pub rises_from : (xs : List KeptEvent) → IsNonDecreasingBy time_of xs → AreByTime xs
rises_from [] up = tt
rises_from (e ∷ es) up = (
  (λ k d within. up 0 (suc k) d (omega arith) (omega (arith, within))),
  rises_from es (λ i j d le within. up (suc i) (suc j) d (omega (arith, le)) (omega (arith, within))),
)

pub rises_push : (xs : List KeptEvent) (x : KeptEvent) → AreByTime xs → All (λ (e : KeptEvent). e.time ≤ x.time) xs → AreByTime (xs ++ x ∷ [])
rises_push [] x up a = (All-nil (λ (o : KeptEvent). x.time ≤ o.time), tt)
rises_push (e ∷ es) x up a =
    let P : KeptEvent → Type 0 = λ e. e.time ≤ x.time in
    (All-push (λ (o : KeptEvent). e.time ≤ o.time) es x up.0 (All-head P e es a), rises_push es x up.1 (All-tail P e es a))

-- a stable sort by time gives the order of the definition
pub sorted_by : (xs ys : List KeptEvent) → IsNonDecreasingBy time_of ys → IsStableByKey time_of nat_cmp xs ys → ys ≡ by_time xs
sorted_by xs ys up stable = sorted_same ys (by_time xs) (rises_from ys up) (by_time_rises xs) (λ x. stable x ∙ sym (by_time_stable x xs))
