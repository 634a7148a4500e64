-- Lists of kept events: a front of them that fails a test (`gone_front`, `gone_taken`, `kept_dropped`, `parts_count`, `parts_size`), their
-- order (`order_filter`, `order_push`), their size (`size_bound`), and the test of an archive (`retained_later`, `purged_later`,
-- `filter_passes`).
use Rattle.std.proofs.Common.{◌≡◌, ℕ, suc, zero, ◌+◌, ◌*◌, ◌^◌, ◌<◌, ◌≤◌, ◌==◌, ◌||◌, Bool, true, false, not, cond, List, [], ◌∷◌, ◌++◌, length, take, drop, refl, sym, ap, ◌∙◌, subst, arith, nat_lt}
use Rattle.std.specs.Prelude.{All, filter}
use Rattle.std.specs.List.{take_while}
use Rattle.std.proofs.lemmas.Bool.Decides.{nat_tests}
use Rattle.std.proofs.lemmas.List.Sums.{take_while-cons, sum_by-cons}
use Rattle.std.proofs.lemmas.List.Elements.{All-nil, All-cons, All-head, All-tail, All-push, All-weaker, All-filter}
use Rattle.archive_keep.specs.declared.event_ref.KeptEvent.{KeptEvent}
use Rattle.archive_keep.specs.Kept.{IsLater, AreInOrder}
use Rattle.archive_keep.specs.Archive.{is_retained, size_of}

pub single : {X : Type 0} (xs : List X) → length xs ≡ 1 → (x : X) × (xs ≡ x ∷ [])
single [] h = absurd (omega (arith, h))
single (x ∷ []) h = (x, refl)
single (x ∷ y ∷ ys) h = absurd (omega (arith, h))

-- a test that each event passes which is later than one that does
abbrev pub Lasts : (KeptEvent → Bool) → Type 0
Lasts keep = (e o : KeptEvent) → IsLater e o → keep e ≡ true → keep o ≡ true

module _ (keep : KeptEvent → Bool) where
  abbrev pub gone : KeptEvent → Bool
  gone e = not (keep e)

  pub all_kept : (xs : List KeptEvent) → All (λ o. keep o ≡ true) xs → filter keep xs ≡ xs
  all_kept [] a = refl
  all_kept (e ∷ es) a =
      let P : KeptEvent → Type 0 = λ o. keep o ≡ true in
      let test = All-head P e es a in
      rw test (ap (λ ys. e ∷ ys) (all_kept es (All-tail P e es a)))

  pub none_gone : (xs : List KeptEvent) → All (λ o. keep o ≡ true) xs → filter gone xs ≡ []
  none_gone [] a = refl
  none_gone (e ∷ es) a =
      let P : KeptEvent → Type 0 = λ o. keep o ≡ true in
      let test = All-head P e es a in
      rw test (none_gone es (All-tail P e es a))

  rest_kept : Lasts keep → (e : KeptEvent) (es : List KeptEvent) → AreInOrder (e ∷ es) → keep e ≡ true → All (λ o. keep o ≡ true) es
  rest_kept lasts e es o test = All-weaker (IsLater e) (λ o. keep o ≡ true) (λ o later. lasts e o later test) es o.0

  -- the events that fail come first
  pub gone_front : Lasts keep → (xs : List KeptEvent) → AreInOrder xs → length (take_while gone xs) ≡ length (filter gone xs)
  gone_front lasts [] o = refl
  gone_front lasts (e ∷ es) o =
      ap (length {A = KeptEvent}) (take_while-cons gone e es)
      ∙ (elim (keep e) as (λ b. keep e ≡ b
      → length (cond (not b) (e ∷ take_while gone es) []) ≡ length (cond (not b) (e ∷ filter gone es) (filter gone es))) [
        | true ↦ λ test. sym (ap (length {A = KeptEvent}) (none_gone es (rest_kept lasts e es o test)))
        | false ↦ λ _. omega (arith, gone_front lasts es o.1)
      ]) refl

  pub gone_taken : Lasts keep → (xs : List KeptEvent) → AreInOrder xs → take (length (filter gone xs)) xs ≡ filter gone xs
  gone_taken lasts [] o = refl
  gone_taken lasts (e ∷ es) o =
      let G : List KeptEvent = filter gone es in
      (elim (keep e) as (λ b. keep e ≡ b → take (length (cond (not b) (e ∷ G) G)) (e ∷ es) ≡ cond (not b) (e ∷ G) G) [
        | true ↦ λ test. let none : G ≡ [] = none_gone es (rest_kept lasts e es o test) in rw none refl
        | false ↦ λ _. ap (λ ys. e ∷ ys) (gone_taken lasts es o.1)
      ]) refl

  pub kept_dropped : Lasts keep → (xs : List KeptEvent) → AreInOrder xs → drop (length (filter gone xs)) xs ≡ filter keep xs
  kept_dropped lasts [] o = refl
  kept_dropped lasts (e ∷ es) o =
      let G : List KeptEvent = filter gone es in
      let K : List KeptEvent = filter keep es in
      (elim (keep e) as (λ b. keep e ≡ b → drop (length (cond (not b) (e ∷ G) G)) (e ∷ es) ≡ cond b (e ∷ K) K) [
        | true ↦ λ test.
            let kept = rest_kept lasts e es o test in
            let none : G ≡ [] = none_gone es kept in
            ap (λ ys. drop (length ys) (e ∷ es)) none ∙ ap (λ ys. e ∷ ys) (sym (all_kept es kept))
        | false ↦ λ _. kept_dropped lasts es o.1
      ]) refl

  -- both parts together
  pub parts_count : (xs : List KeptEvent) → length (filter gone xs) + length (filter keep xs) ≡ length xs
  parts_count [] = refl
  parts_count (e ∷ es) =
      elim (keep e) as (λ b. length (cond (not b) (e ∷ filter gone es) (filter gone es)) + length (cond b (e ∷ filter keep es) (filter keep es))
      ≡ length (e ∷ es)) [
        | true ↦ omega (arith, parts_count es)
        | false ↦ omega (arith, parts_count es)
      ]

  pub parts_size : (xs : List KeptEvent) → size_of (filter gone xs) + size_of (filter keep xs) ≡ size_of xs
  parts_size [] = refl
  parts_size (e ∷ es) =
      let f : KeptEvent → ℕ = λ e. length e.text in
      elim (keep e) as (λ b. size_of (cond (not b) (e ∷ filter gone es) (filter gone es)) + size_of (cond b (e ∷ filter keep es) (filter keep es))
      ≡ size_of (e ∷ es)) [
        | true ↦ omega (arith, parts_size es, sum_by-cons f e (filter keep es), sum_by-cons f e es)
        | false ↦ omega (arith, parts_size es, sum_by-cons f e (filter gone es), sum_by-cons f e es)
      ]

  pub order_filter : (xs : List KeptEvent) → AreInOrder xs → AreInOrder (filter keep xs)
  order_filter [] o = tt
  order_filter (e ∷ es) o =
      elim (keep e) as (λ b. AreInOrder (cond b (e ∷ filter keep es) (filter keep es))) [
        | true ↦ (All-filter keep (IsLater e) es o.0, order_filter es o.1)
        | false ↦ order_filter es o.1
      ]

pub order_push : (xs : List KeptEvent) (e : KeptEvent) → AreInOrder xs → All (λ o. IsLater o e) xs → AreInOrder (xs ++ e ∷ [])
order_push [] e o a = (All-nil (IsLater e), tt)
order_push (x ∷ xs) e o a = (
  All-push (IsLater x) xs e o.0 (All-head (λ o. IsLater o e) x xs a),
  order_push xs e o.1 (All-tail (λ o. IsLater o e) x xs a),
)

abbrev Short : KeptEvent → Type 0
Short e = length e.text < 2 ^ 64

pub size_bound : (xs : List KeptEvent) → All (λ (e : KeptEvent). length e.text < 2 ^ 64) xs → size_of xs ≤ length xs * 2 ^ 64
size_bound [] a = omega arith
size_bound (e ∷ es) a =
    let f : KeptEvent → ℕ = λ e. length e.text in
    let one : length e.text < 2 ^ 64 = All-head Short e es a in
    omega (arith, one, size_bound es (All-tail Short e es a), sum_by-cons f e es)

later_still : (moment k a b : ℕ) → a ≤ b → nat_lt moment (a + k) ≡ true → nat_lt moment (b + k) ≡ true
later_still moment k a b le h = grind (arith, nat_tests)

-- an event that is later than a retained one is retained
pub retained_later : (days moment : ℕ) → Lasts (is_retained days moment)
retained_later days moment e o later h =
    (elim (days == 0) as (λ b. (b || nat_lt moment (e.accepted + 86400 * days)) ≡ true → (b || nat_lt moment (o.accepted + 86400 * days)) ≡ true) [
      | true ↦ λ _. refl
      | false ↦ λ test. later_still moment (86400 * days) e.accepted o.accepted later.1 test
    ]) h

-- one step over a list: what is left at a place, and what was taken
pub left_more : {X : Type 0} (xs left : List X) (i : ℕ) (x : X) → drop i xs ≡ x ∷ left → (drop (i + 1) xs ≡ left) × (take (i + 1) xs ≡ take i xs ++ x ∷ [])
left_more [] left zero x e = absurd (cc)
left_more [] left (suc i) x e = absurd (cc)
left_more (y ∷ ys) left zero x e =
    let same : y ≡ x = cc in
    let rest : ys ≡ left = cc in
    (rest, ap (λ z. z ∷ []) same)
left_more (y ∷ ys) left (suc i) x e =
    let (one, two) = left_more ys left i x e in
    let next : suc i + 1 ≡ suc (i + 1) = omega arith in
    let P : ℕ → Type 0 = λ n. drop n (y ∷ ys) ≡ left in
    let Q : ℕ → Type 0 = λ n. take n (y ∷ ys) ≡ y ∷ (take i ys ++ x ∷ []) in
    (subst P (sym next) one, subst Q (sym next) (ap (λ zs. y ∷ zs) two))

earlier_still : (moment later until : ℕ) → moment ≤ later → nat_lt later until ≡ true → nat_lt moment until ≡ true
earlier_still moment later until le h = grind (arith, nat_tests)

retained_before : (days moment later : ℕ) (e : KeptEvent) → moment ≤ later → is_retained days later e ≡ true → is_retained days moment e ≡ true
retained_before days moment later e le h =
    let until = e.accepted + 86400 * days in
    (elim (days == 0) as (λ b. (b || nat_lt later until) ≡ true → (b || nat_lt moment until) ≡ true) [
      | true ↦ λ _. refl
      | false ↦ λ test. earlier_still moment later until le test
    ]) h

filter_twice : (one two : KeptEvent → Bool) → ((e : KeptEvent) → two e ≡ true → one e ≡ true) → (xs : List KeptEvent)
    → filter two (filter one xs) ≡ filter two xs
filter_twice one two implied [] = refl
filter_twice one two implied (e ∷ es) =
    let rest = filter_twice one two implied es in
    (elim (one e) as (λ b. one e ≡ b → filter two (cond b (e ∷ filter one es) (filter one es)) ≡ cond (two e) (e ∷ filter two es) (filter two es)) [
      | true ↦ λ _.
          elim (two e) as (λ b. cond b (e ∷ filter two (filter one es)) (filter two (filter one es)) ≡ cond b (e ∷ filter two es) (filter two es)) [
            | true ↦ ap (λ ys. e ∷ ys) rest
            | false ↦ rest
          ]
      | false ↦ λ no.
          rest ∙ (elim (two e) as (λ b. two e ≡ b → filter two es ≡ cond b (e ∷ filter two es) (filter two es)) [
            | true ↦ λ yes. absurd (let both : one e ≡ true = implied e yes in cc)
            | false ↦ λ _. refl
          ]) refl
    ]) refl

-- a purge drops nothing that is retained later
pub purged_later : (days moment later : ℕ) (xs : List KeptEvent) → moment ≤ later
    → filter (is_retained days later) (filter (is_retained days moment) xs) ≡ filter (is_retained days later) xs
purged_later days moment later xs le =
    filter_twice (is_retained days moment) (is_retained days later) (λ e h. retained_before days moment later e le h) xs

pub filter_passes : (test : KeptEvent → Bool) (xs : List KeptEvent) → All (λ e. test e ≡ true) (filter test xs)
filter_passes test [] = All-nil (λ e. test e ≡ true)
filter_passes test (e ∷ es) =
    let P : KeptEvent → Type 0 = λ e. test e ≡ true in
    (elim (test e) as (λ b. test e ≡ b → All P (cond b (e ∷ filter test es) (filter test es))) [
      | true ↦ λ yes. All-cons P e (filter test es) yes (filter_passes test es)
      | false ↦ λ _. filter_passes test es
    ]) refl
