-- Entries by key once one was placed or removed: `placed_here`, `placed_kept`, `by_placed`, `removed_kept`, `by_removed`, `least_key`, `key_has`, `larger`,
-- `free_of`. Two steps in either order: `placed_swap`, `without_placed_other`.
use Rattle.std.proofs.Common.{◌≡◌, ◌≢◌, ℕ, ◌+◌, ◌<◌, ◌≤◌, ◌⊎◌, inl, inr, true, false, cond, eqb, ltb, List, [], ◌∷◌, length, Some, None, refl, sym, ap, ◌∙◌, subst, arith}
use Rattle.std.proofs.lemmas.Bool.{cases_lt, eq-eqb, ne_eqb, eqb-false, eqb-true, lt-ltb, le-ltb}
use Rattle.key_tree.specs.Entries.{placed, value_at, without, AllKeys, AreSorted}
use Rattle.key_tree.proofs.EntryLemmas.{others, placed_lower, value_at-placed, value_at-without_other, value_at-without_same, without_none, AllKeys-weaker, AllKeys-without}

pub found_here : {V : Type 0} (key : ℕ) (v : V) (rest : List (ℕ × V)) → value_at key ((key, v) ∷ rest) ≡ Some v
found_here key v rest = rw (eq-eqb key key refl) refl

pub placed_here : {V : Type 0} (key : ℕ) (v : V) (es : List (ℕ × V)) → value_at key es ≡ None → value_at key (placed (key, v) es) ≡ Some v
placed_here key v es none = value_at-placed key (key, v) es (others key es none) ∙ rw (eq-eqb key key refl) refl

pub placed_other : {V : Type 0} (key n : ℕ) (v : V) (es : List (ℕ × V)) → value_at key es ≡ None → key ≢ n → value_at n (placed (key, v) es) ≡ value_at n es
placed_other key n v es none ne = value_at-placed n (key, v) es (others key es none) ∙ rw (ne_eqb key n ne) refl

pub apart : {V : Type 0} (key n : ℕ) (w : V) (es : List (ℕ × V)) → value_at key es ≡ None → value_at n es ≡ Some w → key ≢ n
apart {V} key n w es none some e = let there : value_at key es ≡ Some w = subst (λ k. value_at k es ≡ Some w) (sym e) some in absurd (cc)

pub placed_kept : {V : Type 0} (key n : ℕ) (v w : V) (es : List (ℕ × V)) → value_at key es ≡ None → value_at n es ≡ Some w
    → value_at n (placed (key, v) es) ≡ Some w
placed_kept key n v w es none some = placed_other key n v es none (apart key n w es none some) ∙ some

pub by_placed : {V G : Type 0} (key n : ℕ) (v w : V) (es : List (ℕ × V)) → value_at key es ≡ None → value_at n (placed (key, v) es) ≡ Some w
    → (key ≡ n → v ≡ w → G) → (key ≢ n → value_at n es ≡ Some w → G) → G
by_placed {V} {G} key n v w es none e same other =
    (elim (eqb key n) as (λ b. eqb key n ≡ b → G) [
      | true ↦ λ i.
          let is : key ≡ n = eqb-true key n i in
          let here : value_at n (placed (key, v) es) ≡ Some v = subst (λ k. value_at k (placed (key, v) es) ≡ Some v) is (placed_here key v es none) in
          same is (cc)
      | false ↦ λ i.
          let ne : key ≢ n = eqb-false key n i in
          other ne (sym (placed_other key n v es none ne) ∙ e)
    ]) refl

pub by_removed : {V : Type 0} (key n : ℕ) (w : V) (es : List (ℕ × V)) → value_at n (without key es) ≡ Some w → (key ≢ n) × (value_at n es ≡ Some w)
by_removed {V} key n w es e =
    let ne : key ≢ n = λ is.
    let none : value_at n (without key es) ≡ None = subst (λ k. value_at n (without k es) ≡ None) (sym is) (value_at-without_same n es) in
    absurd (cc) in
    (ne, sym (value_at-without_other n key es ne) ∙ e)

pub removed_kept : {V : Type 0} (key n : ℕ) (w : V) (es : List (ℕ × V)) → key ≢ n → value_at n es ≡ Some w → value_at n (without key es) ≡ Some w
removed_kept key n w es ne e = value_at-without_other n key es ne ∙ e

pub key_has : {V : Type 0} (P : ℕ → Type 0) (key : ℕ) (w : V) (es : List (ℕ × V)) → AllKeys P es → value_at key es ≡ Some w → P key
key_has P key w [] a e = absurd (cc)
key_has P key w (x ∷ es) a e =
    (elim (eqb x.0 key) as (λ b. eqb x.0 key ≡ b → cond b (Some x.1) (value_at key es) ≡ Some w → P key) [
      | true ↦ λ i h. subst P (eqb-true x.0 key i) a.0
      | false ↦ λ i h. key_has P key w es a.1 h
    ]) refl e

-- the first key is the least
pub least_key : {V : Type 0} (k : ℕ) (v : V) (rest : List (ℕ × V)) (key : ℕ) (w : V) → AreSorted ((k, v) ∷ rest)
    → value_at key ((k, v) ∷ rest) ≡ Some w → k ≤ key
least_key {V} k v rest key w s e =
    (elim (eqb k key) as (λ b. eqb k key ≡ b → cond b (Some v) (value_at key rest) ≡ Some w → k ≤ key) [
      | true ↦ λ i h. omega (arith, eqb-true k key i)
      | false ↦ λ i h. let below = key_has (λ j. k < j) key w rest s.0 h in omega (arith, below)
    ]) refl e

pub larger : (a b : ℕ) → a < b → b ≢ a
larger a b h e = absurd (omega (arith, h, e))

-- one entry fewer, if the keys are sorted
pub length-removed : {V : Type 0} (key : ℕ) (w : V) (es : List (ℕ × V)) → AreSorted es → value_at key es ≡ Some w
    → length (without key es) + 1 ≡ length es
length-removed key w [] s e = absurd (cc)
length-removed {V} key w (x ∷ es) s e =
    (elim (eqb x.0 key) as (λ b. eqb x.0 key ≡ b → cond b (Some x.1) (value_at key es) ≡ Some w
    → length (cond b (without key es) (x ∷ without key es)) + 1 ≡ length (x ∷ es)) [
      | true ↦ λ i h.
          let after : AllKeys (λ k. key < k) es = subst (λ k. AllKeys (λ j. k < j) es) (eqb-true x.0 key i) s.0 in
          let rest : without key es ≡ es = without_none key es (AllKeys-weaker (λ k. key < k) (λ k. k ≢ key) (λ k p. larger key k p) es after) in
          omega (arith, ap (length {A = ℕ × V}) rest)
      | false ↦ λ i h. omega (arith, length-removed key w es s.1 h)
    ]) refl e

-- an entry that was placed is removed again
pub without_placed : {V : Type 0} (new : ℕ × V) (es : List (ℕ × V)) → AllKeys (λ k. k ≢ new.0) es → without new.0 (placed new es) ≡ es
without_placed new [] a = rw (eq-eqb new.0 new.0 refl) refl
without_placed new (e ∷ es) a =
    elim (ltb new.0 e.0) as (λ b. without new.0 (cond b (new ∷ e ∷ es) (e ∷ placed new es)) ≡ e ∷ es) [
      | true ↦ rw (eq-eqb new.0 new.0 refl) (without_none new.0 (e ∷ es) a)
      | false ↦ rw (ne_eqb e.0 new.0 a.0) (ap (λ rest. e ∷ rest) (without_placed new es a.1))
    ]

-- two entries are placed in either order
in_order : {V : Type 0} (a b : ℕ × V) (es : List (ℕ × V)) → a.0 < b.0 → placed a (placed b es) ≡ placed b (placed a es)
in_order a b [] h = rw (lt-ltb a.0 b.0 h) (rw (le-ltb b.0 a.0 (omega (arith, h))) refl)
in_order a b (x ∷ es) h =
    elim (cases_lt b.0 x.0) [
      | inl l ↦
          let early : a.0 < x.0 = omega (arith, h, l) in
          rw (lt-ltb b.0 x.0 l) (rw (lt-ltb a.0 x.0 early) (rw (lt-ltb a.0 b.0 h) (rw (le-ltb b.0 a.0 (omega (arith, h))) (rw (lt-ltb b.0 x.0 l) refl))))
      | inr g ↦ elim (cases_lt a.0 x.0) [
        | inl l ↦ rw (le-ltb b.0 x.0 g) (rw (lt-ltb a.0 x.0 l) (rw (le-ltb b.0 a.0 (omega (arith, h))) (rw (le-ltb b.0 x.0 g) refl)))
        | inr f ↦ rw (le-ltb b.0 x.0 g) (rw (le-ltb a.0 x.0 f) (rw (le-ltb b.0 x.0 g) (ap (λ r. x ∷ r) (in_order a b es h))))
      ]
    ]

one_below : (a b : ℕ) → a ≢ b → (a < b) ⊎ (b < a)
one_below a b ne = grind arith

pub placed_swap : {V : Type 0} (a b : ℕ × V) (es : List (ℕ × V)) → a.0 ≢ b.0 → placed a (placed b es) ≡ placed b (placed a es)
placed_swap a b es ne = elim (one_below a.0 b.0 ne) [ inl l ↦ in_order a b es l | inr g ↦ sym (in_order b a es g) ]

-- one entry is removed, and another one placed
kept_first : {V : Type 0} (e : ℕ × V) (n : ℕ) (es : List (ℕ × V)) → e.0 ≢ n → without n (e ∷ es) ≡ e ∷ without n es
kept_first e n es ne = rw (ne_eqb e.0 n ne) refl

pub without_placed_other : {V : Type 0} (e : ℕ × V) (n : ℕ) (es : List (ℕ × V)) → AreSorted es → e.0 ≢ n → without n (placed e es) ≡ placed e (without n es)
without_placed_other e n [] s ne = rw (ne_eqb e.0 n ne) refl
without_placed_other e n (x ∷ es) s ne =
    elim (cases_lt e.0 x.0) [
      | inl l ↦
          let above : AllKeys (λ k. e.0 < k) (x ∷ es) = (l, AllKeys-weaker (λ k. x.0 < k) (λ k. e.0 < k) (λ k p. omega (arith, l, p)) es s.0) in
          ap (without n) (placed_lower e [] (x ∷ es) above) ∙ kept_first e n (x ∷ es) ne
          ∙ sym (placed_lower e [] (without n (x ∷ es)) (AllKeys-without (λ k. e.0 < k) n (x ∷ es) above))
      | inr g ↦ rw (le-ltb e.0 x.0 g)
          (elim (eqb x.0 n) as (λ b. cond b (without n (placed e es)) (x ∷ without n (placed e es)) ≡ placed e (cond b (without n es) (x ∷ without n es))) [
            | true ↦ without_placed_other e n es s.1 ne
            | false ↦ rw (le-ltb e.0 x.0 g) (ap (λ r. x ∷ r) (without_placed_other e n es s.1 ne))
          ])
    ]

pub still_none : {V : Type 0} (m n : ℕ) (es : List (ℕ × V)) → value_at m es ≡ None → value_at m (without n es) ≡ None
still_none {V} m n es none =
    (elim (value_at m (without n es)) as (λ o. value_at m (without n es) ≡ o → value_at m (without n es) ≡ None) [
      | None ↦ λ is. is
      | Some w ↦ λ is. let there : value_at m es ≡ Some w = (by_removed n m w es is).1 in absurd (cc)
    ]) refl

-- a key that is not there once another one was placed
pub free_of : {V : Type 0} (m n : ℕ) (v : V) (es : List (ℕ × V)) → value_at m es ≡ None → value_at n (placed (m, v) es) ≡ None
    → (m ≢ n) × (value_at n es ≡ None)
free_of {V} m n v es none h =
    let ne : m ≢ n = λ is.
    let here : value_at n (placed (m, v) es) ≡ Some v = subst (λ k. value_at k (placed (m, v) es) ≡ Some v) is (placed_here m v es none) in
    absurd (cc) in
    (ne, sym (placed_other m n v es none ne) ∙ h)
