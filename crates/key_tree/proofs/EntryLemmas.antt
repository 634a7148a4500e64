-- Lists of entries in the order of their keys: one more entry, one less, and the value of a key, in two lists one after the other.
use Rattle.std.proofs.Common.{◌≡◌, ◌≢◌, ℕ, ◌+◌, ◌<◌, ◌≤◌, ◌⊎◌, inl, inr, Bool, true, false, cond, eqb, ltb, List, [], ◌∷◌, ◌++◌, length, Option, Some, None, refl, ap, sym, ◌∙◌, arith}
use Rattle.std.proofs.lemmas.Bool.{lt-ltb, le-ltb, eq-eqb, ne_eqb, eqb-false, eqb-true}
use Rattle.key_tree.specs.Entries.{from_key, placed, value_at, without, AllKeys, AreSorted}

pub AllKeys-weaker : {V : Type 0} (P Q : ℕ → Type 0) → ((k : ℕ) → P k → Q k) → (es : List (ℕ × V)) → AllKeys P es → AllKeys Q es
AllKeys-weaker P Q f [] a = tt
AllKeys-weaker P Q f (e ∷ es) a = (f e.0 a.0, AllKeys-weaker P Q f es a.1)

pub AllKeys-front : {V : Type 0} (P : ℕ → Type 0) (l r : List (ℕ × V)) → AllKeys P (l ++ r) → AllKeys P l
AllKeys-front P [] r a = tt
AllKeys-front P (e ∷ l) r a = (a.0, AllKeys-front P l r a.1)

pub AllKeys-back : {V : Type 0} (P : ℕ → Type 0) (l r : List (ℕ × V)) → AllKeys P (l ++ r) → AllKeys P r
AllKeys-back P [] r a = a
AllKeys-back P (e ∷ l) r a = AllKeys-back P l r a.1

pub AllKeys-placed : {V : Type 0} (P : ℕ → Type 0) (new : ℕ × V) (es : List (ℕ × V)) → P new.0 → AllKeys P es → AllKeys P (placed new es)
AllKeys-placed P new [] p a = (p, tt)
AllKeys-placed P new (e ∷ es) p a =
    elim (ltb new.0 e.0) as (λ b. AllKeys P (cond b (new ∷ e ∷ es) (e ∷ placed new es))) [ true ↦ (p, a) | false ↦ (a.0, AllKeys-placed P new es p a.1) ]

pub AllKeys-without : {V : Type 0} (P : ℕ → Type 0) (key : ℕ) (es : List (ℕ × V)) → AllKeys P es → AllKeys P (without key es)
AllKeys-without P key [] a = tt
AllKeys-without P key (e ∷ es) a =
    elim (eqb e.0 key) as (λ b. AllKeys P (cond b (without key es) (e ∷ without key es))) [
      | true ↦ AllKeys-without P key es a.1
      | false ↦ (a.0, AllKeys-without P key es a.1)
    ]

pub placed_lower : {V : Type 0} (new : ℕ × V) (l r : List (ℕ × V)) → AllKeys (λ k. new.0 < k) r → placed new (l ++ r) ≡ placed new l ++ r
placed_lower new [] [] a = refl
placed_lower new [] (e ∷ r) a = rw (lt-ltb new.0 e.0 a.0) refl
placed_lower new (e ∷ l) r a =
    elim (ltb new.0 e.0) as (λ b. cond b (new ∷ e ∷ (l ++ r)) (e ∷ placed new (l ++ r)) ≡ cond b (new ∷ e ∷ l) (e ∷ placed new l) ++ r) [
      | true ↦ refl
      | false ↦ ap (λ es. e ∷ es) (placed_lower new l r a)
    ]

pub placed_upper : {V : Type 0} (new : ℕ × V) (l r : List (ℕ × V)) → AllKeys (λ k. k < new.0) l → placed new (l ++ r) ≡ l ++ placed new r
placed_upper new [] r a = refl
placed_upper new (e ∷ l) r a =
    let h : e.0 < new.0 = a.0 in
    rw (le-ltb new.0 e.0 (omega arith)) (ap (λ es. e ∷ es) (placed_upper new l r a.1))

pub value_at_none : {V : Type 0} (key : ℕ) (es : List (ℕ × V)) → AllKeys (λ k. k ≢ key) es → value_at key es ≡ None
value_at_none key [] a = refl
value_at_none key (e ∷ es) a = rw (ne_eqb e.0 key a.0) (value_at_none key es a.1)

pub value_at_front : {V : Type 0} (key : ℕ) (l r : List (ℕ × V)) → AllKeys (λ k. k ≢ key) r → value_at key (l ++ r) ≡ value_at key l
value_at_front key [] r a = value_at_none key r a
value_at_front key (e ∷ l) r a = ap (λ o. cond (eqb e.0 key) (Some e.1) o) (value_at_front key l r a)

pub value_at_back : {V : Type 0} (key : ℕ) (l r : List (ℕ × V)) → AllKeys (λ k. k ≢ key) l → value_at key (l ++ r) ≡ value_at key r
value_at_back key [] r a = refl
value_at_back key (e ∷ l) r a = rw (ne_eqb e.0 key a.0) (value_at_back key l r a.1)

pub without_none : {V : Type 0} (key : ℕ) (es : List (ℕ × V)) → AllKeys (λ k. k ≢ key) es → without key es ≡ es
without_none key [] a = refl
without_none key (e ∷ es) a = rw (ne_eqb e.0 key a.0) (ap (λ rest. e ∷ rest) (without_none key es a.1))

pub without_append : {V : Type 0} (key : ℕ) (l r : List (ℕ × V)) → without key (l ++ r) ≡ without key l ++ without key r
without_append key [] r = refl
without_append key (e ∷ l) r =
    elim (eqb e.0 key) as (λ b. cond b (without key (l ++ r)) (e ∷ without key (l ++ r)) ≡ cond b (without key l) (e ∷ without key l) ++ without key r) [
      | true ↦ without_append key l r
      | false ↦ ap (λ es. e ∷ es) (without_append key l r)
    ]

-- what it means that a key has no value
other_cases : {V : Type 0} (b : Bool) (k key : ℕ) (v : V) (o : Option V) → eqb k key ≡ b → cond b (Some v) o ≡ None → (k ≢ key) × (o ≡ None)
other_cases true k key v o e n = absurd (cc)
other_cases false k key v o e n = (eqb-false k key e, n)

pub others : {V : Type 0} (key : ℕ) (es : List (ℕ × V)) → value_at key es ≡ None → AllKeys (λ k. k ≢ key) es
others key [] n = tt
others key (e ∷ es) n =
    let both = other_cases (eqb e.0 key) e.0 key e.1 (value_at key es) refl n in
    (both.0, others key es both.1)

-- what is known of sorted entries around one of them
pub record IsAround {V : Type 0} (l : List (ℕ × V)) (e : ℕ × V) (r : List (ℕ × V)) : Type 0 where
  pub front : AreSorted l
  pub back : AreSorted r
  pub before : AllKeys (λ k. k < e.0) l
  pub after : AllKeys (λ k. e.0 < k) r

pub around : {V : Type 0} (l : List (ℕ × V)) (e : ℕ × V) (r : List (ℕ × V)) → AreSorted (l ++ e ∷ r) → IsAround l e r
around [] e r s = record { front = tt; back = s.1; before = tt; after = s.0 }
around (f ∷ l) e r s =
    let rest = around l e r s.1 in
    record {
      front = (AllKeys-front (λ k. f.0 < k) l (e ∷ r) s.0, rest.front);
      back = rest.back;
      before = ((AllKeys-back (λ k. f.0 < k) l (e ∷ r) s.0).0, rest.before);
      after = rest.after;
    }

before_other : {V : Type 0} (key : ℕ) (l : List (ℕ × V)) (e : ℕ × V) → e.0 ≤ key → AllKeys (λ k. k < e.0) l → AllKeys (λ k. k ≢ key) l
before_other key l e h a = AllKeys-weaker (λ k. k < e.0) (λ k. k ≢ key) (λ k p. let ne : k ≢ key = omega arith in ne) l a

after_other : {V : Type 0} (key : ℕ) (e : ℕ × V) (r : List (ℕ × V)) → key ≤ e.0 → AllKeys (λ k. e.0 < k) r → AllKeys (λ k. k ≢ key) r
after_other key e r h a = AllKeys-weaker (λ k. e.0 < k) (λ k. k ≢ key) (λ k p. let ne : k ≢ key = omega arith in ne) r a

pub value_before : {V : Type 0} (key : ℕ) (l : List (ℕ × V)) (e : ℕ × V) (r : List (ℕ × V)) → AreSorted (l ++ e ∷ r) → key < e.0
    → value_at key (l ++ e ∷ r) ≡ value_at key l
value_before key l e r s h =
    let ne : e.0 ≢ key = omega arith in
    value_at_front key l (e ∷ r) (ne, after_other key e r (omega arith) (around l e r s).after)

pub value_after : {V : Type 0} (key : ℕ) (l : List (ℕ × V)) (e : ℕ × V) (r : List (ℕ × V)) → AreSorted (l ++ e ∷ r) → e.0 < key
    → value_at key (l ++ e ∷ r) ≡ value_at key r
value_after key l e r s h =
    let ne : e.0 ≢ key = omega arith in
    value_at_back key l (e ∷ r) (before_other key l e (omega arith) (around l e r s).before) ∙ rw (ne_eqb e.0 key ne) refl

pub value_here : {V : Type 0} (key : ℕ) (l : List (ℕ × V)) (e : ℕ × V) (r : List (ℕ × V)) → AreSorted (l ++ e ∷ r) → e.0 ≡ key
    → value_at key (l ++ e ∷ r) ≡ Some e.1
value_here key l e r s h = value_at_back key l (e ∷ r) (before_other key l e (omega arith) (around l e r s).before) ∙ rw (eq-eqb e.0 key h) refl

pub without_before : {V : Type 0} (key : ℕ) (l : List (ℕ × V)) (e : ℕ × V) (r : List (ℕ × V)) → AreSorted (l ++ e ∷ r) → key < e.0
    → without key (l ++ e ∷ r) ≡ without key l ++ e ∷ r
without_before key l e r s h =
    let ne : e.0 ≢ key = omega arith in
    without_append key l (e ∷ r)
    ∙ ap (λ es. without key l ++ es) (without_none key (e ∷ r) (ne, after_other key e r (omega arith) (around l e r s).after))

pub without_after : {V : Type 0} (key : ℕ) (l : List (ℕ × V)) (e : ℕ × V) (r : List (ℕ × V)) → AreSorted (l ++ e ∷ r) → e.0 < key
    → without key (l ++ e ∷ r) ≡ l ++ e ∷ without key r
without_after key l e r s h =
    let ne : e.0 ≢ key = omega arith in
    let same = without_none key l (before_other key l e (omega arith) (around l e r s).before) in
    without_append key l (e ∷ r) ∙ rw (ne_eqb e.0 key ne) (ap (λ es. es ++ e ∷ without key r) same)

pub without_here : {V : Type 0} (key : ℕ) (l : List (ℕ × V)) (e : ℕ × V) (r : List (ℕ × V)) → AreSorted (l ++ e ∷ r) → e.0 ≡ key
    → without key (l ++ e ∷ r) ≡ l ++ r
without_here key l e r s h =
    let parts = around l e r s in
    let front = without_none key l (before_other key l e (omega arith) parts.before) in
    let back = without_none key r (after_other key e r (omega arith) parts.after) in
    without_append key l (e ∷ r) ∙ rw (eq-eqb e.0 key h) (ap (λ es. es ++ without key r) front ∙ ap (λ es. l ++ es) back)

pub placed_before : {V : Type 0} (new : ℕ × V) (l : List (ℕ × V)) (e : ℕ × V) (r : List (ℕ × V)) → AreSorted (l ++ e ∷ r) → new.0 < e.0
    → placed new (l ++ e ∷ r) ≡ placed new l ++ e ∷ r
placed_before new l e r s h =
    placed_lower new l (e ∷ r) (h, AllKeys-weaker (λ k. e.0 < k) (λ k. new.0 < k) (λ k p. omega arith) r (around l e r s).after)

pub placed_after : {V : Type 0} (new : ℕ × V) (l : List (ℕ × V)) (e : ℕ × V) (r : List (ℕ × V)) → AreSorted (l ++ e ∷ r) → e.0 < new.0
    → placed new (l ++ e ∷ r) ≡ l ++ e ∷ placed new r
placed_after new l e r s h =
    placed_upper new l (e ∷ r) (AllKeys-weaker (λ k. k < e.0) (λ k. k < new.0) (λ k p. omega arith) l (around l e r s).before)
    ∙ rw (le-ltb new.0 e.0 (omega arith)) refl

-- what is needed to put a new key on one side
pub new_parts : {V : Type 0} (key : ℕ) (l : List (ℕ × V)) (e : ℕ × V) (r : List (ℕ × V)) → value_at key (l ++ e ∷ r) ≡ None
    → (value_at key l ≡ None) × (e.0 ≢ key) × (value_at key r ≡ None)
new_parts key l e r n =
    let all = others key (l ++ e ∷ r) n in
    let back = AllKeys-back (λ k. k ≢ key) l (e ∷ r) all in
    (value_at_none key l (AllKeys-front (λ k. k ≢ key) l (e ∷ r) all), back.0, value_at_none key r back.1)

sorted_cases : {V : Type 0} (new e : ℕ × V) (es : List (ℕ × V)) → e.0 ≢ new.0 → AreSorted (e ∷ es) → AreSorted (placed new es)
    → (new.0 < e.0) ⊎ (e.0 < new.0) → AreSorted (placed new (e ∷ es))
sorted_cases new e es ne s t (inl h) =
    rw (lt-ltb new.0 e.0 h) ((h, AllKeys-weaker (λ k. e.0 < k) (λ k. new.0 < k) (λ k p. omega arith) es s.0), s)
sorted_cases new e es ne s t (inr h) = rw (le-ltb new.0 e.0 (omega arith)) (AllKeys-placed (λ k. e.0 < k) new es h s.0, t)

apart : (a b : ℕ) → a ≢ b → (b < a) ⊎ (a < b)
apart a b ne = grind arith

pub sorted_placed : {V : Type 0} (new : ℕ × V) (es : List (ℕ × V)) → AreSorted es → AllKeys (λ k. k ≢ new.0) es → AreSorted (placed new es)
sorted_placed new [] s a = (tt, tt)
sorted_placed new (e ∷ es) s a = sorted_cases new e es a.0 s (sorted_placed new es s.1 a.1) (apart e.0 new.0 a.0)

pub sorted_without : {V : Type 0} (key : ℕ) (es : List (ℕ × V)) → AreSorted es → AreSorted (without key es)
sorted_without key [] s = tt
sorted_without key (e ∷ es) s =
    elim (eqb e.0 key) as (λ b. AreSorted (cond b (without key es) (e ∷ without key es))) [
      | true ↦ sorted_without key es s.1
      | false ↦ (AllKeys-without (λ k. e.0 < k) key es s.0, sorted_without key es s.1)
    ]

pub length-placed : {V : Type 0} (new : ℕ × V) (es : List (ℕ × V)) → length (placed new es) ≡ length es + 1
length-placed new [] = refl
length-placed new (e ∷ es) =
    elim (ltb new.0 e.0) as (λ b. length (cond b (new ∷ e ∷ es) (e ∷ placed new es)) ≡ length (e ∷ es) + 1) [
      | true ↦ omega arith
      | false ↦ omega (arith, length-placed new es)
    ]

pub length-without : {V : Type 0} (key : ℕ) (es : List (ℕ × V)) → length (without key es) ≤ length es
length-without key [] = omega arith
length-without key (e ∷ es) =
    elim (eqb e.0 key) as (λ b. length (cond b (without key es) (e ∷ without key es)) ≤ length (e ∷ es)) [
      | true ↦ omega (arith, length-without key es)
      | false ↦ omega (arith, length-without key es)
    ]

pub from_before : {V : Type 0} (key : ℕ) (l : List (ℕ × V)) (e : ℕ × V) (r : List (ℕ × V)) → key ≤ e.0
    → from_key key (l ++ e ∷ r) ≡ from_key key l ++ e ∷ r
from_before key [] e r h = rw (le-ltb e.0 key h) refl
from_before key (f ∷ l) e r h =
    elim (ltb f.0 key) as (λ b. cond b (from_key key (l ++ e ∷ r)) (f ∷ (l ++ e ∷ r)) ≡ cond b (from_key key l) (f ∷ l) ++ e ∷ r) [
      | true ↦ from_before key l e r h
      | false ↦ refl
    ]

from_smaller : {V : Type 0} (key : ℕ) (l r : List (ℕ × V)) → AllKeys (λ k. k < key) l → from_key key (l ++ r) ≡ from_key key r
from_smaller key [] r a = refl
from_smaller key (f ∷ l) r a = rw (lt-ltb f.0 key a.0) (from_smaller key l r a.1)

pub from_after : {V : Type 0} (key : ℕ) (l : List (ℕ × V)) (e : ℕ × V) (r : List (ℕ × V)) → AreSorted (l ++ e ∷ r) → e.0 < key
    → from_key key (l ++ e ∷ r) ≡ from_key key r
from_after key l e r s h =
    from_smaller key l (e ∷ r) (AllKeys-weaker (λ k. k < e.0) (λ k. k < key) (λ k p. omega arith) l (around l e r s).before)
    ∙ rw (lt-ltb e.0 key h) refl

-- for crates above: the value of a key once an entry was put or removed
placed_cases : {V : Type 0} (b : Bool) (key : ℕ) (new e : ℕ × V) (rest put : Option V) → eqb e.0 key ≡ b → e.0 ≢ new.0
    → put ≡ cond (eqb new.0 key) (Some new.1) rest → cond b (Some e.1) put ≡ cond (eqb new.0 key) (Some new.1) (cond b (Some e.1) rest)
placed_cases true key new e rest put is ne h =
    let same : e.0 ≡ key = eqb-true e.0 key is in
    let apart : new.0 ≢ key = λ x. ne (same ∙ sym x) in
    rw (ne_eqb new.0 key apart) refl
placed_cases false key new e rest put is ne h = h

pub value_at-placed : {V : Type 0} (key : ℕ) (new : ℕ × V) (es : List (ℕ × V)) → AllKeys (λ k. k ≢ new.0) es
    → value_at key (placed new es) ≡ cond (eqb new.0 key) (Some new.1) (value_at key es)
value_at-placed key new [] a = refl
value_at-placed key new (e ∷ es) a =
    elim (ltb new.0 e.0) as (λ b. value_at key (cond b (new ∷ e ∷ es) (e ∷ placed new es)) ≡ cond (eqb new.0 key) (Some new.1) (value_at key (e ∷ es))) [
      | true ↦ refl
      | false ↦ placed_cases (eqb e.0 key) key new e (value_at key es) (value_at key (placed new es)) refl a.0 (value_at-placed key new es a.1)
    ]

without_cases : {V : Type 0} (b : Bool) (key other : ℕ) (e : ℕ × V) (es left : List (ℕ × V)) → eqb e.0 other ≡ b → other ≢ key
    → value_at key left ≡ value_at key es → value_at key (cond b left (e ∷ left)) ≡ value_at key (e ∷ es)
without_cases true key other e es left is ne h =
    let same : e.0 ≡ other = eqb-true e.0 other is in
    let apart : e.0 ≢ key = λ x. ne (sym same ∙ x) in
    rw (ne_eqb e.0 key apart) h
without_cases false key other e es left is ne h = ap (λ o. cond (eqb e.0 key) (Some e.1) o) h

pub value_at-without_other : {V : Type 0} (key other : ℕ) (es : List (ℕ × V)) → other ≢ key → value_at key (without other es) ≡ value_at key es
value_at-without_other key other [] ne = refl
value_at-without_other key other (e ∷ es) ne =
    without_cases (eqb e.0 other) key other e es (without other es) refl ne (value_at-without_other key other es ne)

same_cases : {V : Type 0} (b : Bool) (key : ℕ) (e : ℕ × V) (left : List (ℕ × V)) → eqb e.0 key ≡ b → value_at key left ≡ None
    → value_at key (cond b left (e ∷ left)) ≡ None
same_cases true key e left is h = h
same_cases false key e left is h = rw is h

pub value_at-without_same : {V : Type 0} (key : ℕ) (es : List (ℕ × V)) → value_at key (without key es) ≡ None
value_at-without_same key [] = refl
value_at-without_same key (e ∷ es) = same_cases (eqb e.0 key) key e (without key es) refl (value_at-without_same key es)
