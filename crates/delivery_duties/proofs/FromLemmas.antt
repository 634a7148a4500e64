-- The entries from a key on: `from_none` if there are none, `from_some` of the first one.
use Rattle.std.proofs.Common.{◌≡◌, ◌≢◌, ℕ, ◌+◌, ◌<◌, ◌≤◌, true, false, cond, eqb, ltb, List, [], ◌∷◌, length, Some, refl, sym, ap, ◌∙◌, subst, arith, inl, inr}
use Rattle.std.proofs.lemmas.Bool.{ne_eqb, eqb-true, lt-ltb, le-ltb, ltb-true, ltb-false, cases_lt}
use Rattle.key_tree.specs.Entries.{from_key, value_at, AllKeys, AreSorted}
use Rattle.delivery_duties.proofs.EntryLemmas.{found_here, least_key}

pub from_none : {V : Type 0} (from n : ℕ) (w : V) (es : List (ℕ × V)) → from_key from es ≡ [] → value_at n es ≡ Some w → n < from
from_none from n w [] e there = absurd (cc)
from_none {V} from n w (x ∷ es) e there =
    (elim (ltb x.0 from) as (λ b. ltb x.0 from ≡ b → cond b (from_key from es) (x ∷ es) ≡ [] → n < from) [
      | true ↦ λ i h.
          (elim (eqb x.0 n) as (λ b. eqb x.0 n ≡ b → cond b (Some x.1) (value_at n es) ≡ Some w → n < from) [
            | true ↦ λ j k. let below = ltb-true x.0 from i in subst (λ m. m < from) (eqb-true x.0 n j) below
            | false ↦ λ j k. from_none from n w es h k
          ]) refl there
      | false ↦ λ i h. absurd (cc)
    ]) refl e

-- what the first entry from a key on says of the others
pub record IsFirstFrom {V : Type 0} (from key : ℕ) (v : V) (rest es : List (ℕ × V)) : Type 0 where
  pub there : value_at key es ≡ Some v
  pub reached : from ≤ key
  pub after : from_key (key + 1) es ≡ rest
  pub first : (n : ℕ) (w : V) → value_at n es ≡ Some w → from ≤ n → key ≤ n

all_after : {V : Type 0} (key : ℕ) (es : List (ℕ × V)) → AllKeys (λ k. key < k) es → from_key (key + 1) es ≡ es
all_after key [] a = refl
all_after key (x ∷ es) a = let above = a.0 in rw (le-ltb x.0 (key + 1) (omega (arith, above))) refl

pub from_some : {V : Type 0} (from key : ℕ) (v : V) (rest es : List (ℕ × V)) → AreSorted es → from_key from es ≡ (key, v) ∷ rest
    → IsFirstFrom from key v rest es
from_some from key v rest [] s e = absurd (cc)
from_some {V} from key v rest (x ∷ es) s e =
    (elim (ltb x.0 from) as (λ b. ltb x.0 from ≡ b → cond b (from_key from es) (x ∷ es) ≡ (key, v) ∷ rest → IsFirstFrom from key v rest (x ∷ es)) [
      | true ↦ λ i h.
          let below : x.0 < from = ltb-true x.0 from i in
          let k = from_some from key v rest es s.1 h in
          let under : x.0 < key + 1 = omega (arith, below, k.reached) in
          let apart : x.0 ≢ key = λ same. absurd (omega (arith, below, k.reached, same)) in
          record {
            there = rw (ne_eqb x.0 key apart) k.there;
            reached = k.reached;
            after = rw (lt-ltb x.0 (key + 1) under) k.after;
            first = λ n w there at.
                let other : x.0 ≢ n = λ same. absurd (omega (arith, below, at, same)) in
                let there_too : cond (eqb x.0 n) (Some x.1) (value_at n es) ≡ Some w = there in
                k.first n w (subst (λ b. cond b (Some x.1) (value_at n es) ≡ Some w) (ne_eqb x.0 n other) there_too) at;
          }
      | false ↦ λ i h.
          let same : x ≡ (key, v) = cc in
          let tails : es ≡ rest = cc in
          let F : ℕ × V → Type 0 = λ y. AreSorted (y ∷ es) → IsFirstFrom from key v rest (y ∷ es) in
          let at : from ≤ key = subst (λ (y : ℕ × V). from ≤ y.0) same (ltb-false x.0 from i) in
          let own : F (key, v) = λ t. record {
            there = found_here key v es;
            reached = at;
            after = (let under : key < key + 1 = omega arith in rw (lt-ltb key (key + 1) under) (all_after key es t.0)) ∙ tails;
            first = λ n w there reached. least_key key v es n w t there;
          } in
          subst F (sym same) own s
    ]) refl e

-- one entry fewer is left
pub from_shorter : {V : Type 0} (from key : ℕ) (v : V) (rest es : List (ℕ × V)) → AreSorted es → from_key from es ≡ (key, v) ∷ rest
    → length (from_key (key + 1) es) < length (from_key from es)
from_shorter {V} from key v rest es s e =
    let k = from_some from key v rest es s e in
    omega (arith, ap (length {A = ℕ × V}) k.after, ap (length {A = ℕ × V}) e)

-- what is true of no entry before a key, nor of the entry of the next one, is true of none up to that
pub none_up_to : {V : Type 0} (P : V → Type 0) {from key : ℕ} {v : V} {rest es : List (ℕ × V)} → IsFirstFrom from key v rest es
    → ((n : ℕ) (w : V) → n < from → value_at n es ≡ Some w → P w → ⊥) → (P v → ⊥) → (n : ℕ) (w : V) → n < key + 1 → value_at n es ≡ Some w → P w → ⊥
none_up_to {V} P {from} {key} {v} {rest} {es} first before not n w below there p =
    elim (cases_lt n from) [
      | inl early ↦ before n w early there p
      | inr late ↦
          let at : key ≤ n = first.first n w there late in
          let same : n ≡ key = omega (arith, at, below) in
          let here : value_at n es ≡ Some v = subst (λ k. value_at k es ≡ Some v) (sym same) first.there in
          let equal : w ≡ v = cc in
          not (subst P equal p)
    ]
