-- A text is refused as a pattern for one reason, at one place: `one_pattern_refusal`. A text has one place at which it is no JSON: `one_place`.
use Rattle.std.proofs.Common.{◌≡◌, ℕ, ◌<◌, ◌≤◌, ◌⊎◌, inl, inr, true, List, [], ◌∷◌, length, Some, None, sym, ◌∙◌, refl, arith}
use Rattle.std.proofs.lemmas.Bool.{cases_order}
use Rattle.json_text.specs.Node.{Node, value_of, first_repeat}
use Rattle.json_text.specs.Grammar.{IsText}
use Rattle.json_text.specs.Faults.{FailsAt, OpensTooMany}
use Rattle.json_text.proofs.OneValue.{one_value}
use Rattle.pattern_meaning.specs.Pattern.{Pattern}
use Rattle.pattern_read.specs.Value.{IsPatternOf}
use Rattle.pattern_read.specs.Check.{Checks, IsFirst, pattern_checks}
use Rattle.pattern_read.specs.Refusal.{IsRefused, too_long, not_json, too_deep, key_twice, at_place, too_many}
use Rattle.pattern_read.specs.declared.fault.Why.{Why}
use Rattle.pattern_read.specs.declared.fault.Why.TheVariants.{TooLong, NotJson, TooDeep, KeyTwice, TooMany}
use Rattle.pattern_read.proofs.CheckLemmas.{none_first}
use Rattle.pattern_read.proofs.PassLemmas.{pattern_passes}

abbrev Keys : Type 0
Keys = List (List ℕ)

-- a text that is no JSON
abbrev Unread : List ℕ → ℕ → Why → Type 0
Unread text at why = FailsAt 100 text at × (((¬ OpensTooMany 100 text at) × (why ≡ NotJson)) ⊎ (OpensTooMany 100 text at × (why ≡ TooDeep)))

-- a value without a repeated key
abbrev Checked : Node → Why → Keys → Type 0
Checked node why keys = IsFirst (pattern_checks true (value_of node)) keys why
    ⊎ (((p : Pattern) × IsPatternOf true (value_of node) p) × (why ≡ TooMany) × (keys ≡ []))

abbrev Valued : Node → Why → Keys → Type 0
Valued node why keys = (((at : ℕ) × (first_repeat node ≡ Some at)) × (why ≡ KeyTwice) × (keys ≡ []))
    ⊎ ((first_repeat node ≡ None) × Checked node why keys)

-- the three kinds of refusals: of the length, of the JSON text, of its value
abbrev Sorted : List ℕ → Why → Keys → Type 0
Sorted text why keys = ((4096 < length text) × (why ≡ TooLong) × (keys ≡ []))
    ⊎ ((length text ≤ 4096) × (((at : ℕ) × Unread text at why × (keys ≡ [])) ⊎ ((node : Node) × IsText 100 text node × Valued node why keys)))

sorted : (text : List ℕ) (why : Why) (keys : Keys) → IsRefused text why keys → Sorted text why keys
sorted text why keys (too_long long) = inl (long, refl, refl)
sorted text why keys (not_json at short fails shallow) = inr (short, inl (at, (fails, inl (shallow, refl)), refl))
sorted text why keys (too_deep at short fails deep) = inr (short, inl (at, (fails, inr (deep, refl)), refl))
sorted text why keys (key_twice node at short spelled twice) = inr (short, inr (node, spelled, inl ((at, twice), refl, refl)))
sorted text why keys (at_place node w ks short spelled once first) = inr (short, inr (node, spelled, inr (once, inl first)))
sorted text why keys (too_many node p short spelled once is many) = inr (short, inr (node, spelled, inr (once, inr ((p, is), refl, refl))))

abbrev Same : Why → Why → Keys → Keys → Type 0
Same v w ks ls = (v ≡ w) × (ks ≡ ls)

pub one_place : (text : List ℕ) (a b : ℕ) → FailsAt 100 text a → FailsAt 100 text b → a ≡ b
one_place text a b f g = elim (cases_order a b) [
  | inl e ↦ e
  | inr h ↦ elim h [
    | inl below ↦ absurd (f.longest b below g.within g.front)
    | inr above ↦ absurd (g.longest a above f.within f.front)
  ]
]

one_first : (checks : Checks) (v w : Why) (ks ls : Keys) → IsFirst checks ks v → IsFirst checks ls w → Same v w ks ls
one_first [] v w ks ls p q = absurd p
one_first (c ∷ checks) v w ks ls (inl p) (inl q) = (p.2 ∙ sym q.2, p.1 ∙ sym q.1)
one_first (c ∷ checks) v w ks ls (inl p) (inr q) = absurd (p.0 q.0)
one_first (c ∷ checks) v w ks ls (inr p) (inl q) = absurd (q.0 p.0)
one_first (c ∷ checks) v w ks ls (inr p) (inr q) = one_first checks v w ks ls p.1 q.1

one_checked : (node : Node) (v w : Why) (ks ls : Keys) → Checked node v ks → Checked node w ls → Same v w ks ls
one_checked node v w ks ls (inl p) (inl q) = one_first (pattern_checks true (value_of node)) v w ks ls p q
one_checked node v w ks ls (inl p) (inr q) = absurd (none_first (pattern_checks true (value_of node)) ks v (pattern_passes true (value_of node) q.0.0 q.0.1) p)
one_checked node v w ks ls (inr p) (inl q) = absurd (none_first (pattern_checks true (value_of node)) ls w (pattern_passes true (value_of node) p.0.0 p.0.1) q)
one_checked node v w ks ls (inr p) (inr q) = (p.1 ∙ sym q.1, p.2 ∙ sym q.2)

one_valued : (node : Node) (v w : Why) (ks ls : Keys) → Valued node v ks → Valued node w ls → Same v w ks ls
one_valued node v w ks ls (inl p) (inl q) = (p.1 ∙ sym q.1, p.2 ∙ sym q.2)
one_valued node v w ks ls (inl p) (inr q) =
    let both : Some p.0.0 ≡ None = sym p.0.1 ∙ q.0 in
    cc
one_valued node v w ks ls (inr p) (inl q) =
    let both : Some q.0.0 ≡ None = sym q.0.1 ∙ p.0 in
    cc
one_valued node v w ks ls (inr p) (inr q) = one_checked node v w ks ls p.1 q.1

one_unread : (text : List ℕ) (at : ℕ) (v w : Why) → Unread text at v → Unread text at w → v ≡ w
one_unread text at v w (f, inl p) (g, inl q) = p.1 ∙ sym q.1
one_unread text at v w (f, inl p) (g, inr q) = absurd (p.0 q.0)
one_unread text at v w (f, inr p) (g, inl q) = absurd (q.0 p.0)
one_unread text at v w (f, inr p) (g, inr q) = p.1 ∙ sym q.1

one_sorted : (text : List ℕ) (v w : Why) (ks ls : Keys) → Sorted text v ks → Sorted text w ls → Same v w ks ls
one_sorted text v w ks ls (inl p) (inl q) = (p.1 ∙ sym q.1, p.2 ∙ sym q.2)
one_sorted text v w ks ls (inl p) (inr q) = absurd (omega (arith, p.0, q.0))
one_sorted text v w ks ls (inr p) (inl q) = absurd (omega (arith, p.0, q.0))
one_sorted text v w ks ls (inr (short, inl p)) (inr (less, inl q)) =
    let place = one_place text p.0 q.0 p.1.0 q.1.0 in
    let there : Unread text p.0 w = rw place q.1 in
    (one_unread text p.0 v w p.1 there, p.2 ∙ sym q.2)
one_sorted text v w ks ls (inr (short, inl p)) (inr (less, inr q)) = absurd (p.1.0.none q.0 q.1)
one_sorted text v w ks ls (inr (short, inr p)) (inr (less, inl q)) = absurd (q.1.0.none p.0 p.1)
one_sorted text v w ks ls (inr (short, inr p)) (inr (less, inr q)) =
    let node = one_value 100 100 text p.0 q.0 p.1 q.1 in
    let there : Valued p.0 w ls = rw node q.2 in
    one_valued p.0 v w ks ls p.2 there

pub one_pattern_refusal : (text : List ℕ) (v w : Why) (ks ls : Keys) → IsRefused text v ks → IsRefused text w ls → Same v w ks ls
one_pattern_refusal text v w ks ls p q = one_sorted text v w ks ls (sorted text v ks p) (sorted text w ls q)
