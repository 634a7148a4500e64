-- A text has at most one fault as a policy, and a policy has none. Other files cite `never_faulty`, `one_fault`.
use Rattle.std.proofs.Common.{◌≡◌, ℕ, ◌<◌, ◌≤◌, ◌⊎◌, inl, inr, List, length, Option, Some, None, sym, ap, ◌∙◌, refl, arith}
use Rattle.json_text.specs.Tree.{Tree}
use Rattle.json_text.specs.Node.{Node, value_of, first_repeat}
use Rattle.json_text.specs.Grammar.{IsText}
use Rattle.json_text.specs.Faults.{FailsAt, OpensTooMany}
use Rattle.json_text.proofs.OneValue.{one_value}
use Rattle.bus_policy.specs.Grammar.{fault_of}
use Rattle.bus_policy.specs.Text.{IsPolicyText, IsSpellingFault, IsTextFault}
use Rattle.bus_policy.specs.declared.fault.PolicyCause.{PolicyCause}
use Rattle.bus_policy.specs.declared.fault.PolicyCause.TheVariants.{TooLong, NotJson, TooDeep, KeyTwice}
use Rattle.api_members.proofs.PatternLemmas.{one_place}

-- a text that is no JSON
abbrev Unread : List ℕ → ℕ → PolicyCause → Type 0
Unread text at why = FailsAt 100 text at × (((¬ OpensTooMany 100 text at) × (why ≡ NotJson)) ⊎ (OpensTooMany 100 text at × (why ≡ TooDeep)))

-- a value with a repeated key, or with a fault of its own
abbrev Valued : Node → PolicyCause → ℕ → Type 0
Valued node why place = (((at : ℕ) × (first_repeat node ≡ Some at)) × (why ≡ KeyTwice) × (place ≡ 0))
    ⊎ ((first_repeat node ≡ None) × (fault_of (value_of node) ≡ Some (why, place)))

-- the three kinds of faults: of the length, of the JSON text, of its value
abbrev Sorted : List ℕ → PolicyCause → ℕ → Type 0
Sorted text why place = ((10240 < length text) × (why ≡ TooLong) × (place ≡ 0))
    ⊎ ((length text ≤ 10240) × (((at : ℕ) × Unread text at why × (place ≡ 0)) ⊎ ((node : Node) × IsText 100 text node × Valued node why place)))

sorted_spelling : (text : List ℕ) (why : PolicyCause) (place : ℕ) → IsSpellingFault text why → place ≡ 0 → Sorted text why place
sorted_spelling text TooLong place f zero = inl (f, refl, zero)
sorted_spelling text NotJson place f zero = inr (f.0, inl (f.1.0, (f.1.1, inl (f.1.2, refl)), zero))
sorted_spelling text TooDeep place f zero = inr (f.0, inl (f.1.0, (f.1.1, inr (f.1.2, refl)), zero))
sorted_spelling text KeyTwice place f zero = inr (f.0, inr (f.1.0, f.1.2, inl ((f.1.1, f.1.3), refl, zero)))
sorted_spelling text _ place f zero = absurd f

sorted : (text : List ℕ) (why : PolicyCause) (place : ℕ) → IsTextFault text why place → Sorted text why place
sorted text why place (inl f) = sorted_spelling text why place f.0 f.1
sorted text why place (inr f) =
    let spells = f.1.1 in
    inr (f.0, inr (spells.node, spells.spelled, inr (spells.once, ap fault_of spells.stands_for ∙ f.1.2)))

abbrev Same : PolicyCause → PolicyCause → ℕ → ℕ → Type 0
Same v w a b = (v ≡ w) × (a ≡ b)

one_unread : (text : List ℕ) (at : ℕ) (v w : PolicyCause) → Unread text at v → Unread text at w → v ≡ w
one_unread text at v w (f, inl p) (g, inl q) = p.1 ∙ sym q.1
one_unread text at v w (f, inl p) (g, inr q) = absurd (p.0 q.0)
one_unread text at v w (f, inr p) (g, inl q) = absurd (q.0 p.0)
one_unread text at v w (f, inr p) (g, inr q) = p.1 ∙ sym q.1

once_or_twice : (node : Node) (at : ℕ) → first_repeat node ≡ Some at → first_repeat node ≡ None → ⊥
once_or_twice node at twice once =
    let both : Some at ≡ None = sym twice ∙ once in
    cc

one_some : (o : Option (PolicyCause × ℕ)) (x y : PolicyCause × ℕ) → o ≡ Some x → o ≡ Some y → x ≡ y
one_some o x y p q = cc

one_of_value : (value : Tree) (v w : PolicyCause) (a b : ℕ) → fault_of value ≡ Some (v, a) → fault_of value ≡ Some (w, b) → Same v w a b
one_of_value value v w a b p q =
    let pair : ◌≡◌ {A = PolicyCause × ℕ} (v, a) (w, b) = one_some (fault_of value) (v, a) (w, b) p q in
    (ap (λ x. x.0) pair, ap (λ x. x.1) pair)

one_valued : (node : Node) (v w : PolicyCause) (a b : ℕ) → Valued node v a → Valued node w b → Same v w a b
one_valued node v w a b (inl p) (inl q) = (p.1 ∙ sym q.1, p.2 ∙ sym q.2)
one_valued node v w a b (inl p) (inr q) = absurd (once_or_twice node p.0.0 p.0.1 q.0)
one_valued node v w a b (inr p) (inl q) = absurd (once_or_twice node q.0.0 q.0.1 p.0)
one_valued node v w a b (inr p) (inr q) = one_of_value (value_of node) v w a b p.1 q.1

one_sorted : (text : List ℕ) (v w : PolicyCause) (a b : ℕ) → Sorted text v a → Sorted text w b → Same v w a b
one_sorted text v w a b (inl p) (inl q) = (p.1 ∙ sym q.1, p.2 ∙ sym q.2)
one_sorted text v w a b (inl p) (inr q) = absurd (omega (arith, p.0, q.0))
one_sorted text v w a b (inr p) (inl q) = absurd (omega (arith, p.0, q.0))
one_sorted text v w a b (inr (short, inl p)) (inr (less, inl q)) =
    let place = one_place text p.0 q.0 p.1.0 q.1.0 in
    let there : Unread text p.0 w = rw place q.1 in
    (one_unread text p.0 v w p.1 there, p.2 ∙ sym q.2)
one_sorted text v w a b (inr (short, inl p)) (inr (less, inr q)) = absurd (p.1.0.none q.0 q.1)
one_sorted text v w a b (inr (short, inr p)) (inr (less, inl q)) = absurd (q.1.0.none p.0 p.1)
one_sorted text v w a b (inr (short, inr p)) (inr (less, inr q)) =
    let node = one_value 100 100 text p.0 q.0 p.1 q.1 in
    let there : Valued p.0 w b = rw node q.2 in
    one_valued p.0 v w a b p.2 there

pub one_fault : (text : List ℕ) (v w : PolicyCause) (a b : ℕ) → IsTextFault text v a → IsTextFault text w b → Same v w a b
one_fault text v w a b p q = one_sorted text v w a b (sorted text v a p) (sorted text w b q)

none_some : (o : Option (PolicyCause × ℕ)) (x : PolicyCause × ℕ) → o ≡ Some x → o ≡ None → ⊥
none_some o x p q = cc

never_valued : (node : Node) (why : PolicyCause) (place : ℕ) → first_repeat node ≡ None → fault_of (value_of node) ≡ None → Valued node why place → ⊥
never_valued node why place once faultless (inl f) = once_or_twice node f.0.0 f.0.1 once
never_valued node why place once faultless (inr f) =
    none_some (fault_of (value_of node)) (why, place) f.1 faultless

never_sorted : (text : List ℕ) (policy : Tree) (why : PolicyCause) (place : ℕ) → IsPolicyText text policy → Sorted text why place → ⊥
never_sorted text policy why place p (inl f) = omega (arith, p.spelled.short, f.0)
never_sorted text policy why place p (inr (short, inl f)) = f.1.0.none p.spelled.spelled.node p.spelled.spelled.spelled
never_sorted text policy why place p (inr (short, inr f)) =
    let spells = p.spelled.spelled in
    let node = one_value 100 100 text spells.node f.0 spells.spelled f.1 in
    let there : Valued spells.node why place = rw node f.2 in
    never_valued spells.node why place spells.once (ap fault_of spells.stands_for ∙ p.spelled.is_policy) there

-- a policy has no fault
pub never_faulty : (text : List ℕ) (policy : Tree) (why : PolicyCause) (place : ℕ) → IsPolicyText text policy → IsTextFault text why place → ⊥
never_faulty text policy why place p f = never_sorted text policy why place p (sorted text why place f)
