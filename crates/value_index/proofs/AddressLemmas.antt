-- The rows that an address finds: `listed_below`, `bits_more`, `by_bits`.
use Rattle.std.proofs.Common.{◌≡◌, ◌≢◌, ℕ, ◌+◌, ◌<◌, ◌⊎◌, Bool, true, false, List, length, get_or, inl, inr, refl, sym, ap, ◌∙◌, subst, arith}
use Rattle.std.proofs.lemmas.Bool.{cases_lt, false≢true}
use Rattle.std.proofs.lemmas.List.{get_or_past}
use Rattle.leaf_match.specs.Cidr.{IsAddressText, leading_bits}
use Rattle.leaf_match.specs.declared.address.Family.{Family}
use Rattle.leaf_match.specs.declared.address.Family.TheVariants.{V4, V6}
use Rattle.leaf_match.proofs.CidrLemmas.{Holds-same_family, not_Holds-other_family}
use Rattle.value_index.specs.declared.lengths.Lengths.{Lengths}
use Rattle.value_index.specs.declared.row.Row.{Row}
use Rattle.value_index.specs.Adds.{HasBitsBelow, HasNetwork}
use Rattle.value_index.specs.Lengths.{Has, lengths_for}
use Rattle.value_index.specs.Signature.{network}

families : (f g : Family) → (f ≡ g) ⊎ (f ≢ g)
families V4 V4 = inl refl
families V6 V6 = inl refl
families V4 V6 = inr (λ e. cc)
families V6 V4 = inr (λ e. cc)

pub listed_below : (list : List Bool) (n : ℕ) → Has list n → n < length list
listed_below list n h = elim (cases_lt n (length list)) [
  | inl below ↦ below
  | inr past ↦ absurd (false≢true (sym (get_or_past list n false past) ∙ h))
]

-- one more number of bits
pub bits_more : (listed : List Bool) (f : Family) (bits i : ℕ) (b : Bool) → b ≡ get_or listed i false → (row : Row) → HasBitsBelow (i + 1) listed f bits row
    → HasBitsBelow i listed f bits row ⊎ ((b ≡ true) × (row.signature ≡ network f i (leading_bits f i bits)))
bits_more listed f bits i b is row h = elim (cases_lt h.0 i) [
  | inl below ↦ inl (h.0, below, h.2, h.3)
  | inr last ↦
      let same : h.0 ≡ i = omega (arith, h.1, last) in
      inr (is ∙ ap (λ n. get_or listed n false) (sym same) ∙ h.2, h.3 ∙ ap (λ n. network f n (leading_bits f n bits)) same)
]

-- a prefix that holds the text has the first bits of its address
pub by_bits : (lengths : Lengths) (t : List ℕ) (f : Family) (bits : ℕ) (list : List Bool) → IsAddressText f t bits → list ≡ lengths_for f lengths
    → (row : Row) → HasNetwork lengths t row → HasBitsBelow (length list) list f bits row
by_bits lengths t f bits list is same_list row h =
    let p = h.0 in
    elim (families f p.family) [
      | inl same ↦
          let has : Has list p.length = subst (λ l. Has l p.length) (sym (same_list ∙ ap (λ g. lengths_for g lengths) same)) h.2 in
          let first : leading_bits f p.length bits ≡ p.first_bits = (Holds-same_family p t f bits is same).1 h.1 in (
            p.length,
            listed_below list p.length has,
            has,
            h.3 ∙ ap (λ g. network g p.length p.first_bits) (sym same) ∙ ap (network f p.length) (sym first),
          )
      | inr other ↦ absurd (not_Holds-other_family p t f bits is other h.1)
    ]
