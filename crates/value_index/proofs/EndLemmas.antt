-- One length after another: `signature_more`, `end_more`, `end_all`.
use Rattle.std.proofs.Common.{◌≡◌, ℕ, ◌+◌, ◌<◌, ◌≤◌, ◌⊎◌, Bool, false, true, List, [], ◌∷◌, ◌++◌, length, take, get_or, inl, inr, refl, sym, ap, ◌∙◌, arith}
use Rattle.std.specs.List.{fold}
use Rattle.std.proofs.lemmas.Bool.{cases_lt}
use Rattle.std.proofs.lemmas.List.{take_more, length-reverse}
use Rattle.value_index.specs.declared.row.Row.{Row}
use Rattle.value_index.specs.declared.signature.Side.{Side}
use Rattle.value_index.specs.declared.signature.Side.TheVariants.{Front, Back}
use Rattle.value_index.specs.Adds.{HasEnd, HasEndBelow}
use Rattle.value_index.specs.Signature.{signature, with_byte, read_from, seed_of}
use Rattle.value_index.proofs.AddressLemmas.{listed_below}

fold_last : (f : ℕ → ℕ → ℕ) (a : ℕ) (xs : List ℕ) (x : ℕ) → fold f a (xs ++ x ∷ []) ≡ f (fold f a xs) x
fold_last f a [] x = refl
fold_last f a (y ∷ xs) x = fold_last f (f a y) xs x

long : (side : Side) (t : List ℕ) → length (read_from side t) ≡ length t
long Front t = refl
long Back t = length-reverse t

-- the signature with one more byte
pub signature_more : (side : Side) (t : List ℕ) (i s : ℕ) → i < length t → s ≡ signature (seed_of side) (take i (read_from side t))
    → with_byte s (get_or (read_from side t) i 0) ≡ signature (seed_of side) (take (i + 1) (read_from side t))
signature_more side t i s within is =
    let bytes = read_from side t in
    let inside : i < length bytes = omega (arith, long side t, within) in
    ap (λ n. with_byte n (get_or bytes i 0)) is ∙ sym (fold_last with_byte (seed_of side) (take i bytes) (get_or bytes i 0))
    ∙ ap (signature (seed_of side)) (sym (take_more bytes i 0 inside))

module _ (list : List Bool) (side : Side) (t : List ℕ) (row : Row) where
  pub end_more : (i s : ℕ) (listed : Bool) → listed ≡ get_or list i false → s ≡ signature (seed_of side) (take i (read_from side t))
      → HasEndBelow (i + 1) list side t row → HasEndBelow i list side t row ⊎ ((listed ≡ true) × (row.signature ≡ s))
  end_more i s listed is signed h = elim (cases_lt h.0 i) [
    | inl below ↦ inl (h.0, below, h.2, h.3)
    | inr last ↦
        let same : h.0 ≡ i = omega (arith, h.1, last) in
        inr (
          is ∙ ap (λ n. get_or list n false) (sym same) ∙ h.2,
          h.3 ∙ ap (λ n. signature (seed_of side) (take n (read_from side t))) same ∙ sym signed,
        )
  ]

  -- the text or the list has come to its end
  pub end_all : (i : ℕ) → (length t < i) ⊎ (length list ≤ i) → HasEnd list side t row → HasEndBelow i list side t row
  end_all i over h = (h.0, elim over [ inl text_over ↦ omega (arith, text_over, h.1) | inr list_over ↦ omega (arith, list_over, listed_below list h.0 h.2) ], h.2, h.3)
