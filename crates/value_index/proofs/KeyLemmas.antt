-- A test that a leaf meets is found by its key: `reached`.
use Rattle.std.proofs.Common.{◌≡◌, ◌≢◌, ℕ, ◌+◌, ◌≤◌, ◌⊎◌, Bool, List, [], ◌∷◌, ◌++◌, length, reverse, take, inl, inr, refl, sym, ap, ◌∙◌, subst, arith}
use Rattle.std.specs.List.{fold}
use Rattle.std.specs.Char.{to_ascii_lowercase}
use Rattle.std.specs.Str.{str_to_ascii_lowercase}
use Rattle.std.proofs.lemmas.List.{map-append, reverse-append, length-map, length-append, length-reverse, take-map, take_at}
use Rattle.std.proofs.lemmas.List.Folds.{fold-map}
use Rattle.json_text.specs.Tree.{Tree, Items, Members, null, truth, number, text, list, object}
use Rattle.leaf_match.specs.Cidr as address
use Rattle.leaf_match.specs.Piece.{Fits}
use Rattle.leaf_match.specs.Wild.{literal_front}
use Rattle.leaf_match.specs.declared.piece.Piece.{Piece}
use Rattle.leaf_match.specs.declared.piece.Piece.TheVariants.{Letter, Run, OneCharacter}
use Rattle.pattern_meaning.specs.declared.comparison.Comparison.{Comparison}
use Rattle.pattern_meaning.specs.Pattern.{Test, same, prefix, prefix_ignoring_case, suffix, suffix_ignoring_case, equals_ignoring_case}
use Rattle.pattern_meaning.specs.Pattern.{wildcard, anything_but, numeric, cidr, exists, missing}
use Rattle.pattern_meaning.specs.Holds.{IsMet}
use Rattle.value_index.specs.declared.row.Row.{Row}
use Rattle.value_index.specs.declared.lengths.Length.TheVariants.{Whole}
use Rattle.value_index.specs.declared.lengths.Lengths.{Lengths}
use Rattle.value_index.specs.Adds.{HasText, IsPlainlyReached, IsReached}
use Rattle.value_index.specs.Key.{key_of, letters_key}
use Rattle.value_index.specs.Lengths.{IsListed}
use Rattle.value_index.specs.Rows.{key_in, test_in}
use Rattle.value_index.specs.Signature.{joined, signature, whole}

abbrev lower : List ℕ → List ℕ
lower = str_to_ascii_lowercase

by_lower : (s : ℕ) (bytes : List ℕ) → signature s bytes ≡ fold joined s (lower bytes)
by_lower s bytes = sym (fold-map joined to_ascii_lowercase s bytes)

same_signature : (s : ℕ) (a b : List ℕ) → lower a ≡ lower b → signature s a ≡ signature s b
same_signature s a b e = by_lower s a ∙ ap (fold joined s) e ∙ sym (by_lower s b)

-- bytes that begin with others, without regard to case
begins : (s : ℕ) (x y rest : List ℕ) → lower x ≡ lower y ++ rest → (length y ≤ length x) × (signature s y ≡ signature s (take (length y) x))
begins s x y rest e =
    let long : length x ≡ length y + length rest =
    sym (length-map x to_ascii_lowercase) ∙ ap length e ∙ length-append (lower y) rest ∙ ap (λ n. n + length rest) (length-map y to_ascii_lowercase) in (
      omega (arith, long),
      same_signature s y (take (length y) x)
          (sym (sym (take-map to_ascii_lowercase (length y) x) ∙ ap (take (length y)) e ∙ take_at (lower y) rest (length y) (length-map y to_ascii_lowercase))),
    )

lower-append : (a b : List ℕ) → lower (a ++ b) ≡ lower a ++ lower b
lower-append a b = map-append to_ascii_lowercase a b

lower-reverse : (bytes : List ℕ) → lower (reverse bytes) ≡ reverse (lower bytes)
lower-reverse [] = refl
lower-reverse (b ∷ bytes) =
    ap lower (reverse-append (b ∷ []) bytes) ∙ lower-append (reverse bytes) (b ∷ []) ∙ ap (λ l. l ++ lower (b ∷ [])) (lower-reverse bytes)
    ∙ sym (reverse-append (lower (b ∷ [])) (lower bytes))

-- the same from the back
ends : (s : ℕ) (x y rest : List ℕ) → lower x ≡ rest ++ lower y
    → (length y ≤ length x) × (signature s (reverse y) ≡ signature s (take (length y) (reverse x)))
ends s x y rest e =
    let turned : lower (reverse x) ≡ lower (reverse y) ++ reverse rest =
    lower-reverse x ∙ ap reverse e ∙ reverse-append rest (lower y) ∙ ap (λ l. l ++ reverse rest) (sym (lower-reverse y)) in
    let r = begins s (reverse x) (reverse y) (reverse rest) turned in (
      omega (arith, r.0, length-reverse x, length-reverse y),
      r.1 ∙ ap (λ n. signature s (take n (reverse x))) (length-reverse y),
    )

-- what fits begins with the letters before the first run
fits_front : (pieces : List Piece) (t : List ℕ) → Fits pieces t → (rest : List ℕ) × (t ≡ literal_front pieces ++ rest)
fits_front [] t h = (t, refl)
fits_front (Letter byte ∷ pieces) t h =
    let r = fits_front pieces h.1 h.4 in
    (r.0, h.2 ∙ ap (λ x. x ++ h.1) h.3 ∙ ap (λ x. byte ∷ x) r.1)
fits_front (Run ∷ pieces) t h = (t, refl)
fits_front (OneCharacter ∷ pieces) t h = (t, refl)

texts_same : (a b : List ℕ) → text a ≡ text b → a ≡ b
texts_same a b e = cc

module _ (lengths : Lengths) (t : List ℕ) (row : Row) where
  abbrev Found : Type 0
  Found = (row.signature ≡ 0) ⊎ HasText lengths t row

  by_whole : (other : List ℕ) → lower t ≡ lower other → row.signature ≡ signature 6 other → IsListed lengths (key_of (equals_ignoring_case other)).length → Found
  by_whole other e signed listed =
      let long : length other ≡ length t = sym (length-map other to_ascii_lowercase) ∙ ap length (sym e) ∙ length-map t to_ascii_lowercase in
      inr (inl (
        subst (λ n. IsListed lengths (Whole n)) long listed,
        signed ∙ same_signature 6 other t (sym e),
      ))

  by_front : (bytes rest : List ℕ) → lower t ≡ lower bytes ++ rest → row.signature ≡ signature 7 bytes → IsListed lengths (key_of (prefix bytes)).length → Found
  by_front bytes rest e signed listed =
      let r = begins 7 t bytes rest e in
      inr (inr (inl (length bytes, r.0, listed, signed ∙ r.1)))

  by_back : (bytes rest : List ℕ) → lower t ≡ rest ++ lower bytes → row.signature ≡ signature 8 (reverse bytes) → IsListed lengths (key_of (suffix bytes)).length → Found
  by_back bytes rest e signed listed =
      let r = ends 8 t bytes rest e in
      inr (inr (inr (inl (length bytes, r.0, listed, signed ∙ r.1))))

  by_letters : (letters rest : List ℕ) → t ≡ letters ++ rest → row.signature ≡ (letters_key letters).signature → IsListed lengths (letters_key letters).length → Found
  by_letters [] rest e signed listed = inl signed
  by_letters (b ∷ letters) rest e signed listed = by_front (b ∷ letters) (lower rest) (ap lower e ∙ lower-append (b ∷ letters) rest) signed listed

  text_reached : (test : Test) → row.signature ≡ (key_of test).signature → IsListed lengths (key_of test).length → IsMet test (text t) → Found
  text_reached (same scalar) signed listed h =
      by_whole t refl (signed ∙ ap (λ s. (key_of (same s)).signature) h) (subst (λ s. IsListed lengths (key_of (same s)).length) h listed)
  text_reached (prefix bytes) signed listed h =
      by_front bytes (lower h.2.0) (ap lower (texts_same t h.0 h.1 ∙ h.2.1) ∙ lower-append bytes h.2.0) signed listed
  text_reached (prefix_ignoring_case bytes) signed listed h = by_front bytes h.2.0 (ap lower (texts_same t h.0 h.1) ∙ h.2.1) signed listed
  text_reached (suffix bytes) signed listed h =
      by_back bytes (lower h.2.0) (ap lower (texts_same t h.0 h.1 ∙ h.2.1) ∙ lower-append h.2.0 bytes) signed listed
  text_reached (suffix_ignoring_case bytes) signed listed h = by_back bytes h.2.0 (ap lower (texts_same t h.0 h.1) ∙ h.2.1) signed listed
  text_reached (equals_ignoring_case other) signed listed h = by_whole other (ap lower (texts_same t h.0 h.1) ∙ h.2) signed listed
  text_reached (wildcard pieces) signed listed h =
      let r = fits_front pieces h.0 h.2 in
      by_letters (literal_front pieces) r.0 (texts_same t h.0 h.1 ∙ r.1) signed listed
  text_reached (anything_but ts) signed listed h = inl signed
  text_reached (numeric cs) signed listed h = let e : text t ≡ number h.0 = h.2 in absurd (text_number t h.0 e)
    where
      text_number : (a b : List ℕ) → text a ≡ number b → ⊥
      text_number a b e = cc
  text_reached (cidr addresses) signed listed h =
      inr (inr (inr (inr (addresses, subst (address.Holds addresses) (sym (texts_same t h.0 h.1)) h.2, listed, signed))))
  text_reached exists signed listed h = inl signed
  text_reached missing signed listed h = absurd h

-- of a leaf that is no text
abbrev IsPlain : Tree → Type 0
IsPlain leaf = (t : List ℕ) → leaf ≢ text t

plain_whole : (leaf : Tree) → IsPlain leaf → (key_of (same leaf)).signature ≡ whole leaf
plain_whole null h = refl
plain_whole (truth b) h = refl
plain_whole (number spelling) h = refl
plain_whole (text t) h = absurd (h t refl)
plain_whole (list items) h = refl
plain_whole (object inside) h = refl

plain_reached : (leaf : Tree) → IsPlain leaf → (row : Row) (test : Test) → row.signature ≡ (key_of test).signature → IsMet test leaf
    → IsPlainlyReached leaf row ⊎ ((cs : List Comparison) × (test ≡ numeric cs))
plain_reached leaf plain row (same scalar) signed h =
    inl (inr (signed ∙ ap (λ s. (key_of (same s)).signature) h ∙ plain_whole leaf plain))
plain_reached leaf plain row (prefix bytes) signed h = absurd (plain h.0 h.1)
plain_reached leaf plain row (prefix_ignoring_case bytes) signed h = absurd (plain h.0 h.1)
plain_reached leaf plain row (suffix bytes) signed h = absurd (plain h.0 h.1)
plain_reached leaf plain row (suffix_ignoring_case bytes) signed h = absurd (plain h.0 h.1)
plain_reached leaf plain row (equals_ignoring_case other) signed h = absurd (plain h.0 h.1)
plain_reached leaf plain row (wildcard pieces) signed h = absurd (plain h.0 h.1)
plain_reached leaf plain row (anything_but ts) signed h = inl (inl signed)
plain_reached leaf plain row (numeric cs) signed h = inr (cs, refl)
plain_reached leaf plain row (cidr addresses) signed h = absurd (plain h.0 h.1)
plain_reached leaf plain row exists signed h = inl (inl signed)
plain_reached leaf plain row missing signed h = absurd h

null_plain : IsPlain null
null_plain t e = cc

truth_plain : (b : Bool) → IsPlain (truth b)
truth_plain b t e = cc

number_plain : (spelling : List ℕ) → IsPlain (number spelling)
number_plain spelling t e = cc

list_plain : (items : Items) → IsPlain (list items)
list_plain items t e = cc

object_plain : (inside : Members) → IsPlain (object inside)
object_plain inside t e = cc

-- and no number
no_numeric : (leaf : Tree) → ((t : List ℕ) → leaf ≢ number t) → (row : Row) (test : Test) → IsMet test leaf
    → IsPlainlyReached leaf row ⊎ ((cs : List Comparison) × (test ≡ numeric cs)) → IsPlainlyReached leaf row
no_numeric leaf none row test met (inl h) = h
no_numeric leaf none row test met (inr h) = let m = subst (λ x. IsMet x leaf) h.1 met in absurd (none m.0 m.2)

null_number : (t : List ℕ) → null ≢ number t
null_number t e = cc

truth_number : (b : Bool) (t : List ℕ) → truth b ≢ number t
truth_number b t e = cc

list_number : (items : Items) (t : List ℕ) → list items ≢ number t
list_number items t e = cc

object_number : (inside : Members) (t : List ℕ) → object inside ≢ number t
object_number inside t e = cc

pub reached : (lengths : Lengths) (leaf : Tree) (row : Row) → row.signature ≡ (key_in row).signature → IsListed lengths (key_in row).length
    → IsMet (test_in row) leaf → IsReached lengths leaf row
reached lengths null row signed listed h = no_numeric null null_number row (test_in row) h (plain_reached null null_plain row (test_in row) signed h)
reached lengths (truth b) row signed listed h =
    no_numeric (truth b) (truth_number b) row (test_in row) h (plain_reached (truth b) (truth_plain b) row (test_in row) signed h)
reached lengths (number spelling) row signed listed h = plain_reached (number spelling) (number_plain spelling) row (test_in row) signed h
reached lengths (text t) row signed listed h = text_reached lengths t row (test_in row) signed listed h
reached lengths (list items) row signed listed h =
    no_numeric (list items) (list_number items) row (test_in row) h (plain_reached (list items) (list_plain items) row (test_in row) signed h)
reached lengths (object inside) row signed listed h =
    no_numeric (object inside) (object_number inside) row (test_in row) h (plain_reached (object inside) (object_plain inside) row (test_in row) signed h)
