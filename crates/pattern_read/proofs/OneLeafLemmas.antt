-- A text spells one wildcard, one number and one prefix at most: `one_wildcard`, `one_number`, `one_network`.
use Rattle.std.proofs.Common.{◌≡◌, ◌≢◌, ℕ, ◌+◌, ◌*◌, ◌^◌, ◌<◌, Bool, true, false, List, [], ◌∷◌, ◌++◌, length, decimal, refl, sym, ap, ◌∙◌, subst, arith}
use Rattle.std.specs.Prelude.{ℤ, pos, neg_ℤ, if◌then◌else◌}
use Rattle.std.specs.Bool.{MatchBool}
use Rattle.std.specs.Char.{digit_value}
use Rattle.std.specs.Str.Parse.{AllDigits, digits_value}
use Rattle.std.proofs.lemmas.Fmt.{decimal_is_IsNumeral, decimal_injective}
use Rattle.std.proofs.lemmas.Option.{same_Some}
use Rattle.std.proofs.NetLemmas.Ipv6.{IsDotted-not_colon_hex}
use Rattle.std.proofs.NetLemmas.Theorems.{IsIpv4Text_unique, IsIpv6Text_unique}
use Rattle.std.specs.Net.Addr.{ipv4_bits, ipv6_bits}
use Rattle.leaf_match.specs.declared.piece.Piece.{Piece}
use Rattle.leaf_match.specs.Wild.{BeginsWith, Spells}
use Rattle.leaf_match.proofs.WildLemmas.{shorter, Reads, Reads-more, Reads-only}
use Rattle.leaf_match.specs.declared.address.Family.{Family}
use Rattle.leaf_match.specs.declared.address.Family.TheVariants.{V4, V6}
use Rattle.leaf_match.specs.Cidr.{IsAddressText, Prefix, IsPrefixText, width_of, leading_bits}
use Rattle.numeric_keys.specs.Number.{Parts, IsMillionths, HasSize}
use Rattle.numeric_keys.proofs.NumberLemmas.{number_of_spelled}
use Rattle.numeric_keys.proofs.PowerLemmas.{same_size}

-- pieces that spell the rest, after those that were read
spelled_on : (text unread : List ℕ) (done pieces : List Piece) → Reads text unread done → Spells unread pieces
    → (other : List Piece) → Spells text other → (more : List Piece) × (other ≡ done ++ more) × Spells unread more
spelled_on text unread done pieces reads is other spells = reads.goes_on other spells

nothing_begins : (p : Piece) (rest : List ℕ) → ¬ BeginsWith p [] rest
nothing_begins p rest h = omega (arith, shorter p [] rest h)

one_after : (text unread : List ℕ) (done pieces other : List Piece) → Reads text unread done → Spells unread pieces → Spells text other
    → other ≡ done ++ pieces
one_after text unread done [] other reads is spells =
    Reads-only text unread done (λ p rest begins. nothing_begins p rest (subst (λ x. BeginsWith p x rest) is begins)) reads other spells
    ∙ sym (append_nil_of done)
  where
    append_nil_of : (xs : List Piece) → xs ++ [] ≡ xs
    append_nil_of [] = refl
    append_nil_of (x ∷ xs) = ap (λ ys. x ∷ ys) (append_nil_of xs)
one_after text unread done (p ∷ pieces) other reads is spells =
    one_after text is.0 (done ++ p ∷ []) pieces other (Reads-more text unread is.0 done p is.1 reads) is.2 spells ∙ joined done
  where
    joined : (xs : List Piece) → (xs ++ p ∷ []) ++ pieces ≡ xs ++ p ∷ pieces
    joined [] = refl
    joined (x ∷ xs) = ap (λ ys. x ∷ ys) (joined xs)

pub one_wildcard : (text : List ℕ) (a b : List Piece) → Spells text a → Spells text b → b ≡ a
one_wildcard text a b is spells = one_after text text [] a b (record { goes_on = λ pieces h. (pieces, refl, h) }) is spells

one_size : (parts : Parts) (a b : ℕ) → HasSize parts a → HasSize parts b → a ≡ b
one_size parts a b h g = by_sign parts.exponent_negative (length parts.fraction) (digits_value 10 parts.exponent)
    (digits_value 10 (parts.whole ++ parts.fraction)) h g
  where
    by_sign : (negative : Bool) (places power digits : ℕ)
        → MatchBool negative (digits * 10 ^ 6 ≡ a * 10 ^ (places + power)) (digits * 10 ^ power * 10 ^ 6 ≡ a * 10 ^ places)
        → MatchBool negative (digits * 10 ^ 6 ≡ b * 10 ^ (places + power)) (digits * 10 ^ power * 10 ^ 6 ≡ b * 10 ^ places) → a ≡ b
    by_sign true places power digits h g = same_size a b (places + power) (sym h ∙ g)
    by_sign false places power digits h g = same_size a b places (sym h ∙ g)

pub one_number : (text : List ℕ) (a b : ℤ) → IsMillionths text a → IsMillionths text b → a ≡ b
one_number text a b h g =
    let parts : h.parts ≡ g.parts =
    same_Some h.parts g.parts (sym (number_of_spelled h.parts text h.spelled) ∙ number_of_spelled g.parts text g.spelled) in
    let size : h.size ≡ g.size = one_size g.parts h.size g.size (subst (λ (p : Parts). HasSize p h.size) parts h.value) g.value in
    h.signed ∙ ap (λ (p : Parts). if p.negative then neg_ℤ (pos h.size) else pos h.size) parts
    ∙ ap (λ (n : ℕ). if g.parts.negative then neg_ℤ (pos n) else pos n) size ∙ sym g.signed

NoSlash : List ℕ → Type 0
NoSlash [] = Unit {0}
NoSlash (byte ∷ bytes) = (byte ≢ 47) × NoSlash bytes

no_seam : (xs ys : List ℕ) → NoSlash (xs ++ 47 ∷ ys) → ⊥
unfolding NoSlash
no_seam [] ys h = h.0 refl
no_seam (x ∷ xs) ys h = no_seam xs ys h.1

digits_no_slash : (ds : List ℕ) → AllDigits 10 ds → NoSlash ds
unfolding NoSlash
digits_no_slash [] h = tt
digits_no_slash (d ∷ ds) h = (
  λ e. let value : digit_value 47 < 10 = subst (λ b. digit_value b < 10) e h.0 in omega (arith, value),
  digits_no_slash ds h.1,
)

last_cut : (xs ys us vs : List ℕ) → NoSlash ys → NoSlash vs → xs ++ 47 ∷ ys ≡ us ++ 47 ∷ vs → (xs ≡ us) × (ys ≡ vs)
last_cut [] ys [] vs n m e = (refl, cc)
last_cut [] ys (u ∷ us) vs n m e = let same : ys ≡ us ++ 47 ∷ vs = cc in absurd (no_seam us vs (subst NoSlash same n))
last_cut (x ∷ xs) ys [] vs n m e = let same : vs ≡ xs ++ 47 ∷ ys = cc in absurd (no_seam xs ys (subst NoSlash same m))
last_cut (x ∷ xs) ys (u ∷ us) vs n m e =
    let head : x ≡ u = cc in
    let both = last_cut xs ys us vs n m cc in
    (cc, both.1)

one_address : (f g : Family) (text : List ℕ) (a b : ℕ) → IsAddressText f text a → IsAddressText g text b → (f ≡ g) × (a ≡ b)
one_address V4 V4 text a b h k = (refl, h.2 ∙ ap ipv4_bits (IsIpv4Text_unique text h.0 k.0 h.1 k.1) ∙ sym k.2)
one_address V4 V6 text a b h k = absurd (IsDotted-not_colon_hex text _ _ h.1 k.1)
one_address V6 V4 text a b h k = absurd (IsDotted-not_colon_hex text _ _ k.1 h.1)
one_address V6 V6 text a b h k = (refl, h.3 ∙ ap ipv6_bits (IsIpv6Text_unique text h.0 k.0 h.1 k.1) ∙ sym k.3)

width_small : (f : Family) → width_of f < 2 ^ 64
width_small V4 = omega arith
width_small V6 = omega arith

pub one_network : (text : List ℕ) (p q : Prefix) → IsPrefixText text p → IsPrefixText text q → p ≡ q
one_network text p q h g =
    let p_small : p.length < 2 ^ 64 = omega (arith, width_small p.family, h.3) in
    let q_small : q.length < 2 ^ 64 = omega (arith, width_small q.family, g.3) in
    let cut = last_cut h.0 (decimal p.length) g.0 (decimal q.length) (digits_no_slash (decimal p.length) (decimal_is_IsNumeral p.length p_small).0.1)
    (digits_no_slash (decimal q.length) (decimal_is_IsNumeral q.length q_small).0.1) (sym h.2 ∙ g.2) in
    let address = one_address p.family q.family g.0 h.1 g.1 (subst (λ x. IsAddressText p.family x h.1) cut.0 h.4) g.4 in
    let length_is : p.length ≡ q.length = decimal_injective p.length q.length p_small q_small cut.1 in
    let bits_are : p.first_bits ≡ q.first_bits =
    h.5 ∙ ap (λ f. leading_bits f p.length h.1) address.0 ∙ ap (λ n. leading_bits q.family n h.1) length_is
    ∙ ap (leading_bits q.family q.length) address.1 ∙ sym g.5 in
    λ i. record { family = address.0 i; first_bits = bits_are i; length = length_is i }
