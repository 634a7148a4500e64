-- A text writes at most one address and one prefix: `prefix_written` and `prefix_only`, or none: `no_slash_no_prefix`
-- to `no_length_no_prefix`. A length in its plain form is what `decimal` writes of it:
-- `decimal_plainly`.
use Rattle.std.proofs.Common.{◌≡◌, ◌≢◌, ℕ, zero, suc, ◌+◌, ◌-◌, ◌*◌, ◌^◌, ◌<◌, ◌≤◌, inl, inr, ◌↔◌, Bool, true, false, ◌==◌, nat_le, Result}
use Rattle.std.proofs.Common.{Ok, Err, Option, Some, None, MatchOption, List, [], ◌∷◌, ◌++◌, length, get_or, take, drop, sym, ap, ◌∙◌}
use Rattle.std.proofs.Common.{subst, refl, codes, decimal, arith}
use Rattle.std.specs.Str.{NoCharPasses}
use Rattle.std.specs.Str.Parse.{AllDigits, digits_value, ParsesUnsigned}
use Rattle.std.specs.Char.{digit_value}
use Rattle.std.proofs.lemmas.Fmt.{decimal_is_IsNumeral, decimal-digits_value, decimal_nonempty, first_decimal, decimal_digit, decimal_injective}
use Rattle.std.proofs.lemmas.Str.Parse.{IsNumeralModel, numerals_by_value, tells_digits, digit_at, parse_plain}
use Rattle.std.proofs.lemmas.Str.{NoCharPasses-byte, encode_ascii}
use Rattle.std.specs.Char.{encode_utf8}
use Rattle.std.proofs.lemmas.Bool.{false≢true, cases_lt}
use Rattle.std.proofs.lemmas.Nat.{pow-add}
use Rattle.std.proofs.Math.Nat.{div-lt_iff_lt-mul}
use Rattle.std.proofs.Math.Pow.{pow_pos}
use Rattle.std.proofs.lemmas.Option.{none-some, same_Some}
use Rattle.std.specs.Bool.{then_some}
use Rattle.std.proofs.lemmas.Bool.Decides.{nat_tests}
use Rattle.std.specs.Result.{result_ok}
use Rattle.std.specs.List.{Contains, IsAnyAnswer}
use Rattle.std.specs.Str.Pattern.{RFindsChar, SplitsAroundMatch}
use Rattle.std.proofs.NetLemmas.Ipv6.{IsDotted-not_colon_hex}
use Rattle.std.proofs.NetLemmas.Theorems.{IsIpv4Text_unique, IsIpv6Text_unique}
use Rattle.std.specs.declared.net.ipv4_addr.Ipv4Addr.{Ipv4Addr}
use Rattle.std.specs.declared.net.ipv6_addr.Ipv6Addr.{Ipv6Addr}
use Rattle.std.specs.Net.Grammar.{IsIpv4Text, IsIpv6Text}
use Rattle.std.specs.Net.Addr.{ipv4_bits, ipv6_bits}
use Rattle.std.proofs.lemmas.List.{take-append-drop}
use Rattle.leaf_match.specs.declared.address.Family.{Family}
use Rattle.leaf_match.specs.declared.address.Family.TheVariants.{V4, V6}
use Rattle.leaf_match.specs.Cidr.{dot, width_of, IsAddressText, leading_bits, Prefix, IsPrefixText, Holds, BeginsPlainly}

own : IsNumeralModel (AllDigits 10) (digits_value 10)
own = numerals_by_value (AllDigits 10) tells_digits

-- what `decimal` writes begins plainly
plain_or_zero : (n : ℕ) → n < 2 ^ 64 → get_or (decimal n) 0 0 ≡ 48 → length (decimal n) ≡ 1
plain_or_zero zero small e = ap length (decimal_digit 0 (omega arith))
plain_or_zero (suc n) small e = absurd (omega (arith, first_decimal (suc n) (omega arith) small, e))

pub BeginsPlainly-decimal : (n : ℕ) → n < 2 ^ 64 → BeginsPlainly (decimal n)
BeginsPlainly-decimal n small =
    let some = decimal_nonempty n small in
    let first = digit_at (decimal n) 0 (decimal_is_IsNumeral n small).0.1 some in
    (some, first.0, first.1, plain_or_zero n small)

-- and what begins plainly and is read as a number is what `decimal` writes of it
pub decimal_plainly : {E : Type 0} (ds : List ℕ) (n : ℕ) (r : Result ℕ E) → ParsesUnsigned 32 10 ds r → BeginsPlainly ds
    → r ≡ Ok n → (n < 2 ^ 32) × (ds ≡ decimal n)
decimal_plainly ds n r parsed plain e =
    let read = rw e at (parse_plain own 32 ds r parsed (omega (arith, plain.1))) in (
      subst (λ m. m < 2 ^ 32) (sym read.1) read.0.2,
      sym (decimal-digits_value own ds read.0.0 plain.0 plain.3 (omega (arith, read.0.2))) ∙ ap decimal (sym read.1),
    )

-- a slash in a text, and none after it
NoSlash : List ℕ → Type 0
NoSlash [] = Unit {0}
NoSlash (byte ∷ bytes) = (byte ≢ 47) × NoSlash bytes

no_slash_seam : (xs ys : List ℕ) → NoSlash (xs ++ 47 ∷ ys) → ⊥
unfolding NoSlash
no_slash_seam [] ys h = h.0 refl
no_slash_seam (x ∷ xs) ys h = no_slash_seam xs ys h.1

NoSlash-digits : (ds : List ℕ) → AllDigits 10 ds → NoSlash ds
unfolding NoSlash
NoSlash-digits [] h = tt
NoSlash-digits (d ∷ ds) h = (λ e. let value : digit_value 47 < 10 = subst (λ b. digit_value b < 10) e h.0 in omega (arith, value), NoSlash-digits ds h.1)

NoSlash-by_index : (bytes : List ℕ) → ((k : ℕ) → k < length bytes → get_or bytes k 0 ≢ 47) → NoSlash bytes
unfolding NoSlash
NoSlash-by_index [] h = tt
NoSlash-by_index (byte ∷ bytes) h = (h 0 (omega arith), NoSlash-by_index bytes (λ k lt. h (suc k) (omega arith)))

last_cut : (xs ys us vs : List ℕ) → NoSlash ys → NoSlash vs → xs ++ 47 ∷ ys ≡ us ++ 47 ∷ vs → (xs ≡ us) × (ys ≡ vs)
unfolding NoSlash
last_cut [] ys [] vs n m e = (refl, cc)
last_cut [] ys (u ∷ us) vs n m e = let same : ys ≡ us ++ 47 ∷ vs = cc in absurd (no_slash_seam us vs (subst NoSlash same n))
last_cut (x ∷ xs) ys [] vs n m e = let same : vs ≡ xs ++ 47 ∷ ys = cc in absurd (no_slash_seam xs ys (subst NoSlash same m))
last_cut (x ∷ xs) ys (u ∷ us) vs n m e =
    let head : x ≡ u = cc in
    let both = last_cut xs ys us vs n m cc in
    (cc, both.1)

-- `rsplit_once` cuts at the last slash
pub IsLastCut : (text front back : List ℕ) → Type 0
IsLastCut text front back = (text ≡ front ++ 47 ∷ back) × NoSlash back

no_slash : (bytes : List ℕ) → NoCharPasses (λ d. d == 47) bytes → NoSlash bytes
no_slash bytes none = NoSlash-by_index bytes
    (λ k lt e. false≢true (sym (NoCharPasses-byte (λ d. d == 47) bytes k none lt (omega (arith, e)))
    ∙ ap (λ d. d == 47) e))

pub IsLastCut-from_rsplit : (text front back : List ℕ) → SplitsAroundMatch (RFindsChar 47) text front back → IsLastCut text front back
unfolding IsLastCut
IsLastCut-from_rsplit text front back (i, j, found, is_front, is_back, order, front_length, back_length) =
    let at = found.1 in
    let cut : text ≡ take i text ++ (encode_utf8 47 ++ drop j text) = sym (take-append-drop i text) ∙ ap (λ x. take i text ++ x) at.split in (
      cut ∙ ap (λ x. x ++ (encode_utf8 47 ++ drop j text)) (sym is_front)
          ∙ ap (λ x. front ++ x) (ap (λ x. x ++ drop j text) (encode_ascii 47 (omega arith))
          ∙ ap (λ x. 47 ∷ x) (sym is_back)),
      subst NoSlash (sym is_back) (no_slash (drop j text) found.0),
    )

no_cut : (text front back : List ℕ) → NoCharPasses (λ d. d == 47) text → text ≢ front ++ 47 ∷ back
no_cut text front back none e = no_slash_seam front back (subst NoSlash e (no_slash text none))

IsLastCut-unique : (text front back address : List ℕ) (n : ℕ) → n < 2 ^ 64 → IsLastCut text front back
    → text ≡ address ++ (codes "/" ++ decimal n) → (front ≡ address) × (back ≡ decimal n)
unfolding IsLastCut
IsLastCut-unique text front back address n small cut e =
    last_cut front back address (decimal n) cut.1 (NoSlash-digits (decimal n) (decimal_is_IsNumeral n small).0.1) (sym cut.0 ∙ e)

-- a text writes one address at most
IsAddressText-unique : (f g : Family) (text : List ℕ) (a b : ℕ) → IsAddressText f text a → IsAddressText g text b → (f ≡ g) × (a ≡ b)
IsAddressText-unique V4 V4 text a b h k = (refl, h.2 ∙ ap ipv4_bits (IsIpv4Text_unique text h.0 k.0 h.1 k.1) ∙ sym k.2)
IsAddressText-unique V4 V6 text a b h k = absurd (IsDotted-not_colon_hex text _ _ h.1 k.1)
IsAddressText-unique V6 V4 text a b h k = absurd (IsDotted-not_colon_hex text _ _ k.1 h.1)
IsAddressText-unique V6 V6 text a b h k = (refl, h.3 ∙ ap ipv6_bits (IsIpv6Text_unique text h.0 k.0 h.1 k.1) ∙ sym k.3)

-- no address of either family
pub not_address : (text : List ℕ) → ((a : Ipv4Addr) → ¬ (IsIpv4Text text a))
    → ((a : Ipv6Addr) → IsIpv6Text text a → ¬ (¬ (Contains text dot))) → (f : Family) (bits : ℕ)
    → ¬ (IsAddressText f text bits)
not_address text no_v4 no_v6 V4 bits h = no_v4 h.0 h.1
not_address text no_v4 no_v6 V6 bits h = no_v6 h.0 h.1 h.2

pub same_number : (m n : ℕ) → (m == n) ≡ true → m ≡ n
same_number m n e = grind (arith, nat_tests)

pub number_same : (m n : ℕ) → m ≡ n → (m == n) ≡ true
number_same m n e = grind (arith, nat_tests)

-- a text with a dot
pub Contains-from_found : (text : List ℕ) (byte : ℕ) (r : Bool) → r ≡ true → IsAnyAnswer (λ y b. (y == byte) ≡ b) text r → Contains text byte
Contains-from_found text byte r e h =
    let found = rw e at h in
    (found.0, found.1, same_number (get_or text found.0 byte) byte (found.2 byte))

-- the two answers of a test by the family and by the bits, against the definition
pub Holds-same_family : (p : Prefix) (text : List ℕ) (f : Family) (bits : ℕ) → IsAddressText f text bits → f ≡ p.family
    → (leading_bits f p.length bits ≡ p.first_bits) ↔ Holds p text
Holds-same_family p text f bits h e = (
  λ same. (bits, subst (λ g. IsAddressText g text bits) e h, subst (λ g. leading_bits g p.length bits ≡ p.first_bits) e same),
  λ w. ap (λ g. leading_bits g p.length bits) e ∙ ap (leading_bits p.family p.length) (IsAddressText-unique f p.family text bits w.0 h w.1).1 ∙ w.2,
)

pub not_Holds-other_family : (p : Prefix) (text : List ℕ) (f : Family) (bits : ℕ) → IsAddressText f text bits → f ≢ p.family → ¬ (Holds p text)
not_Holds-other_family p text f bits h ne w = ne (IsAddressText-unique f p.family text bits w.0 h w.1).0

-- what `ok` says of what was parsed
pub result_ok-some : {E : Type 0} (r : Result ℕ E) (n : ℕ) → Some n ≡ result_ok r → r ≡ Ok n
result_ok-some (Ok m) n e = let same : n ≡ m = cc in ap Ok (sym same)
result_ok-some (Err x) n e = absurd (none-some n (sym e))

pub result_ok-none : {E : Type 0} (r : Result ℕ E) (n : ℕ) → None ≡ result_ok r → r ≢ Ok n
result_ok-none (Ok m) n e k = absurd (none-some m e)
result_ok-none (Err x) n e k = cc

not_le : (m n : ℕ) → n < m → nat_le m n ≡ false
not_le m n h = grind (arith, nat_tests)

le_leb : (m n : ℕ) → m ≤ n → nat_le m n ≡ true
le_leb m n h = grind (arith, nat_tests)

-- a length's text is no other length's
pub at_most : (most n : ℕ) (ds : List ℕ) → n < 2 ^ 32 → most < 2 ^ 32 → ds ≡ decimal n
    → MatchOption (then_some (nat_le n most) n) ((k : ℕ) → k ≤ most → ¬ (ds ≡ decimal k))
    (λ k. (k ≤ most) × (ds ≡ decimal k))
at_most most n ds small fits e = elim (cases_lt most n) [
  | inl above ↦ rw (not_le n most above) (λ k within other. omega (arith, decimal_injective n k (omega arith) (omega arith) (sym e ∙ other)))
  | inr within ↦ rw (le_leb n most within) (within, e)
]

-- what the calls of `read` gave, against the definition
pub none_written : (text : List ℕ) (r : Option Prefix) → r ≡ None → ((p : Prefix) → ¬ (IsPrefixText text p)) → (p : Prefix) → (r ≡ Some p) ↔ IsPrefixText text p
none_written text r e none p = (λ some. absurd (none-some p (sym e ∙ some)), λ w. absurd (none p w))

pub some_written : (text : List ℕ) (q : Prefix) → IsPrefixText text q → ((p : Prefix) → IsPrefixText text p → q ≡ p)
    → (p : Prefix) → (Some q ≡ Some p) ↔ IsPrefixText text p
some_written text q w only p = (λ e. subst (IsPrefixText text) (same_Some q p e) w, λ other. ap Some (only p other))

width_small : (f : Family) → width_of f ≤ 128
width_small V4 = omega arith
width_small V6 = omega arith

length_small : (p : Prefix) → p.length ≤ width_of p.family → p.length < 2 ^ 64
length_small p h = omega (arith, width_small p.family)

pub no_slash_no_prefix : (text : List ℕ) → NoCharPasses (λ d. d == 47) text → (p : Prefix) → ¬ (IsPrefixText text p)
no_slash_no_prefix text none p w = no_cut text w.0 (decimal p.length) none w.2

module _ (text front back : List ℕ) (cut : IsLastCut text front back) where
  -- the parts of any prefix that the text writes
  parts : (p : Prefix) → (w : IsPrefixText text p) → (front ≡ w.0) × (back ≡ decimal p.length)
  parts p w = IsLastCut-unique text front back w.0 p.length (length_small p w.3) cut w.2

  pub no_address_no_prefix : ((f : Family) (bits : ℕ) → ¬ (IsAddressText f front bits)) → (p : Prefix) → ¬ (IsPrefixText text p)
  no_address_no_prefix none p w = none p.family w.1 (subst (λ x. IsAddressText p.family x w.1) (sym (parts p w).0) w.4)

  -- the family and the value that `p` has, if the front is read as `f` and `bits`
  same_address : (f : Family) (bits : ℕ) → IsAddressText f front bits → (p : Prefix) → (w : IsPrefixText text p) → (f ≡ p.family) × (bits ≡ w.1)
  same_address f bits h p w = IsAddressText-unique f p.family front bits w.1 h (subst (λ x. IsAddressText p.family x w.1) (sym (parts p w).0) w.4)

  pub no_length_no_prefix : (f : Family) (bits : ℕ) → IsAddressText f front bits
      → ((n : ℕ) → n ≤ width_of f → ¬ (back ≡ decimal n)) → (p : Prefix) → ¬ (IsPrefixText text p)
  no_length_no_prefix f bits h none p w =
      none p.length (subst (λ g. p.length ≤ width_of g) (sym (same_address f bits h p w).0) w.3) (parts p w).1

  module _ (f : Family) (bits n : ℕ) (h : IsAddressText f front bits) (within : n ≤ width_of f) (e : back ≡ decimal n) where
    pub prefix_written : IsPrefixText text (record { family = f; first_bits = leading_bits f n bits; length = n })
    unfolding IsLastCut
    prefix_written = (front, bits, cut.0 ∙ ap (λ x. front ++ 47 ∷ x) e, within, h, refl)

    pub prefix_only : (p : Prefix) → IsPrefixText text p → (let q : Prefix = record { family = f; first_bits = leading_bits f n bits; length = n } in q) ≡ p
    prefix_only p w =
        let same = same_address f bits h p w in
        let length_is : n ≡ p.length = decimal_injective n p.length (omega (arith, width_small f)) (length_small p w.3) (sym e ∙ (parts p w).1) in
        let bits_are : leading_bits f n bits ≡ p.first_bits =
        ap (λ g. leading_bits g n bits) same.0 ∙ ap (λ m. leading_bits p.family m bits) length_is
        ∙ ap (leading_bits p.family p.length) same.1 ∙ sym w.5 in
        λ i. record { family = same.0 i; first_bits = bits_are i; length = length_is i }

-- the first bits fit in the length
pub leading_bits-small : (f : Family) (n bits : ℕ) → n ≤ width_of f → bits < 2 ^ width_of f → leading_bits f n bits < 2 ^ n
leading_bits-small f n bits within range =
    let unused = width_of f - n in
    let whole : n + unused ≡ width_of f = omega arith in
    let product : 2 ^ width_of f ≡ 2 ^ n * 2 ^ unused = ap (λ k. 2 ^ k) (sym whole) ∙ pow-add 2 n unused in
    (div-lt_iff_lt-mul {k = 2 ^ unused} {x = bits} {y = 2 ^ n} (pow_pos unused)).1 (subst (λ m. bits < m) product range)
