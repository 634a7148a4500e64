-- Unsigned numbers without an exponent: `whole_with_places`, `whole_alone`; a sign: `minus_number`, `plain_number`; the digits: `plain_is` and `plain_reads`.
use Rattle.std.proofs.Common.{◌≡◌, ◌≢◌, ℕ, zero, suc, ◌^◌, ◌<◌, inl, inr, ◌↔◌, true, false, ◌==◌, Result, Ok, List, [], ◌∷◌, ◌++◌, length}
use Rattle.std.proofs.Common.{get_or, sym, ap, ◌∙◌, subst, refl, decimal, arith, append-nil}
use Rattle.std.specs.Str.Parse.{AllDigits, digits_value, ParsesUnsigned}
use Rattle.std.specs.Char.{digit_value, is_ascii_digit}
use Rattle.std.specs.List.{list_all}
use Rattle.std.proofs.lemmas.Fmt.{parse-decimal, decimal_is_IsNumeral, decimal-digits_value, decimal_nonempty, first_decimal, decimal_digit}
use Rattle.std.proofs.lemmas.Str.Parse.{IsNumeralModel, numerals_by_value, tells_digits, digit_at, parse_plain}
use Rattle.std.proofs.lemmas.Bool.{false≢true, and_parts}
use Rattle.std.proofs.Math.ListN.{get_or-append}
use Rattle.std.proofs.lemmas.List.{append_cancel_left}
use Rattle.json_text.specs.Moment.{IsMoment}
use Rattle.json_text.specs.Number.{AreDigits, IsDigits}
use Rattle.event_shape.specs.Time.{IsTimeNumber}
use Rattle.event_shape.specs.Whole.{HasWhole, BeginsPlainly}

own : IsNumeralModel (AllDigits 10) (digits_value 10)
own = numerals_by_value (AllDigits 10) tells_digits

-- what `decimal` writes begins plainly
plain_or_zero : (n : ℕ) → n < 2 ^ 64 → get_or (decimal n) 0 0 ≡ 48 → length (decimal n) ≡ 1
plain_or_zero zero small e = ap length (decimal_digit 0 (omega arith))
plain_or_zero (suc n) small e = absurd (omega (arith, first_decimal (suc n) (omega arith) small, e))

pub BeginsPlainly-decimal : (n : ℕ) → n < 2 ^ 64 → BeginsPlainly (decimal n)
BeginsPlainly-decimal n small =
    let some = decimal_nonempty n small in
    let first = digit_at (decimal n) 0 (decimal_is_IsNumeral n small).0.1 some in
    (some, first.0, first.1, plain_or_zero n small)

-- what begins plainly and is read as a number is what `decimal` writes of it
pub plain_is : {E : Type 0} (ds : List ℕ) (n : ℕ) (r : Result ℕ E) → ParsesUnsigned 64 10 ds r → BeginsPlainly ds → r ≡ Ok n → (n < 2 ^ 64) × (ds ≡ decimal n)
plain_is ds n r parsed plain e =
    let read = rw e at (parse_plain own 64 ds r parsed (omega (arith, plain.1))) in (
      subst (λ m. m < 2 ^ 64) (sym read.1) read.0.2,
      sym (decimal-digits_value own ds read.0.0 plain.0 plain.3 read.0.2) ∙ ap decimal (sym read.1),
    )

-- digits, by their test
pub digits_by_test : (bs : List ℕ) → list_all is_ascii_digit bs ≡ true → AreDigits bs
digits_by_test [] h = tt
digits_by_test (b ∷ bs) h = let parts = and_parts (is_ascii_digit b) (list_all is_ascii_digit bs) h in (parts.0, digits_by_test bs parts.1)

pub test_of_digits : (bs : List ℕ) → AreDigits bs → list_all is_ascii_digit bs ≡ true
test_of_digits [] h = refl
test_of_digits (b ∷ bs) h = rw (h.0, test_of_digits bs h.1)

pub digits_tested : (bs : List ℕ) → (length bs == 0) ≡ false → (list_all is_ascii_digit bs ≡ true) ↔ IsDigits bs
digits_tested [] some = absurd (false≢true (sym some))
digits_tested (b ∷ bs) some = (digits_by_test (b ∷ bs), test_of_digits (b ∷ bs))

-- no dot
NoDot : List ℕ → Type 0
NoDot [] = Unit {0}
NoDot (b ∷ bs) = (b ≢ 46) × NoDot bs

NoDot-all_digits : (ds : List ℕ) → AllDigits 10 ds → NoDot ds
unfolding NoDot
NoDot-all_digits [] h = tt
NoDot-all_digits (d ∷ ds) h = (λ e. let value : digit_value 46 < 10 = subst (λ b. digit_value b < 10) e h.0 in omega (arith, value), NoDot-all_digits ds h.1)

NoDot-digits : (ds : List ℕ) → AreDigits ds → NoDot ds
unfolding NoDot
NoDot-digits [] h = tt
NoDot-digits (d ∷ ds) h = (λ e. let dot : is_ascii_digit 46 ≡ true = subst (λ b. is_ascii_digit b ≡ true) e h.0 in false≢true dot, NoDot-digits ds h.1)

NoDot-decimal : (n : ℕ) → n < 2 ^ 64 → NoDot (decimal n)
NoDot-decimal n small = NoDot-all_digits (decimal n) (decimal_is_IsNumeral n small).0.1

no_dot_seam : (xs ys : List ℕ) → NoDot (xs ++ 46 ∷ ys) → ⊥
unfolding NoDot
no_dot_seam [] ys h = h.0 refl
no_dot_seam (x ∷ xs) ys h = no_dot_seam xs ys h.1

-- two cuts at a dot are the same if one of them leaves no other dot
one_cut : (xs ys us vs : List ℕ) → NoDot us → NoDot vs → xs ++ 46 ∷ ys ≡ us ++ 46 ∷ vs → (xs ≡ us) × (ys ≡ vs)
unfolding NoDot
one_cut [] ys [] vs n m e = (refl, cc)
one_cut [] ys (u ∷ us) vs n m e = let same : u ≡ 46 = cc in absurd (n.0 same)
one_cut (x ∷ xs) ys [] vs n m e = let same : vs ≡ xs ++ 46 ∷ ys = cc in absurd (no_dot_seam xs ys (subst NoDot same m))
one_cut (x ∷ xs) ys (u ∷ us) vs n m e =
    let tails : xs ++ 46 ∷ ys ≡ us ++ 46 ∷ vs = cc in
    let same : x ≡ u = cc in
    let cut = one_cut xs ys us vs n.1 m tails in
    (ap (λ t. x ∷ t) cut.0 ∙ ap (λ b. b ∷ us) same, cut.1)

-- a whole part, a dot and places
pub whole_with_places : (spelling whole places : List ℕ) (n : ℕ) → spelling ≡ whole ++ 46 ∷ places → n < 2 ^ 64 → HasWhole spelling n
    → (whole ≡ decimal n) × IsDigits places
whole_with_places spelling whole places n e small ([], is, written) =
    absurd (no_dot_seam whole places (subst NoDot (sym (written ∙ append-nil (decimal n)) ∙ e) (NoDot-decimal n small)))
whole_with_places spelling whole places n e small (b ∷ bs, is, written) =
    let same = sym e ∙ written ∙ ap (λ d. decimal n ++ d ∷ bs) is.0 in
    let cut = one_cut whole places (decimal n) bs (NoDot-decimal n small) (NoDot-digits bs (digits_are bs is.1)) same in
    (cut.0, subst IsDigits (sym cut.1) is.1)
  where
    digits_are : (bs : List ℕ) → IsDigits bs → AreDigits bs
    digits_are [] h = absurd h
    digits_are (b ∷ bs) h = h

pub whole_alone : (spelling : List ℕ) (n : ℕ) → ((xs ys : List ℕ) → ¬ (spelling ≡ xs ++ 46 ∷ ys)) → HasWhole spelling n → spelling ≡ decimal n
whole_alone spelling n none ([], is, written) = written ∙ append-nil (decimal n)
whole_alone spelling n none (b ∷ bs, is, written) = absurd (none (decimal n) bs (written ∙ ap (λ d. decimal n ++ d ∷ bs) is.0))

-- the first byte of a number's digits is no sign
no_sign : (n : ℕ) (rest bytes : List ℕ) → n < 2 ^ 64 → ¬ (45 ∷ rest ≡ decimal n ++ bytes)
no_sign n rest bytes small e =
    let some = decimal_nonempty n small in
    let first = digit_at (decimal n) 0 (decimal_is_IsNumeral n small).0.1 some in
    let begins : get_or (decimal n ++ bytes) 0 0 ≡ get_or (decimal n) 0 0 = get_or-append (decimal n) bytes 0 0 some in
    let same : get_or (decimal n ++ bytes) 0 0 ≡ 45 = sym (ap (λ xs. get_or xs 0 0) e) in
    omega (arith, begins, same, first.0)

-- after a minus sign there is only zero
pub minus_number : (spelling rest : List ℕ) (n : ℕ) → spelling ≡ 45 ∷ rest → n < 2 ^ 64 → IsTimeNumber spelling n ↔ (HasWhole rest n × (n ≡ 0))
minus_number spelling rest n e small = (forth, back)
  where
    forth : IsTimeNumber spelling n → HasWhole rest n × (n ≡ 0)
    forth (fraction, is, inl plain) = absurd (no_sign n rest fraction small (sym e ∙ plain))
    forth (fraction, is, inr (zeroth, minus)) =
        let same : rest ≡ decimal 0 ++ fraction = append_cancel_left (45 ∷ []) rest (decimal 0 ++ fraction) (sym e ∙ minus) in
        ((fraction, is, same ∙ ap (λ m. decimal m ++ fraction) (sym zeroth)), zeroth)

    back : HasWhole rest n × (n ≡ 0) → IsTimeNumber spelling n
    back ((fraction, is, whole), zeroth) = (fraction, is, inr (zeroth, e ∙ ap (λ t. 45 ∷ t) (whole ∙ ap (λ m. decimal m ++ fraction) zeroth)))

pub plain_number : (spelling : List ℕ) (n : ℕ) → ((rest : List ℕ) → spelling ≢ 45 ∷ rest) → IsTimeNumber spelling n ↔ HasWhole spelling n
plain_number spelling n none = (forth, λ h. (h.0, h.1, inl h.2))
  where
    forth : IsTimeNumber spelling n → HasWhole spelling n
    forth (fraction, is, inl plain) = (fraction, is, plain)
    forth (fraction, is, inr (zeroth, minus)) = absurd (none (decimal 0 ++ fraction) minus)

pub not_plain : (ds : List ℕ) → (BeginsPlainly ds → ⊥) → (n : ℕ) → IsMoment n × (ds ≡ decimal n) → ⊥
not_plain ds h n p = h (subst BeginsPlainly (sym p.1) (BeginsPlainly-decimal n (omega (arith, p.0))))

pub plain_reads : {E : Type 0} (ds : List ℕ) (n : ℕ) (r : Result ℕ E) → ParsesUnsigned 64 10 ds r → IsMoment n × (ds ≡ decimal n) → r ≡ Ok n
plain_reads ds n r parsed p = parse-decimal 64 n ds r (omega (arith, p.0)) (omega (arith, p.0)) p.1 parsed
