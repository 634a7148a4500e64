-- The readers' functions find exactly the parts that a text spells: `number_of_spelled` and
-- `spelled_of_number`
use Rattle.std.proofs.Common.{◌≡◌, ◌≢◌, ℕ, ◌+◌, ◌<◌, ◌≤◌, Bool, true, false, cond, nat_lt, ◌||◌, ◌==◌, List, [], ◌∷◌, ◌++◌, length, take}
use Rattle.std.proofs.Common.{drop, refl, sym, subst, ◌∙◌, ap, arith, ⊎_elim, inl, inr, ◌⊎◌, append-nil, Some, None, Option}
use Rattle.std.proofs.Math.Seq.{take-append_seam, drop-append_seam, take-length}
use Rattle.std.proofs.lemmas.Bool.Decides.{nat_tests}
use Rattle.std.proofs.lemmas.Bool.{cond_both, cases_eq, false≢true}
use Rattle.std.proofs.Math.Numerals.{one-add}
use Rattle.std.proofs.lemmas.List.{length-take, take-append-drop}
use Rattle.std.proofs.lemmas.List.Sums.{prefix_len-le-length}
use Rattle.std.proofs.lemmas.Option.{none-some, some_pair_parts, same_Some}
use Rattle.std.specs.Char.{is_ascii_digit, digit_value}
use Rattle.std.specs.Option.{option_map, option_and_then}
use Rattle.std.specs.Str.Parse.{AllDigits, IsNumeral}
use Rattle.numeric_keys.specs.Number.{Parts, IsSign, IsInt, IsFrac, IsE, IsExp, IsNumber, no_minus, minus, lone_zero, nonzero, no_frac}
use Rattle.numeric_keys.specs.Number.{point, lower, upper, no_exp, plain, with_plus, with_minus}
use Rattle.numeric_keys.specs.NumberReader.{digit_count, is_int, digits_alone, signed_digits, exponent_of, digits_in_front, fraction_of, unsigned_of, number_of}

-- ---- digits

digit_range : (c : ℕ) → digit_value c < 10 → (48 ≤ c) × (c ≤ 57)
digit_range c h = grind (arith, nat_tests)

is_digit_true : (c : ℕ) → 48 ≤ c → c ≤ 57 → is_ascii_digit c ≡ true
is_digit_true c low high = grind (arith, nat_tests)

is_digit_range : (c : ℕ) → is_ascii_digit c ≡ true → (48 ≤ c) × (c ≤ 57)
is_digit_range c h = grind (arith, nat_tests)

digit_from_range : (c : ℕ) → 48 ≤ c → c ≤ 57 → digit_value c < 10
digit_from_range c low high = grind (arith, nat_tests)

digit_from_true : (c : ℕ) → is_ascii_digit c ≡ true → digit_value c < 10
digit_from_true c h = let range = is_digit_range c h in digit_from_range c range.0 range.1

digit_from_value : (c : ℕ) → digit_value c < 10 → is_ascii_digit c ≡ true
digit_from_value c h = let range = digit_range c h in is_digit_true c range.0 range.1

-- a run of digits that no digit follows is what the count finds
digit_count-append : (digits rest : List ℕ) → AllDigits 10 digits → digit_count rest ≡ 0 →
    digit_count (digits ++ rest) ≡ length digits
digit_count-append [] rest all stops = stops
digit_count-append (c ∷ cs) rest all stops =
    rw (digit_from_value c all.0) (rw (digit_count-append cs rest all.1 stops) (omega arith))

-- what the count finds are digits
all_digits_counted : (text : List ℕ) → AllDigits 10 (take (digit_count text) text)
all_digits_counted [] = tt
all_digits_counted (c ∷ cs) =
    cond_both (is_ascii_digit c) (1 + digit_count cs) 0 (λ n. AllDigits 10 (take n (c ∷ cs)))
    (λ e. rw one-add (digit_from_true c e, all_digits_counted cs)) (λ e. tt)

-- ---- a spelling's parts are found

digits_alone_found : (negative : Bool) (digits : List ℕ) → IsNumeral 10 digits →
    digits_alone negative digits ≡ Some (negative, digits)
digits_alone_found negative digits h =
    let whole : digit_count digits ≡ length digits = ap digit_count (sym (append-nil digits))
    ∙ digit_count-append digits [] h.1 refl in
    rw whole (grind (arith, nat_tests))

-- without a sign, the digits are the whole text
plain_found : (digits : List ℕ) → IsNumeral 10 digits → signed_digits digits ≡ Some (false, digits)
plain_found [] h = absurd (omega (arith, h.0))
plain_found (c ∷ cs) h =
    let range = digit_range c h.1.0 in
    let no_minus : (c == 45) ≡ false = grind (arith, nat_tests) in
    let no_plus : (c == 43) ≡ false = grind (arith, nat_tests) in
    rw (no_minus, no_plus) (digits_alone_found false (c ∷ cs) h)

exponent_found : (negative : Bool) (digits text : List ℕ) → IsExp negative digits text →
    exponent_of text ≡ Some (negative, digits)
exponent_found _ _ _ no_exp = refl
exponent_found _ _ _ (plain {digits} lower h) = plain_found digits h
exponent_found _ _ _ (plain {digits} upper h) = plain_found digits h
exponent_found _ _ _ (with_plus {digits} lower h) = digits_alone_found false digits h
exponent_found _ _ _ (with_plus {digits} upper h) = digits_alone_found false digits h
exponent_found _ _ _ (with_minus {digits} lower h) = digits_alone_found true digits h
exponent_found _ _ _ (with_minus {digits} upper h) = digits_alone_found true digits h

-- an `exp`, and a `frac` before one, begin with no digit
exponent_stops : (negative : Bool) (digits text : List ℕ) → IsExp negative digits text →
    digit_count text ≡ 0
exponent_stops _ _ _ no_exp = refl
exponent_stops _ _ _ (plain lower h) = refl
exponent_stops _ _ _ (plain upper h) = refl
exponent_stops _ _ _ (with_plus lower h) = refl
exponent_stops _ _ _ (with_plus upper h) = refl
exponent_stops _ _ _ (with_minus lower h) = refl
exponent_stops _ _ _ (with_minus upper h) = refl

fraction_stops : (digits frac exp : List ℕ) → IsFrac digits frac → digit_count exp ≡ 0 →
    digit_count (frac ++ exp) ≡ 0
fraction_stops _ _ exp no_frac stops = stops
fraction_stops _ _ exp (point h) stops = refl

digits_in_front_found : (digits rest : List ℕ) → IsNumeral 10 digits → digit_count rest ≡ 0 →
    digits_in_front (digits ++ rest) ≡ Some (digits, rest)
digits_in_front_found digits rest h stops =
    let count : digit_count (digits ++ rest) ≡ length digits =
    digit_count-append digits rest h.1 stops in
    let some : (length digits == 0) ≡ false = grind (arith, nat_tests) in
    rw (count, some, take-append_seam, drop-append_seam)

-- no `exp` begins with a point
fraction_absent : (negative : Bool) (digits text : List ℕ) → IsExp negative digits text →
    fraction_of text ≡ Some ([], text)
fraction_absent _ _ _ no_exp = refl
fraction_absent _ _ _ (plain lower h) = refl
fraction_absent _ _ _ (plain upper h) = refl
fraction_absent _ _ _ (with_plus lower h) = refl
fraction_absent _ _ _ (with_plus upper h) = refl
fraction_absent _ _ _ (with_minus lower h) = refl
fraction_absent _ _ _ (with_minus upper h) = refl

fraction_found : (digits frac : List ℕ) (negative : Bool) (exponent exp : List ℕ) →
    IsFrac digits frac → IsExp negative exponent exp →
    fraction_of (frac ++ exp) ≡ Some (digits, exp)
fraction_found _ _ negative exponent exp no_frac e = fraction_absent negative exponent exp e
fraction_found _ _ negative exponent exp (point {digits} h) e =
    digits_in_front_found digits exp h (exponent_stops negative exponent exp e)

pub fraction_digits : (digits frac : List ℕ) → IsFrac digits frac → AllDigits 10 digits
fraction_digits _ _ no_frac = tt
fraction_digits _ _ (point h) = h.1

pub exponent_digits : (negative : Bool) (digits exp : List ℕ) → IsExp negative digits exp →
    AllDigits 10 digits
exponent_digits _ _ _ no_exp = tt
exponent_digits _ _ _ (plain e h) = h.1
exponent_digits _ _ _ (with_plus e h) = h.1
exponent_digits _ _ _ (with_minus e h) = h.1

pub int_digits : (digits : List ℕ) → IsInt digits → AllDigits 10 digits
int_digits _ lone_zero = (refl_below, tt)
  where
    refl_below : digit_value 48 < 10
    refl_below = omega arith
int_digits _ (nonzero {first} low high others) = (digit_from_range first (omega arith) high, others)

int_found : (digits : List ℕ) → IsInt digits → is_int digits ≡ true
int_found _ lone_zero = refl
int_found _ (nonzero {others = []} low high others) = refl
int_found _ (nonzero {others = second ∷ more} low high others) = grind (arith, nat_tests)

unsigned_found : (negative : Bool) (parts : Parts) (frac exp : List ℕ) →
    parts.negative ≡ negative → IsInt parts.whole → IsFrac parts.fraction frac →
    IsExp parts.exponent_negative parts.exponent exp →
    unsigned_of negative (parts.whole ++ (frac ++ exp)) ≡ Some parts
unsigned_found negative parts frac exp same int fraction exponent =
    let stops : digit_count (frac ++ exp) ≡ 0 =
    fraction_stops parts.fraction frac exp fraction (exponent_stops _ _ exp exponent) in
    let count : digit_count (parts.whole ++ (frac ++ exp)) ≡ length parts.whole =
    digit_count-append parts.whole (frac ++ exp) (int_digits _ int) stops in
    rw (
      count,
      take-append_seam,
      drop-append_seam,
      int_found _ int,
      fraction_found _ _ _ _ _ fraction exponent,
      exponent_found _ _ _ exponent,
      ← same,
    )

first_of_int : (digits rest : List ℕ) → IsInt digits →
    number_of (digits ++ rest) ≡ unsigned_of false (digits ++ rest)
first_of_int _ rest lone_zero = refl
first_of_int _ rest (nonzero {first} {others} low high all) =
    let no_minus : (first == 45) ≡ false = grind (arith, nat_tests) in
    rw no_minus refl

signed_found : (negative : Bool) (sign digits rest : List ℕ) → IsSign negative sign →
    IsInt digits → number_of (sign ++ (digits ++ rest)) ≡ unsigned_of negative (digits ++ rest)
signed_found _ _ digits rest no_minus int = first_of_int digits rest int
signed_found _ _ digits rest minus int = refl

pub number_of_spelled : (parts : Parts) (text : List ℕ) → IsNumber parts text →
    number_of text ≡ Some parts
number_of_spelled parts text h =
    rw h.pieces (signed_found _ _ _ _ h.minus h.int
    ∙ unsigned_found parts.negative parts h.frac h.exp refl h.int h.fraction h.exponent)

-- ---- the parts that are found are spelled

cond_cases : {A : Type 0} (b : Bool) (x y z : A) → cond b x y ≡ z → ((b ≡ true) × (x ≡ z)) ⊎
    ((b ≡ false) × (y ≡ z))
cond_cases true x y z h = inl (refl, h)
cond_cases false x y z h = inr (refl, h)

-- a choice that gave something did not take the branch with nothing
cond_else : {A : Type 0} (b : Bool) (x : Option A) (z : A) → cond b None x ≡ Some z → (b ≡ false) ×
    (x ≡ Some z)
cond_else true x z h = absurd (none-some z h)
cond_else false x z h = (refl, h)

cond_then : {A : Type 0} (b : Bool) (x : Option A) (z : A) → cond b x None ≡ Some z → (b ≡ true) ×
    (x ≡ Some z)
cond_then true x z h = (refl, h)
cond_then false x z h = absurd (none-some z h)

digits_alone_spelled : (negative signed : Bool) (text digits : List ℕ) →
    digits_alone negative text ≡ Some (signed, digits) →
    (negative ≡ signed) × (text ≡ digits) × IsNumeral 10 text
digits_alone_spelled negative signed text digits h =
    let first = cond_else (digit_count text == 0)
    (cond (nat_lt (digit_count text) (length text)) None (Some (negative, text))) (
      signed,
      digits,
    ) h in
    let second = cond_else (nat_lt (digit_count text) (length text)) (Some (negative, text))
    (signed, digits) first.1 in
    let parts = some_pair_parts negative signed text digits second.1 in
    let some : 0 < digit_count text = grind (arith, nat_tests) in
    let within : digit_count text ≤ length text = prefix_len-le-length is_ascii_digit text in
    let whole : digit_count text ≡ length text = grind (arith, nat_tests) in
    (parts.0, parts.1, (omega arith, rw (whole, take-length) at (all_digits_counted text)))

signed_spelled : (e : ℕ) (text : List ℕ) (signed : Bool) (digits : List ℕ) → IsE e →
    signed_digits text ≡ Some (signed, digits) → IsExp signed digits (e ∷ text)
signed_spelled e [] signed digits is_e h = absurd (none-some (signed, digits) h)
signed_spelled e (first ∷ others) signed digits is_e h =
    ⊎_elim with_minus_sign others_signs
    (cond_cases (first == 45) (digits_alone true others)
    (cond (first == 43) (digits_alone false others) (digits_alone false (first ∷ others)))
    (Some (signed, digits)) h)
  where
    with_minus_sign : ((first == 45) ≡ true) × (digits_alone true others ≡ Some (signed, digits)) →
        IsExp signed digits (e ∷ first ∷ others)
    with_minus_sign (is_minus, found) =
        let code : first ≡ 45 = grind (arith, nat_tests) in
        let parts = digits_alone_spelled true signed others digits found in
        rw (code, ← parts.0, ← parts.1) (with_minus is_e parts.2)

    others_signs : ((first == 45) ≡ false) ×
        (cond (first == 43) (digits_alone false others) (digits_alone false (first ∷ others))
        ≡ Some (signed, digits)) → IsExp signed digits (e ∷ first ∷ others)
    others_signs (no_minus_sign, found) =
        ⊎_elim with_plus_sign without_sign
        (cond_cases (first == 43) (digits_alone false others) (digits_alone false (first ∷ others))
        (Some (signed, digits)) found)
      where
        with_plus_sign : ((first == 43) ≡ true) ×
            (digits_alone false others ≡ Some (signed, digits)) →
            IsExp signed digits (e ∷ first ∷ others)
        with_plus_sign (is_plus, found) =
            let code : first ≡ 43 = grind (arith, nat_tests) in
            let parts = digits_alone_spelled false signed others digits found in
            rw (code, ← parts.0, ← parts.1) (with_plus is_e parts.2)

        without_sign : ((first == 43) ≡ false) ×
            (digits_alone false (first ∷ others) ≡ Some (signed, digits)) →
            IsExp signed digits (e ∷ first ∷ others)
        without_sign (no_plus_sign, found) =
            let parts = digits_alone_spelled false signed (first ∷ others) digits found in
            rw (← parts.0, ← parts.1) (plain is_e parts.2)

exponent_spelled : (text : List ℕ) (signed : Bool) (digits : List ℕ) →
    exponent_of text ≡ Some (signed, digits) → IsExp signed digits text
exponent_spelled [] signed digits h =
    let parts = some_pair_parts false signed [] digits h in
    rw (← parts.0, ← parts.1) no_exp
exponent_spelled (first ∷ others) signed digits h =
    let parts = cond_then (first == 101 || first == 69) (signed_digits others) (signed, digits) h in
    signed_spelled first others signed digits (is_e_from first parts.0) parts.1
  where
    is_e_from : (first : ℕ) → (first == 101 || first == 69) ≡ true → IsE first
    is_e_from first h = ⊎_elim (λ e. rw e lower) (λ e. rw e upper) (either first h)
      where
        either : (first : ℕ) → (first == 101 || first == 69) ≡ true → (first ≡ 101) ⊎ (first ≡ 69)
        either first h = grind (arith, nat_tests)

digits_in_front_spelled : (text digits rest : List ℕ) →
    digits_in_front text ≡ Some (digits, rest) → (text ≡ digits ++ rest) × IsNumeral 10 digits
digits_in_front_spelled text digits rest h =
    let found = cond_else (digit_count text == 0)
    (Some (take (digit_count text) text, drop (digit_count text) text)) (digits, rest) h in
    let parts = some_pair_parts (take (digit_count text) text) digits
    (drop (digit_count text) text) rest found.1 in
    let some : 0 < digit_count text = grind (arith, nat_tests) in
    let within : digit_count text ≤ length text = prefix_len-le-length is_ascii_digit text in (
      rw (← parts.0, ← parts.1) (sym (take-append-drop (digit_count text) text)),
      rw (← parts.0) (simp length-take (omega arith), all_digits_counted text),
    )

fraction_spelled : (text digits rest : List ℕ) → fraction_of text ≡ Some (digits, rest) →
    (frac : List ℕ) × (text ≡ frac ++ rest) × IsFrac digits frac
fraction_spelled [] digits rest h =
    let parts = some_pair_parts [] digits [] rest h in
    ([], parts.1, rw (← parts.0) no_frac)
fraction_spelled (first ∷ others) digits rest h =
    ⊎_elim with_point without_point
    (cond_cases (first == 46) (digits_in_front others) (Some ([], first ∷ others))
    (Some (digits, rest)) h)
  where
    with_point : ((first == 46) ≡ true) × (digits_in_front others ≡ Some (digits, rest)) →
        (frac : List ℕ) × ((first ∷ others) ≡ frac ++ rest) × IsFrac digits frac
    with_point (is_point, found) =
        let code : first ≡ 46 = grind (arith, nat_tests) in
        let parts = digits_in_front_spelled others digits rest found in
        (46 ∷ digits, rw (code, parts.0) refl, point parts.1)

    without_point : ((first == 46) ≡ false) ×
        (◌≡◌ {A = Option (List ℕ × List ℕ)} (Some ([], first ∷ others)) (Some (digits, rest))) →
        (frac : List ℕ) × ((first ∷ others) ≡ frac ++ rest) × IsFrac digits frac
    without_point (no_point, found) =
        let parts = some_pair_parts [] digits (first ∷ others) rest found in
        ([], parts.1, rw (← parts.0) no_frac)

int_spelled : (digits : List ℕ) → AllDigits 10 digits → is_int digits ≡ true → IsInt digits
int_spelled [] all h = absurd (false≢true h)
int_spelled (first ∷ []) all h =
    let range = digit_range first all.0 in
    ⊎_elim (λ e. rw e lone_zero) (λ other. nonzero (omega arith) range.1 tt) (cases_eq first 48)
int_spelled (first ∷ second ∷ others) all h =
    let range = digit_range first all.0 in
    let no_zero : first ≢ 48 = grind (arith, nat_tests) in
    nonzero (omega arith) range.1 all.1

and_then_some : {A B : Type 0} (f : A → Option B) (o : Option A) (y : B) →
    option_and_then f o ≡ Some y → (x : A) × (o ≡ Some x) × (f x ≡ Some y)
and_then_some f None y h = absurd (none-some y h)
and_then_some f (Some x) y h = (x, refl, h)

map_some : {A B : Type 0} (f : A → B) (o : Option A) (y : B) → option_map f o ≡ Some y → (x : A) ×
    (o ≡ Some x) × (f x ≡ y)
map_some f None y h = absurd (none-some y h)
map_some f (Some x) y h = (x, refl, same_Some (f x) y h)

-- what `unsigned_of` makes of the parts that it found
joined : Bool → List ℕ → List ℕ × List ℕ → Bool × List ℕ → Parts
joined negative whole fraction exponent = record {
  negative = negative;
  whole = whole;
  fraction = fraction.0;
  exponent_negative = exponent.0;
  exponent = exponent.1;
}

record Found (negative : Bool) (text : List ℕ) (parts : Parts) : Type 0 where
  frac : List ℕ
  exp : List ℕ
  whole : text ≡ parts.whole ++ (frac ++ exp)
  same : parts.negative ≡ negative
  int : IsInt parts.whole
  fraction : IsFrac parts.fraction frac
  exponent : IsExp parts.exponent_negative parts.exponent exp

unsigned_spelled : (negative : Bool) (text : List ℕ) (parts : Parts) →
    unsigned_of negative text ≡ Some parts → Found negative text parts
unfolding joined
unsigned_spelled negative text parts h =
    let count : ℕ = digit_count text in
    let first = cond_then (is_int (take count text))
    (option_and_then (λ fraction. option_map (joined negative (take count text) fraction)
    (exponent_of fraction.1)) (fraction_of (drop count text))) parts h in
    let second = and_then_some
    (λ (fraction : List ℕ × List ℕ). option_map (joined negative (take count text) fraction)
    (exponent_of fraction.1)) (fraction_of (drop count text)) parts first.1 in
    let third = map_some (joined negative (take count text) second.0)
    (exponent_of second.0.1) parts second.2 in
    let fraction = fraction_spelled (drop count text) second.0.0 second.0.1 second.1 in
    let P : Parts → Type 0 = Found negative text in
    subst P third.2 (record {
      frac = fraction.0;
      exp = second.0.1;
      whole = rw (← fraction.1) (sym (take-append-drop count text));
      same = refl;
      int = int_spelled (take count text) (all_digits_counted text) first.0;
      fraction = fraction.2;
      exponent = exponent_spelled second.0.1 third.0.0 third.0.1 third.1;
    })

pub spelled_of_number : (parts : Parts) (text : List ℕ) → number_of text ≡ Some parts →
    IsNumber parts text
spelled_of_number parts [] h =
    let found = unsigned_spelled false [] parts h in
    record {
      sign = [];
      frac = found.frac;
      exp = found.exp;
      pieces = found.whole;
      minus =
          rw found.same no_minus;
      int = found.int;
      fraction = found.fraction;
      exponent =
          found.exponent;
    }
spelled_of_number parts (first ∷ others) h =
    ⊎_elim with_sign without_sign
    (cond_cases (first == 45) (unsigned_of true others) (unsigned_of false (first ∷ others))
    (Some parts) h)
  where
    with_sign : ((first == 45) ≡ true) × (unsigned_of true others ≡ Some parts) →
        IsNumber parts (first ∷ others)
    with_sign (is_sign, read) =
        let code : first ≡ 45 = grind (arith, nat_tests) in
        let found = unsigned_spelled true others parts read in
        record {
          sign = 45 ∷ [];
          frac = found.frac;
          exp = found.exp;
          pieces =
              rw code (ap (λ (t : List ℕ). 45 ∷ t) found.whole);
          minus = rw found.same minus;
          int =
              found.int;
          fraction = found.fraction;
          exponent = found.exponent;
        }

    without_sign : ((first == 45) ≡ false) × (unsigned_of false (first ∷ others) ≡ Some parts) →
        IsNumber parts (first ∷ others)
    without_sign (no_sign, read) =
        let found = unsigned_spelled false (first ∷ others) parts read in
        record {
          sign = [];
          frac = found.frac;
          exp = found.exp;
          pieces = found.whole;
          minus =
              rw found.same no_minus;
          int = found.int;
          fraction = found.fraction;
          exponent =
              found.exponent;
        }
