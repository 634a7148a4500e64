-- What the private readers of a number's parts return. No public clause names these.
use Rattle.std.specs.Prelude.{ℕ, ◌==◌, ◌||◌, Bool, true, false, not, cond, Option, Some, None, List, [], ◌∷◌, take, drop, length, nat_lt}
use Rattle.std.specs.Char.{is_ascii_digit}
use Rattle.std.specs.List.{prefix_len}
use Rattle.std.specs.Option.{option_map, option_and_then}
use Rattle.numeric_keys.specs.Number.{Parts}

-- how many digits a text begins with
abbrev pub digit_count : List ℕ → ℕ
digit_count text = prefix_len is_ascii_digit text

-- whether a run of digits is an `int`
abbrev pub is_int : List ℕ → Bool
is_int [] = false
is_int (first ∷ []) = true
is_int (first ∷ second ∷ others) = not (first == 48)

-- a text that is digits alone, at least one
abbrev pub digits_alone : Bool → List ℕ → Option (Bool × List ℕ)
digits_alone negative text =
    cond (digit_count text == 0) None
    (cond (nat_lt (digit_count text) (length text)) None (Some (negative, text)))

-- digits alone, with or without a sign in front
abbrev pub signed_digits : List ℕ → Option (Bool × List ℕ)
signed_digits [] = None
signed_digits (first ∷ others) =
    cond (first == 45) (digits_alone true others)
    (cond (first == 43) (digits_alone false others) (digits_alone false (first ∷ others)))

-- whether an `exp` has a minus, and its digits
abbrev pub exponent_of : List ℕ → Option (Bool × List ℕ)
exponent_of [] = Some (false, [])
exponent_of (first ∷ others) = cond (first == 101 || first == 69) (signed_digits others) None

-- the digits in front, at least one, and what follows them
abbrev pub digits_in_front : List ℕ → Option (List ℕ × List ℕ)
digits_in_front text =
    cond (digit_count text == 0) None
    (Some (take (digit_count text) text, drop (digit_count text) text))

-- the digits of a `frac` in front, and what follows it
abbrev pub fraction_of : List ℕ → Option (List ℕ × List ℕ)
fraction_of [] = Some ([], [])
fraction_of (first ∷ others) =
    cond (first == 46) (digits_in_front others) (Some ([], first ∷ others))

-- the parts of a number without its sign
abbrev pub unsigned_of : Bool → List ℕ → Option Parts
unsigned_of negative text =
    cond (is_int (take (digit_count text) text))
    (option_and_then (λ fraction. option_map (λ exponent. record {
      negative = negative;
      whole = take (digit_count text) text;
      fraction = fraction.0;
      exponent_negative = exponent.0;
      exponent = exponent.1;
    }) (exponent_of fraction.1))
    (fraction_of (drop (digit_count text) text)))
    None

-- the parts of a number
abbrev pub number_of : List ℕ → Option Parts
number_of [] = unsigned_of false []
number_of (first ∷ others) =
    cond (first == 45) (unsigned_of true others) (unsigned_of false (first ∷ others))
