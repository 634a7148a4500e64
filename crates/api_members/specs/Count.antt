-- Whole numbers: how a JSON number spells one, and which are within limits.
use Rattle.std.specs.Prelude.{ℕ, Bool, false, ◌&&◌, ◌||◌, ◌==◌, nat_le, List, [], ◌∷◌, length, Option, Some, None, option_and_then, if◌then◌else◌}
use Rattle.std.specs.List.{list_all}
use Rattle.std.specs.Char.{is_ascii_digit}
use Rattle.std.specs.Str.Parse.{digits_value}
use Rattle.json_text.specs.Number.{is_digit_above_zero}
use Rattle.json_text.specs.Tree.{Tree, number}

-- The spelling is `int` of a number's grammar alone (RFC 8259, section 6): `0`, or a digit from 1 to 9 and any digits. So it has no sign,
-- no leading zero, no fraction and no exponent.
-- Shown by: a_leading_zero_counts.edit.
abbrev pub is_int : List ℕ → Bool
is_int [] = false
is_int (b ∷ bs) = ((b == 48) && (length bs == 0)) || (is_digit_above_zero b && list_all is_ascii_digit bs)

-- The number that such a spelling (`is_int`) writes.
-- Shown by: tables api_members.rows: a_value_is_valid.
abbrev pub whole_number : List ℕ → Option ℕ
whole_number spelling = if is_int spelling then Some (digits_value 10 spelling) else None

-- the number, if it is from `least` to `most`, both included
abbrev pub if_within : ℕ → ℕ → ℕ → Option ℕ
if_within least most n = if nat_le least n && nat_le n most then Some n else None

-- The whole number from `least` to `most`, both included, that the value is.
-- Shown by: one_past_the_limit_is_valid.edit.
abbrev pub count_of : ℕ → ℕ → Tree → Option ℕ
count_of least most (number spelling) = option_and_then (if_within least most) (whole_number spelling)
count_of least most _ = None

-- The `count_of` of an optional value.
-- Shown by: tables api_wire.rows: a_deletion_has_its_first_refusal.
abbrev pub count_given : ℕ → ℕ → Option Tree → Option ℕ
count_given least most value = option_and_then (count_of least most) value
