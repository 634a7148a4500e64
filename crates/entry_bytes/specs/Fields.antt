-- The fields of a journal's payload as bytes, and which values have them. Numbers are big-endian. This project's own format.
use Rattle.std.specs.Prelude.{◌≡◌, ℕ, ◌^◌, ◌<◌, Bool, true, false, List, [], ◌∷◌, ◌++◌, length, Option, Some, None}
use Rattle.std.specs.List.{flat_map, AllByRecursion}
use Rattle.std.specs.Int.{w16, w32, w64, to_be_bytes}
use Rattle.std.specs.Str.{is_utf8}

-- A number in two bytes, the higher first: 258 is `01 02`.
-- Shown by: a_number_begins_with_its_lowest_byte.edit.
unfoldable pub two_bytes : ℕ → List ℕ
two_bytes n = to_be_bytes w16 n

-- A number in four bytes, the highest first.
-- Shown by: a_number_begins_with_its_lowest_byte.edit.
unfoldable pub four_bytes : ℕ → List ℕ
four_bytes n = to_be_bytes w32 n

-- A number in eight bytes, the highest first.
-- Shown by: a_number_begins_with_its_lowest_byte.edit.
unfoldable pub eight_bytes : ℕ → List ℕ
eight_bytes n = to_be_bytes w64 n

-- A text: its length in four bytes, and its bytes. `q` is `00000001 71`.
-- Shown by: table_tests test_duty_journal.rt: each_batch_has_its_bytes.
abbrev pub text_bytes : List ℕ → List ℕ
text_bytes t = four_bytes (length t) ++ t

-- A truth value: 0 or 1.
-- Shown by: table_tests test_duty_journal.rt: each_batch_has_its_bytes.
abbrev pub flag_bytes : Bool → List ℕ
flag_bytes false = 0 ∷ []
flag_bytes true = 1 ∷ []

-- What may be missing: 0, or 1 and what there is.
-- Shown by: table_tests test_duty_journal.rt: each_batch_has_its_bytes.
abbrev pub optional_bytes : {A : Type 0} → (A → List ℕ) → Option A → List ℕ
optional_bytes bytes_of None = 0 ∷ []
optional_bytes bytes_of (Some x) = 1 ∷ bytes_of x

-- A list: its length in four bytes, and its items.
-- Shown by: table_tests test_duty_journal.rt: each_batch_has_its_bytes.
abbrev pub list_bytes : {A : Type 0} → (A → List ℕ) → List A → List ℕ
list_bytes bytes_of xs = four_bytes (length xs) ++ flat_map bytes_of xs

-- A text has bytes if its length fits in four bytes. It is UTF-8.
-- Shown by: table_tests test_duty_journal.rt: other_bytes_are_no_batch.
abbrev pub IsText : List ℕ → Type 0
IsText t = (length t < 2 ^ 32) × (is_utf8 t ≡ true)

-- What there is has bytes.
-- Shown by: proofs alone.
abbrev pub IsOptional : {A : Type 0} → (A → Type 0) → Option A → Type 0
IsOptional fits None = Unit {0}
IsOptional fits (Some x) = fits x

-- A list has bytes if its length fits in four bytes, and each item has bytes.
-- Shown by: proofs alone.
abbrev pub IsList : {A : Type 0} → (A → Type 0) → List A → Type 0
IsList fits xs = (length xs < 2 ^ 32) × AllByRecursion fits xs
