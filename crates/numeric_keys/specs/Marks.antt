-- Places that are marked or not, as the bits of 64-bit words
use Rattle.std.specs.Prelude.{ℕ, ◌/◌, ◌%◌, ◌==◌, Bool, List, map, slice_index}
use Rattle.std.specs.Int.{bit_at}
use Rattle.std.specs.List.{range_with_len}

-- The bit of this place in a list of 64-bit words is 1: bit `place mod 64` of word `place / 64`.
-- Shown by: text_tests test_numeric_keys.rt: marked_places.
abbrev pub is_marked : List ℕ → ℕ → Bool
is_marked words place = bit_at (slice_index words (place / 64)) (place % 64) == 1

-- The marks of a number of places, as a list of truth values. Contracts see `Marks` by it.
-- Shown by: text_tests test_numeric_keys.rt: marked_places.
unfoldable pub marks_in : List ℕ → ℕ → List Bool
marks_in words places = map (is_marked words) (range_with_len 0 places)
