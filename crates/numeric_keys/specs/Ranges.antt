-- Ranges of numbers, each with a mark
use Rattle.std.specs.Prelude.{◌≡◌, ℕ, ◌⊎◌, ◌↔◌, ℤ, ◌≤ℤ◌, Bool, false, IsTrue, List, length, slice_index_or}
use Rattle.std.specs.List.{Any}

-- A range (low, high, mark) holds the value, low and high included, and has this mark.
-- Shown by: text_tests test_numeric_keys.rt: ranges_hold_both_ends.
abbrev pub Hits : ℤ → ℕ → ℤ × ℤ × ℕ → Type 0
Hits value mark range = (range.2 ≡ mark) × (range.0 ≤ℤ value) × (value ≤ℤ range.1)

-- A place is marked afterwards exactly if it was before or a range with this mark holds the value. The number of places stays. Of (0, 2, 0)
-- and (2, 5, 1) the value 2 adds the marks 0 and 1, and 3 adds the mark 1.
-- Shown by: text_tests test_numeric_keys.rt: ranges_that_overlap.
pub record AddsHits (ranges : List (ℤ × ℤ × ℕ)) (value : ℤ) (old new : List Bool) : Type 0 where
  pub same_places : length new ≡ length old
  pub marked : (place : ℕ) → IsTrue (slice_index_or new place false)
      ↔ (IsTrue (slice_index_or old place false) ⊎ Any (Hits value place) ranges)
