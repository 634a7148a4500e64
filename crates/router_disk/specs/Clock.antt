-- The readings of a clock, in order and without end: place k has the reading of the k-th call from now on, counted from 0.
use Rattle.std.specs.Prelude.{◌≡◌, ℕ, zero, suc, List, [], ◌∷◌, ⊤, Option, Some, None}

-- The readings of a list, and then those of an endless sequence.
-- Shown by: outside_tests test_router_disk.rt: a_clock_in_memory_repeats_its_last_reading.
abbrev pub followed_by : List ℕ → (ℕ → ℕ) → ℕ → ℕ
followed_by [] later k = later k
followed_by (x ∷ xs) later zero = x
followed_by (x ∷ xs) later (suc k) = followed_by xs later k

-- if the readings to come were known before, they began with these, in order, and the rest is still to come
abbrev pub BeginsWith : Option (ℕ → ℕ) → Option (ℕ → ℕ) → List ℕ → Type 0
BeginsWith None new gave = ⊤
BeginsWith (Some old) None gave = ⊥
BeginsWith (Some old) (Some new) gave = (k : ℕ) → old k ≡ followed_by gave new k

-- If the readings ahead are known, these were given, in order, and the rest is still ahead.
-- Shown by: outside_tests test_router_disk.rt: a_clock_in_memory_repeats_its_last_reading.
pub record Gives (old new : Option (ℕ → ℕ)) (gave : List ℕ) : Type 0 where
  pub in_order : BeginsWith old new gave

-- A reading, then a list, whose last reading repeats. 5 and 3, 9 give 5, 3, 9, 9, ..
-- Shown by: outside_tests test_router_disk.rt: a_clock_in_memory_repeats_its_last_reading.
abbrev pub repeating : ℕ → List ℕ → ℕ → ℕ
repeating x [] k = x
repeating x (y ∷ ys) zero = x
repeating x (y ∷ ys) (suc k) = repeating y ys k
