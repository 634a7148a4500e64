-- Parts of a time that is given as a number. No public clause names these.
use Rattle.std.specs.Prelude.{◌≡◌, ◌<◌, ◌≤◌, ℕ, List, ◌++◌, decimal, length, slice_index}
use Rattle.json_text.specs.Number.{IsFraction}

-- the spelling is a whole part and an optional fraction
abbrev pub HasWhole : List ℕ → ℕ → Type 0
HasWhole spelling n = (fraction : List ℕ) × IsFraction fraction × (spelling ≡ decimal n ++ fraction)

-- a decimal digit comes first, and it is `0` only if nothing follows
abbrev pub BeginsPlainly : List ℕ → Type 0
BeginsPlainly digits =
    (0 < length digits) × (48 ≤ slice_index digits 0) × (slice_index digits 0 ≤ 57)
    × (slice_index digits 0 ≡ 48 → length digits ≡ 1)
