-- For private clauses only: bytes of a string that are read and written unchanged.
use Rattle.std.specs.Prelude.{◌≡◌, ℕ, ◌<◌, ◌≤◌, Bool, true, not, ◌&&◌, ◌==◌, List, slice_index}
use Rattle.json_text.specs.Reading.{is_within}

-- a byte that is no control character, no quotation mark and no backslash, and at most the given one
abbrev pub is_plain : ℕ → ℕ → Bool
is_plain most b = is_within 32 most b && (not (b == 34) && not (b == 92))

-- the bytes from a place to another are plain
abbrev pub PlainBetween : ℕ → List ℕ → ℕ → ℕ → Type 0
PlainBetween most bytes from to = (k : ℕ) → from ≤ k → k < to → is_plain most (slice_index bytes k) ≡ true
