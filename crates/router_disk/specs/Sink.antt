-- What a write does to the bytes that a sink shows as written.
use Rattle.std.specs.Prelude.{◌≡◌, ℕ, List, ◌++◌, Option, Result, MatchResult}
use Rattle.std.specs.Io.KnownBytes.{Appends}

-- A first part of the bytes was appended, perhaps none.
-- Shown by: outside_tests test_router_disk.rt: a_failed_call_loses_no_byte_and_is_counted.
abbrev pub AppendsPart : Option (List ℕ) → Option (List ℕ) → List ℕ → Type 0
AppendsPart old new bytes = (first rest : List ℕ) × (bytes ≡ first ++ rest) × Appends old new first

-- If `Ok` is returned all bytes are appended; if `Err`, a first part of them.
-- Shown by: failed_write_says_ok.edit.
abbrev pub WritesAll : {T E : Type 0} → Option (List ℕ) → Option (List ℕ) → Result T E → List ℕ → Type 0
WritesAll old new result bytes = MatchResult result (λ _. Appends old new bytes) (λ _. AppendsPart old new bytes)

-- If `Ok` is returned all bytes come after those written before; if `Err`, a first part of them, perhaps none.
-- Shown by: outside_tests test_router_disk.rt: a_failed_call_loses_no_byte_and_is_counted.
abbrev pub AddsBytes : {T E : Type 0} → List ℕ → List ℕ → Result T E → List ℕ → Type 0
AddsBytes old new result bytes =
    MatchResult result (λ _. new ≡ old ++ bytes) (λ _. (first rest : List ℕ) × (bytes ≡ first ++ rest) × (new ≡ old ++ first))

-- A sink over a writer shows the bytes that were appended to the writer's, if these are known, and no others: all of a write if `Ok` is
-- returned, a first part of it if `Err`.
-- Shown by: bytes_are_lost_after_a_short_write.edit.
abbrev pub WritesBoth : {T E : Type 0} → Option (List ℕ) → Option (List ℕ) → List ℕ → List ℕ → Result T E → List ℕ → Type 0
WritesBoth known_old known_new old new result bytes = MatchResult result
    (λ _. Appends known_old known_new bytes × (new ≡ old ++ bytes))
    (λ _. (first rest : List ℕ) × (bytes ≡ first ++ rest) × Appends known_old known_new first × (new ≡ old ++ first))
