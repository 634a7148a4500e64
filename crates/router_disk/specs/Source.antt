-- What the reads of a source gave.
use Rattle.std.specs.Prelude.{◌≡◌, ℕ, List, [], ◌∷◌, ◌++◌, take, Result, MatchResult}

-- A read adds the piece that it gave: the first bytes of its buffer, as many as it returned. The empty piece is the end of the input. A
-- read that failed adds nothing.
-- Shown by: a_read_is_not_shown.edit.
abbrev pub GivesPiece : {E : Type 0} → List (List ℕ) → List (List ℕ) → Result ℕ E → List ℕ → Type 0
GivesPiece old new result buf = MatchResult result (λ count. new ≡ old ++ take count buf ∷ []) (λ _. new ≡ old)
