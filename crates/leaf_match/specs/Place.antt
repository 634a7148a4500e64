-- What one step of a match sees. No public clause names these.
use Rattle.std.specs.Prelude.{◌≡◌, ◌≢◌, ℕ, ◌+◌, ◌^◌, ◌<◌, ◌≤◌, List, ◌∷◌, ◌++◌, length, drop, Option, MatchOption}
use Rattle.leaf_match.specs.declared.piece.Piece.{Piece}
use Rattle.leaf_match.specs.declared.piece.Piece.TheVariants.{Run}
use Rattle.leaf_match.specs.declared.matching.Place.{Place}
use Rattle.leaf_match.specs.declared.matching.Step.{Step}
use Rattle.leaf_match.specs.declared.matching.Step.TheVariants.{End, RunBegins, Taken, Stuck}
use Rattle.leaf_match.specs.Piece.{StandsFor, Fits}

-- the piece matches a front of the text, and leaves the rest
abbrev pub Takes : Piece → List ℕ → List ℕ → Type 0
Takes piece text rest = (part : List ℕ) × StandsFor piece part × (text ≡ part ++ rest)

-- the place in the text after what the piece takes at a place, or that it takes nothing there
abbrev pub IsBehind : Piece → List ℕ → ℕ → Option ℕ → Type 0
IsBehind piece text at result =
    MatchOption result
    ((rest : List ℕ) → ¬ (Takes piece (drop at text) rest))
    (λ next. (next ≤ length text) × Takes piece (drop at text) (drop next text))

-- the piece at a place, and that a place follows it
abbrev pub IsPieceAt : List Piece → ℕ → Piece → Type 0
IsPieceAt pieces at piece =
    (at + 1 < 2 ^ 64) × (at < length pieces) × (drop at pieces ≡ piece ∷ drop (at + 1) pieces)

-- what the step at a place is
abbrev pub IsStep : List Piece → List ℕ → Place → Step → Type 0
IsStep pieces text place End = Fits (drop place.piece pieces) (drop place.byte text)
IsStep pieces text place RunBegins = IsPieceAt pieces place.piece Run
IsStep pieces text place (Taken byte) =
    (piece : Piece) × (piece ≢ Run) × IsPieceAt pieces place.piece piece × (byte ≤ length text)
    × Takes piece (drop place.byte text) (drop byte text)
IsStep pieces text place Stuck = ¬ (Fits (drop place.piece pieces) (drop place.byte text))
