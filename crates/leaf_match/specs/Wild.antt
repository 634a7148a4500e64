-- How a wildcard's text spells its pieces. If the Amazon EventBridge User Guide is silent, this is the project's own rule.
use Rattle.std.specs.Prelude.{◌≡◌, ◌≢◌, ℕ, ◌||◌, ◌==◌, if◌then◌else◌, List, [], ◌∷◌, ◌++◌, Some, slice_get}
use Rattle.leaf_match.specs.declared.piece.Piece.{Piece}
use Rattle.leaf_match.specs.declared.piece.Piece.TheVariants.{Letter, Run, OneCharacter}

-- the byte of `*`, and that of `\`
abbrev pub star : ℕ
star = 42

abbrev pub backslash : ℕ
backslash = 92

-- a letter's spelling: a backslash before `*` and `\`, any other byte as itself
abbrev pub escaped : ℕ → List ℕ
escaped byte =
    if (byte == star) || (byte == backslash) then backslash ∷ byte ∷ [] else byte ∷ []

-- The text is the piece's spelling and then the rest. A run is a `*` with no other `*` after it.
abbrev pub BeginsWith : Piece → List ℕ → List ℕ → Type 0
BeginsWith (Letter byte) text rest = text ≡ escaped byte ++ rest
BeginsWith Run text rest = (text ≡ star ∷ rest) × (slice_get rest 0 ≢ Some star)
BeginsWith OneCharacter text rest = ⊥

-- The wildcard's text spells these pieces: `*` without another `*` after it is a run; `\*` and `\\` are letters; any other byte, `?`
-- included, is itself. `a**b`, `a\b` and a backslash at the end spell nothing.
-- Shown by: text_tests test_leaf_match.rt: fronts.
abbrev pub Spells : List ℕ → List Piece → Type 0
Spells text [] = text ≡ []
Spells text (piece ∷ pieces) = (rest : List ℕ) × BeginsWith piece text rest × Spells rest pieces

-- The letters before the first piece that is no letter.
-- Shown by: text_tests test_leaf_match.rt: fronts.
abbrev pub literal_front : List Piece → List ℕ
literal_front [] = []
literal_front (Letter byte ∷ pieces) = byte ∷ literal_front pieces
literal_front (Run ∷ pieces) = []
literal_front (OneCharacter ∷ pieces) = []

-- The text spells some pieces.
-- Shown by: text_tests test_leaf_match.rt: fronts.
abbrev pub IsWildcard : List ℕ → Type 0
IsWildcard text = (pieces : List Piece) × Spells text pieces
