-- What a list of pieces matches.
use Rattle.std.specs.Prelude.{◌≡◌, ℕ, List, [], ◌∷◌, ◌++◌, encode_utf8}
use Rattle.std.specs.Char.{IsScalar}
use Rattle.leaf_match.specs.declared.piece.Piece.{Piece}
use Rattle.leaf_match.specs.declared.piece.Piece.TheVariants.{Letter, Run, OneCharacter}

-- What one piece of a pattern matches: a letter its one byte, a run any bytes, one character the one to four bytes of a Unicode scalar
-- value in UTF-8 (RFC 3629, section 3).
-- Shown by: text_tests test_leaf_match.rt: likes.
abbrev pub StandsFor : Piece → List ℕ → Type 0
StandsFor (Letter byte) bytes = bytes ≡ byte ∷ []
StandsFor Run bytes = Unit {0}
StandsFor OneCharacter bytes = (c : ℕ) × IsScalar c × (bytes ≡ encode_utf8 c)

-- The text can be cut into one part for each piece, in order, so that each part is what its piece matches. `?` fits `é`, and `??` does not.
-- Shown by: text_tests test_leaf_match.rt: likes.
abbrev pub Fits : List Piece → List ℕ → Type 0
Fits [] text = text ≡ []
Fits (piece ∷ pieces) text =
    (part rest : List ℕ) × (text ≡ part ++ rest) × StandsFor piece part × Fits pieces rest
