-- What a pattern of StringLike spells.
use Rattle.std.specs.Prelude.{ℕ, ◌==◌, if◌then◌else◌, List, map}
use Rattle.leaf_match.specs.declared.piece.Piece.{Piece}
use Rattle.leaf_match.specs.declared.piece.Piece.TheVariants.{Letter, Run, OneCharacter}
use Rattle.leaf_match.specs.Wild.{star}

-- the byte of `?`
abbrev pub question : ℕ
question = 63

-- `*` is a run, `?` one character, and any other byte, also a backslash, is itself
abbrev pub like_piece : ℕ → Piece
like_piece byte =
    if byte == star then Run else (if byte == question then OneCharacter else Letter byte)

-- The pieces of a StringLike pattern: `*` is a run, `?` one character, and every other byte, a backslash included, is itself.
-- Shown by: text_tests test_leaf_match.rt: likes.
abbrev pub like_pieces : List ℕ → List Piece
like_pieces pattern = map like_piece pattern
