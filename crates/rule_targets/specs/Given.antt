-- An InputTransformer, as it is given.
use Rattle.std.specs.Prelude.{ℕ, List}

-- The entries of its InputPathsMap, each a key with the text of its path, in their order, and its InputTemplate.
-- Shown by: proofs alone.
pub record Transformer : Type 0 where
  pub paths : List (List ℕ × List ℕ)
  pub template : List ℕ
