-- For private clauses alone: blocks of rows.
use Rattle.std.specs.Prelude.{◌≡◌, ◌<◌, ℕ, Bool, true, List, [], ◌∷◌, ◌++◌, length, All}
use Rattle.std.specs.Cmp.Lexicographic.{slice_cmp}
use Rattle.std.specs.Ordering.{nat_cmp, is_le}
use Rattle.name_rows.specs.Rows.{AreSorted}

-- the rows of the blocks, as one list
abbrev pub rows_in : {A : Type 0} → List (List A) → List A
rows_in [] = []
rows_in (block ∷ blocks) = block ++ rows_in blocks

-- the block has a row
abbrev pub IsFull : {A : Type 0} → List A → Type 0
IsFull block = 0 < length block

-- no block is empty, and the rows are in the byte order of their names
pub record AreBlocks {A : Type 0} (name_of : A → List ℕ) (blocks : List (List A)) : Type 0 where
  pub full : All IsFull blocks
  pub sorted : AreSorted name_of (rows_in blocks)

-- the name of the first row is at most this name
abbrev pub starts_by : {A : Type 0} → (A → List ℕ) → List ℕ → List A → Bool
starts_by name_of name [] = true
starts_by name_of name (row ∷ rows) = is_le (slice_cmp nat_cmp (name_of row) name)

-- the new blocks are the old ones, and after them blocks of these rows
pub record Cuts {A : Type 0} (rows : List A) (old new : List (List A)) : Type 0 where
  pub pieces : List (List A)
  pub grown : new ≡ old ++ pieces
  pub same : rows_in pieces ≡ rows
  pub full : All IsFull pieces
