-- For private clauses alone: the place of a name in a list of rows in the byte order of their names.
use Rattle.std.specs.Prelude.{◌≡◌, ℕ, List, [], ◌∷◌, ◌++◌, length, All}
use Rattle.std.specs.Cmp.Lexicographic.{slice_cmp}
use Rattle.std.specs.Ordering.{nat_cmp}
use Rattle.std.specs.declared.cmp.Ordering.TheVariants.{Less, Equal, Greater}
use Rattle.name_rows.specs.declared.place.Place.{Place}
use Rattle.name_rows.specs.declared.place.Place.TheVariants.{Here, Before}

-- the name of the row is smaller than this name
abbrev pub IsSmaller : {A : Type 0} → (A → List ℕ) → List ℕ → A → Type 0
IsSmaller name_of name row = slice_cmp nat_cmp name (name_of row) ≡ Greater

-- the row at this index has the name, and the rows before it have smaller names
pub record IsHere {A : Type 0} (name_of : A → List ℕ) (name : List ℕ) (rows : List A) (place : ℕ) : Type 0 where
  pub front : List A
  pub old : A
  pub back : List A
  pub parts : rows ≡ front ++ old ∷ back
  pub at : length front ≡ place
  pub smaller : All (IsSmaller name_of name) front
  pub same : slice_cmp nat_cmp name (name_of old) ≡ Equal

-- there is no row, or the first one has a greater name
abbrev pub StartsGreater : {A : Type 0} → (A → List ℕ) → List ℕ → List A → Type 0
StartsGreater name_of name [] = Unit {0}
StartsGreater name_of name (row ∷ rows) = slice_cmp nat_cmp name (name_of row) ≡ Less

-- no row has the name: the rows before this index have smaller names, and the row at it, if any, a greater one
pub record IsBefore {A : Type 0} (name_of : A → List ℕ) (name : List ℕ) (rows : List A) (place : ℕ) : Type 0 where
  pub front : List A
  pub back : List A
  pub parts : rows ≡ front ++ back
  pub at : length front ≡ place
  pub smaller : All (IsSmaller name_of name) front
  pub greater : StartsGreater name_of name back

-- the answer is the place of the name
abbrev pub IsPlace : {A : Type 0} → (A → List ℕ) → List ℕ → List A → Place → Type 0
IsPlace name_of name rows (Here place) = IsHere name_of name rows place
IsPlace name_of name rows (Before place) = IsBefore name_of name rows place
