-- Which pattern a JSON value is.
use Rattle.std.specs.Prelude.{◌≡◌, ◌≢◌, ◌⊎◌, ℕ, Bool, true, false, List, [], ◌∷◌, ◌++◌, codes}
use Rattle.std.specs.List.{list_all}
use Rattle.std.specs.Str.{bytes_eq}
use Rattle.json_text.specs.Tree.{Tree, list, object, Items, no_items, item, Members, no_members, member}
use Rattle.pattern_meaning.specs.Pattern.{Test, Pattern, pattern, Field, tests, below, fields_of, branches_of}
use Rattle.pattern_read.specs.Test.{AreEach, IsTest}
use Rattle.json_text.specs.Access.{is_object, trees_in}

-- the object has a member
abbrev pub HasMember : Members → Type 0
HasMember no_members = ⊥
HasMember (member key t ms) = Unit {0}

-- the list has a value
abbrev pub HasItem : Items → Type 0
HasItem no_items = ⊥
HasItem (item t items) = Unit {0}

-- two objects at least, and nothing else
abbrev pub are_branches : List Tree → Bool
are_branches (first ∷ second ∷ others) = list_all is_object (first ∷ second ∷ others)
are_branches _ = false

-- the key is `$or`
abbrev pub is_or : List ℕ → Bool
is_or key = bytes_eq key (codes "$or")

-- The root's fields have no key `id`: an event gets its id only after it was matched (this project's own rule).
abbrev pub MayName : Bool → List ℕ → Type 0
MayName root key = root ≡ true → key ≢ codes "id"

-- an object's pattern: it has a member, and its members make these fields and branches
abbrev pub Makes : Members → (List (List ℕ × Field) → List Pattern → Type 0) → Pattern → Type 0
Makes ms Make p = HasMember ms
    × ((fs : List (List ℕ × Field)) × (bs : List Pattern) × Make fs bs × (p ≡ pattern (fields_of fs) (branches_of bs)))

-- The pattern that a value is: an object with a member. `$or` has at least two branches, each a pattern; each other member is a field,
-- which is a list of at least one test, or a pattern. The truth value says whether the value is the root, or a branch of a `$or` there. If
-- so, no field has the key `id`.
-- Shown by: law faults_decide; tables pattern_read.rows: values_that_are_no_patterns_are_refused.
abbrev mutual
  pub IsPatternOf : Bool → Tree → Pattern → Type 0
  IsPatternOf root (object ms) p = Makes ms (AreMembers root ms) p
  IsPatternOf root _ p = ⊥

  -- `$or` has the branches, and each other member is a field
  pub AreMembers : Bool → Members → List (List ℕ × Field) → List Pattern → Type 0
  AreMembers root no_members fs bs = (fs ≡ []) × (bs ≡ [])
  AreMembers root (member key t ms) fs bs =
      ((mine : List Pattern) × (rest : List Pattern) × (is_or key ≡ true) × IsOr root t mine × AreMembers root ms fs rest × (bs ≡ mine ++ rest))
      ⊎ ((f : Field) × (rest : List (List ℕ × Field)) × (is_or key ≡ false) × MayName root key × IsFieldOf t f × AreMembers root ms rest bs
      × (fs ≡ (key, f) ∷ rest))

  -- a field is a list of tests, of which there is one at least, or a pattern
  pub IsFieldOf : Tree → Field → Type 0
  IsFieldOf (list items) f = HasItem items × ((ts : List Test) × AreEach IsTest (trees_in items) ts × (f ≡ tests ts))
  IsFieldOf (object ms) f = (p : Pattern) × Makes ms (AreMembers false ms) p × (f ≡ below p)
  IsFieldOf _ f = ⊥

  -- `$or` is a list of at least two objects, each a pattern (at least two: this project's own rule)
  pub IsOr : Bool → Tree → List Pattern → Type 0
  IsOr root (list items) bs = (are_branches (trees_in items) ≡ true) × AreBranches root items bs
  IsOr root _ bs = ⊥

  -- each value is a branch
  pub AreBranches : Bool → Items → List Pattern → Type 0
  AreBranches root no_items bs = bs ≡ []
  AreBranches root (item t items) bs = (p : Pattern) × (rest : List Pattern) × (bs ≡ p ∷ rest) × IsPatternOf root t p × AreBranches root items rest

-- a field with a key that it may have
abbrev pub IsNamedField : Bool → List ℕ → Tree → Field → Type 0
IsNamedField root key t f = MayName root key × IsFieldOf t f
