-- A pattern as contracts see it.
use Rattle.std.specs.Prelude.{◌≢◌, ℕ, List, [], ◌∷◌}
use Rattle.json_text.specs.Tree.{Tree}
use Rattle.leaf_match.specs.Cidr.{Prefix}
use Rattle.leaf_match.specs.declared.piece.Piece.{Piece}
use Rattle.pattern_meaning.specs.declared.comparison.Comparison.{Comparison}

-- A test of a leaf: a constructor for each kind of test of the Amazon EventBridge User Guide. `prefix`, `suffix` and `equals-ignore-case`
-- have a text; the first two may ignore the case of ASCII letters. `anything-but` has the tests that the leaf must not meet. The
-- comparisons of `numeric` are all required. `missing` is `exists: false`.
-- Shown by: tables pattern_meaning.rows: anything_but_needs_a_leaf, all_comparisons_are_required.
mutual
  pub data Test : Type 0 where
    same : Tree → Test
    prefix : List ℕ → Test
    prefix_ignoring_case : List ℕ → Test
    suffix : List ℕ → Test
    suffix_ignoring_case : List ℕ → Test
    equals_ignoring_case : List ℕ → Test
    wildcard : List Piece → Test
    anything_but : Tests → Test
    numeric : List Comparison → Test
    cidr : Prefix → Test
    exists : Test
    missing : Test

  pub data Tests : Type 0 where
    no_tests : Tests
    test : Test → Tests → Tests

-- A pattern is its fields, in order, all required, and the branches of its `$or`, one of them required; without `$or` it has no branches. A
-- field has a key, and tests, one of which is enough, or a pattern.
-- Shown by: tables pattern_meaning.rows: a_field_and_a_branch_speak_of_one_member.
mutual
  pub data Pattern : Type 0 where
    pattern : Fields → Branches → Pattern

  pub data Fields : Type 0 where
    no_fields : Fields
    field : List ℕ → Field → Fields → Fields

  pub data Field : Type 0 where
    tests : List Test → Field
    below : Pattern → Field

  pub data Branches : Type 0 where
    no_branches : Branches
    branch : Pattern → Branches → Branches

-- lists as they are declared above
abbrev pub tests_of : List Test → Tests
tests_of [] = no_tests
tests_of (t ∷ ts) = test t (tests_of ts)

abbrev pub fields_of : List (List ℕ × Field) → Fields
fields_of [] = no_fields
fields_of (f ∷ fs) = field f.0 f.1 (fields_of fs)

abbrev pub branches_of : List Pattern → Branches
branches_of [] = no_branches
branches_of (p ∷ ps) = branch p (branches_of ps)

-- no field has the key
abbrev pub LacksField : List ℕ → Fields → Type 0
LacksField key no_fields = Unit {0}
LacksField key (field k f fs) = (key ≢ k) × LacksField key fs

-- What a reader of patterns accepts: in the pattern, and in each pattern inside it, the keys of the fields are distinct.
-- Shown by: tables pattern_read.rows: texts_that_are_no_json_are_refused.
abbrev mutual
  pub IsPattern : Pattern → Type 0
  IsPattern (pattern fs bs) = AreFields fs × AreBranches bs

  pub AreFields : Fields → Type 0
  AreFields no_fields = Unit {0}
  AreFields (field key f fs) = LacksField key fs × IsField f × AreFields fs

  pub IsField : Field → Type 0
  IsField (tests ts) = Unit {0}
  IsField (below p) = IsPattern p

  pub AreBranches : Branches → Type 0
  AreBranches no_branches = Unit {0}
  AreBranches (branch p bs) = IsPattern p × AreBranches bs

-- No field of the root has this key, and no field of a branch of the root's `$or`. A `$or` in such a branch counts as the root's.
-- Shown by: tables pattern_read.rows: values_that_are_no_patterns_are_refused.
abbrev mutual
  pub LacksRoot : List ℕ → Pattern → Type 0
  LacksRoot key (pattern fs bs) = LacksField key fs × LackRoot key bs

  pub LackRoot : List ℕ → Branches → Type 0
  LackRoot key no_branches = Unit {0}
  LackRoot key (branch p bs) = LacksRoot key p × LackRoot key bs
