-- A pattern holds of a JSON value.
use Rattle.std.specs.Prelude.{◌≡◌, ℕ, ℤ, ◌<ℤ◌, ◌≤ℤ◌, List, [], ◌∷◌, ◌++◌, ◌⊎◌, Some, None, Any, All}
use Rattle.json_text.specs.Tree.{Tree, number, text}
use Rattle.leaf_match.specs.AsciiCase.{StartsCi, EndsCi, EqualCi}
use Rattle.leaf_match.specs.Piece.{Fits}
use Rattle.leaf_match.specs.Cidr as address
use Rattle.numeric_keys.specs.Number.{IsMillionths}
use Rattle.pattern_meaning.specs.declared.comparison.Operator.{Operator}
use Rattle.pattern_meaning.specs.declared.comparison.Operator.TheVariants.{Equal, Less, AtMost, Greater, AtLeast}
use Rattle.pattern_meaning.specs.Pattern.{Test, same, prefix, prefix_ignoring_case, suffix, suffix_ignoring_case, equals_ignoring_case}
use Rattle.pattern_meaning.specs.Pattern.{wildcard, anything_but, numeric, cidr, exists, missing, Tests, no_tests, test}
use Rattle.pattern_meaning.specs.Pattern.{Pattern, pattern, Fields, no_fields, field, Field, tests, below, Branches, no_branches, branch}
use Rattle.pattern_meaning.specs.View.{IsView, leaf_at}

-- Two scalars are the same; numbers are compared by their spelling, so `1` is not `1.0` (this project's own rule).
-- Shown by: tables pattern_meaning.rows: a_scalar_is_compared_by_its_spelling.
abbrev pub IsSame : Tree → Tree → Type 0
IsSame a b = a ≡ b

-- the leaf is a string for which the fact holds
abbrev pub OnText : (List ℕ → Type 0) → Tree → Type 0
OnText holds leaf = (t : List ℕ) × (leaf ≡ text t) × holds t

-- A number, in millionths, meets a comparison with a bound.
-- Shown by: tables pattern_meaning.rows: all_comparisons_are_required.
abbrev pub Compares : Operator → ℤ → ℤ → Type 0
Compares Equal n m = n ≡ m
Compares Less n m = n <ℤ m
Compares AtMost n m = n ≤ℤ m
Compares Greater n m = m <ℤ n
Compares AtLeast n m = m ≤ℤ n

-- A leaf meets a test: a line for each kind, in the words of leaf_match and numeric_keys. `anything_but` is met by each leaf that meets
-- none of its tests, whether it is a string or not. `missing` is met by no leaf.
-- Shown by: tables pattern_meaning.rows: a_front_is_a_front, an_end_is_an_end, a_wildcard_fits, an_address_has_the_first_bits.
abbrev mutual
  pub IsMet : Test → Tree → Type 0
  IsMet (same scalar) leaf = IsSame scalar leaf
  IsMet (prefix front) leaf = OnText (λ t. (rest : List ℕ) × (t ≡ front ++ rest)) leaf
  IsMet (prefix_ignoring_case front) leaf = OnText (λ t. StartsCi t front) leaf
  IsMet (suffix end) leaf = OnText (λ t. (rest : List ℕ) × (t ≡ rest ++ end)) leaf
  IsMet (suffix_ignoring_case end) leaf = OnText (λ t. EndsCi t end) leaf
  IsMet (equals_ignoring_case other) leaf = OnText (λ t. EqualCi t other) leaf
  IsMet (wildcard pieces) leaf = OnText (Fits pieces) leaf
  IsMet (anything_but ts) leaf = ¬ (IsMetBySome ts leaf)
  IsMet (numeric cs) leaf =
      (t : List ℕ) × (m : ℤ) × (leaf ≡ number t) × IsMillionths t m × All (λ c. Compares c.operator m c.bound) cs
  IsMet (cidr network) leaf = OnText (address.Holds network) leaf
  IsMet exists leaf = Unit {0}
  IsMet missing leaf = ⊥

  -- the leaf meets one of the tests
  pub IsMetBySome : Tests → Tree → Type 0
  IsMetBySome no_tests leaf = ⊥
  IsMetBySome (test t ts) leaf = IsMet t leaf ⊎ IsMetBySome ts leaf

-- No view of the whole event has a leaf at the path. `a.b` is absent from `{"a":{"b":[]}}` and not from `{"a":[{"c":1},{"b":1}]}`.
-- Shown by: tables pattern_meaning.rows: a_missing_leaf_is_missing_in_all_views.
abbrev pub IsAbsent : Tree → List (List ℕ) → Type 0
IsAbsent event path = (view : Tree) → IsView event view → leaf_at path view ≡ None

-- A test holds at a path of a view of the event: the leaf at the path meets it; or the test is `exists: false`, and no view of the event
-- has a leaf at the path.
-- Shown by: tables pattern_meaning.rows: a_leaf_exists, a_missing_leaf_is_missing_in_all_views.
abbrev pub TestHolds : Tree → List (List ℕ) → Tree → Test → Type 0
TestHolds event path view t = ((leaf : Tree) × (leaf_at path view ≡ Some leaf) × IsMet t leaf) ⊎ ((t ≡ missing) × IsAbsent event path)

-- On one view of the event, below a path: each field has a test that holds at its path, or a pattern that holds from there; and of the
-- branches, if there are any, one holds on the same view.
-- Shown by: tables pattern_meaning.rows: a_field_and_a_branch_speak_of_one_member.
abbrev mutual
  pub HoldsOnView : Pattern → Tree → List (List ℕ) → Tree → Type 0
  HoldsOnView (pattern fs bs) event path view = FieldsHold fs event path view × BranchesHold bs event path view

  pub FieldsHold : Fields → Tree → List (List ℕ) → Tree → Type 0
  FieldsHold no_fields event path view = Unit {0}
  FieldsHold (field key f fs) event path view = FieldHolds f event (path ++ key ∷ []) view × FieldsHold fs event path view

  pub FieldHolds : Field → Tree → List (List ℕ) → Tree → Type 0
  FieldHolds (tests ts) event path view = Any (TestHolds event path view) ts
  FieldHolds (below p) event path view = HoldsOnView p event path view

  pub BranchesHold : Branches → Tree → List (List ℕ) → Tree → Type 0
  BranchesHold no_branches event path view = Unit {0}
  BranchesHold (branch p bs) event path view = HoldsOnView p event path view ⊎ SomeHolds bs event path view

  -- one of the branches holds
  pub SomeHolds : Branches → Tree → List (List ℕ) → Tree → Type 0
  SomeHolds no_branches event path view = ⊥
  SomeHolds (branch p bs) event path view = HoldsOnView p event path view ⊎ SomeHolds bs event path view

-- Some view of the whole value satisfies the pattern. `{"a":{"b":[1],"c":[2]}}` does not hold of `{"a":[{"b":1},{"c":2}]}`, and holds of
-- `{"a":[{"b":1,"c":2}]}`.
-- Shown by: tables pattern_meaning.rows: two_fields_need_one_member_of_a_list; tables pattern_read.rows:
-- patterns_hold_of_events.
abbrev pub PatternHolds : Pattern → Tree → Type 0
PatternHolds p event = (view : Tree) × IsView event view × HoldsOnView p event [] view
