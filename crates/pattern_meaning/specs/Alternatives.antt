-- A pattern as a choice between lists of parts: its alternatives.
use Rattle.std.specs.Prelude.{ℕ, ◌+◌, ◌*◌, List, [], ◌∷◌, ◌++◌, map, flat_map, Any, All}
use Rattle.json_text.specs.Tree.{Tree}
use Rattle.pattern_meaning.specs.Pattern.{Test, Pattern, pattern, Fields, no_fields, field, Field, tests, below, Branches, no_branches, branch}
use Rattle.pattern_meaning.specs.Holds.{TestHolds}

-- a part: a path, and the tests of which one has to hold there
abbrev pub Part : Type 0
Part = List (List ℕ) × List Test

-- each of the first before each of the second
abbrev pub paired : List (List Part) → List (List Part) → List (List Part)
paired firsts seconds = flat_map (λ first. map (λ second. first ++ second) seconds) firsts

-- A pattern as a choice between lists of parts, each a path and tests of which one has to hold. Tests are one part; an alternative of an
-- object joins one alternative of each member; the alternatives of `$or` are those of its branches.
-- Shown by: law alternatives_decide.
abbrev mutual
  pub alternatives : Pattern → List (List ℕ) → List (List Part)
  alternatives (pattern fs bs) path = paired (of_fields fs path) (of_branches bs path)

  pub of_fields : Fields → List (List ℕ) → List (List Part)
  of_fields no_fields path = [] ∷ []
  of_fields (field key f fs) path = paired (of_field f (path ++ key ∷ [])) (of_fields fs path)

  pub of_field : Field → List (List ℕ) → List (List Part)
  of_field (tests ts) path = ((path, ts) ∷ []) ∷ []
  of_field (below p) path = alternatives p path

  pub of_branches : Branches → List (List ℕ) → List (List Part)
  of_branches no_branches path = [] ∷ []
  of_branches (branch p bs) path = alternatives p path ++ of_some bs path

  pub of_some : Branches → List (List ℕ) → List (List Part)
  of_some no_branches path = []
  of_some (branch p bs) path = alternatives p path ++ of_some bs path

-- How many alternatives a pattern has: of an object the product of its members, of `$or` the sum of its branches.
-- Shown by: law alternatives_decide.
abbrev mutual
  pub alternative_count : Pattern → ℕ
  alternative_count (pattern fs bs) = field_count fs * branch_count bs

  pub field_count : Fields → ℕ
  field_count no_fields = 1
  field_count (field key f fs) = one_count f * field_count fs

  pub one_count : Field → ℕ
  one_count (tests ts) = 1
  one_count (below p) = alternative_count p

  pub branch_count : Branches → ℕ
  branch_count no_branches = 1
  branch_count (branch p bs) = alternative_count p + sum_count bs

  pub sum_count : Branches → ℕ
  sum_count no_branches = 0
  sum_count (branch p bs) = alternative_count p + sum_count bs

-- on a view of the event one of the tests of the part holds at its path
abbrev pub PartHolds : Tree → Tree → Part → Type 0
PartHolds event view part = Any (TestHolds event part.0 view) part.1

-- All parts of one alternative hold on a view of the event.
-- Shown by: law alternatives_decide.
abbrev pub AlternativeHolds : Pattern → Tree → Tree → Type 0
AlternativeHolds p event view = Any (All (PartHolds event view)) (alternatives p [])
