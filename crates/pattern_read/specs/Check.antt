-- What can be wrong with a JSON value that is to be a pattern: one list of checks, in the order of the text. Each has its place, which is
-- the keys from the root to it. A check that does not pass is a fault.
use Rattle.std.specs.Prelude.{◌≡◌, ◌⊎◌, ℕ, Bool, false, ◌&&◌, List, [], ◌∷◌, ◌++◌, Option, Some, None, map, flat_map, if◌then◌else◌, codes}
use Rattle.std.specs.Str.{bytes_eq}
use Rattle.json_text.specs.Tree.{Tree, text, list, object, Items, no_items, item, Members, no_members, member}
use Rattle.leaf_match.specs.Wild.{IsWildcard}
use Rattle.pattern_meaning.specs.Pattern.{Test}
use Rattle.pattern_read.specs.Kind.{named_in}
use Rattle.pattern_read.specs.Test.{IsOperand, texts_in}
use Rattle.json_text.specs.Access.{trees_in}
use Rattle.pattern_read.specs.Value.{is_or, are_branches}
use Rattle.pattern_read.specs.declared.fault.Why.{Why}
use Rattle.pattern_read.specs.declared.fault.Why.TheVariants.{NotObject, EmptyObject, EmptyArray, BadId, BadOr, UnknownTest, BadOperand, BadNumeric, BadCidr}
use Rattle.pattern_read.specs.declared.fault.Why.TheVariants.{BadWildcard}
use Rattle.pattern_read.specs.declared.kind.Kind.{Kind}
use Rattle.pattern_read.specs.declared.kind.Kind.TheVariants.{Prefix, Suffix, EqualsIgnoreCase, Wildcard, AnythingBut, Numeric, Cidr}

-- what is checked: nothing that passes, an operand against the table, a text against the grammar of wildcards
pub data Condition : Type 0 where
  never : Why → Condition
  operand : Kind → Tree → Condition
  wildcard_text : List ℕ → Condition

-- A check passes: an operand is one that its kind allows (`IsOperand`), or a text is a wildcard. A check that is a fault in any case
-- (`never`) does not pass.
-- Shown by: tables pattern_read.rows: tests_that_are_none_are_refused.
abbrev pub Passes : Condition → Type 0
Passes (never why) = ⊥
Passes (operand kind t) = (test : Test) × IsOperand kind t test
Passes (wildcard_text t) = IsWildcard t

-- why the value is refused if the check does not pass
abbrev pub cause_of : Condition → Why
cause_of (never why) = why
cause_of (operand Numeric t) = BadNumeric
cause_of (operand Cidr t) = BadCidr
cause_of (operand _ t) = BadOperand
cause_of (wildcard_text t) = BadWildcard

-- each with the keys from the value to its place
abbrev pub Checks : Type 0
Checks = List (List (List ℕ) × Condition)

-- one check at this place
abbrev pub here : Condition → Checks
here condition = ([], condition) ∷ []

-- a fault at this place
abbrev pub refused : Why → Checks
refused why = here (never why)

-- the checks of the value of a member, with the key before their places
abbrev pub under : List ℕ → Checks → Checks
under key checks = map (λ c. (key ∷ c.0, c.1)) checks

-- Each check of a list passes: there is no fault.
-- Shown by: law faults_decide.
abbrev pub AllPass : Checks → Type 0
AllPass [] = Unit {0}
AllPass (c ∷ checks) = Passes c.1 × AllPass checks

-- The first check of the list that does not pass has this cause and these keys.
-- Shown by: tables pattern_read.rows: the_first_fault_of_the_text_is_reported.
abbrev pub IsFirst : Checks → List (List ℕ) → Why → Type 0
IsFirst [] keys why = ⊥
IsFirst (c ∷ checks) keys why = ((¬ Passes c.1) × (keys ≡ c.0) × (why ≡ cause_of c.1)) ⊎ (Passes c.1 × IsFirst checks keys why)

-- one text of a test in `anything-but`
abbrev pub text_checks : Kind → List ℕ → Checks
text_checks Prefix t = []
text_checks Suffix t = []
text_checks EqualsIgnoreCase t = []
text_checks Wildcard t = here (wildcard_text t)
text_checks _ t = refused BadOperand

-- the texts of a test in `anything-but`, if its operand has texts
abbrev pub texts_checks : Kind → Option (List (List ℕ)) → Checks
texts_checks kind None = refused BadOperand
texts_checks kind (Some texts) = flat_map (text_checks kind) texts

-- an object in `anything-but`
abbrev pub excluded_checks : Option (Kind × Tree) → Checks
excluded_checks None = refused BadOperand
excluded_checks (Some named) = texts_checks named.0 (texts_in named.1)

-- the operand of a kind of test
abbrev pub operand_checks : Kind → Tree → Checks
operand_checks Wildcard (text t) = here (wildcard_text t)
operand_checks AnythingBut (object ms) = excluded_checks (named_in ms)
operand_checks kind t = here (operand kind t)

-- an object among tests
abbrev pub named_checks : Option (Kind × Tree) → Checks
named_checks None = refused UnknownTest
named_checks (Some named) = operand_checks named.0 named.1

-- a value in an array of tests
abbrev pub test_checks : Tree → Checks
test_checks (list items) = refused UnknownTest
test_checks (object ms) = named_checks (named_in ms)
test_checks _ = []

-- an object has a member
abbrev pub no_member_checks : Members → Checks
no_member_checks no_members = refused EmptyObject
no_member_checks (member key t ms) = []

-- a list has a value
abbrev pub no_item_checks : Items → Checks
no_item_checks no_items = refused EmptyArray
no_item_checks (item t items) = []

-- a field of the root, or of a branch of a root `$or`, is not `id`
abbrev pub id_checks : Bool → List ℕ → Checks
id_checks root key = if root && bytes_eq key (codes "id") then refused BadId else []

-- All that can be wrong with a value that is to be a pattern, but for the number of its alternatives, in the order of the text, each with
-- the keys from the root to its place. Of `{"a":1,"b":[]}` there are two: `NotObject` at `a`, and `EmptyArray` at `b`. The truth value is
-- true of the root, and of a branch of a `$or` there.
-- Shown by: tables pattern_read.rows: the_first_fault_of_the_text_is_reported.
abbrev mutual
  pub pattern_checks : Bool → Tree → Checks
  pattern_checks root (object ms) = no_member_checks ms ++ members_checks root ms
  pattern_checks root _ = refused NotObject

  -- each member: `$or`, or a field
  pub members_checks : Bool → Members → Checks
  members_checks root no_members = []
  members_checks root (member key t ms) =
      under key (if is_or key then or_checks root t else (id_checks root key ++ field_checks t)) ++ members_checks root ms

  -- the value of a field
  pub field_checks : Tree → Checks
  field_checks (list items) = no_item_checks items ++ flat_map test_checks (trees_in items)
  field_checks (object ms) = no_member_checks ms ++ members_checks false ms
  field_checks _ = refused NotObject

  -- the value of `$or`
  pub or_checks : Bool → Tree → Checks
  or_checks root (list items) = if are_branches (trees_in items) then branches_checks root items else refused BadOr
  or_checks root _ = refused BadOr

  -- each branch
  pub branches_checks : Bool → Items → Checks
  branches_checks root no_items = []
  branches_checks root (item t items) = pattern_checks root t ++ branches_checks root items
