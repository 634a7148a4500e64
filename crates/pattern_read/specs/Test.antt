-- Which test a value in an array of tests is: the table of comparison operators in the Amazon EventBridge User Guide.
use Rattle.std.specs.Prelude.{◌≡◌, ℕ, Bool, true, false, List, [], ◌∷◌, Option, Some, None, option_map, option_and_then, map, if◌then◌else◌, codes}
use Rattle.std.specs.List.{list_all}
use Rattle.std.specs.Str.{bytes_eq}
use Rattle.json_text.specs.Tree.{Tree, truth, number, text, list, object, no_items, item, Members}
use Rattle.numeric_keys.specs.Number.{IsMillionths}
use Rattle.leaf_match.specs.Wild.{Spells}
use Rattle.leaf_match.specs.Cidr.{Prefix as Network, IsPrefixText}
use Rattle.leaf_match.specs.declared.piece.Piece.{Piece}
use Rattle.pattern_meaning.specs.Pattern.{Test, same, prefix, prefix_ignoring_case, suffix, suffix_ignoring_case, equals_ignoring_case}
use Rattle.pattern_meaning.specs.Pattern.{wildcard, anything_but, numeric, cidr, exists, missing, tests_of}
use Rattle.pattern_meaning.specs.declared.comparison.Comparison.{Comparison}
use Rattle.pattern_meaning.specs.declared.comparison.Operator.{Operator}
use Rattle.pattern_meaning.specs.declared.comparison.Operator.TheVariants as operator
use Rattle.json_text.specs.Access.{is_text, trees_in}
use Rattle.pattern_read.specs.Kind.{named_in}
use Rattle.pattern_read.specs.declared.kind.Kind.{Kind}
use Rattle.pattern_read.specs.declared.kind.Kind.TheVariants.{Prefix, Suffix, EqualsIgnoreCase, Wildcard, AnythingBut, Numeric, Cidr, Exists}

-- the first list's members are, in order, what the second list's are
abbrev pub AreEach : {X Y : Type 0} → (X → Y → Type 0) → List X → List Y → Type 0
AreEach Is [] ys = ys ≡ []
AreEach {X} {Y} Is (x ∷ xs) ys = (y : Y) × (rest : List Y) × (ys ≡ y ∷ rest) × Is x y × AreEach Is xs rest

-- the text of an operand `{"equals-ignore-case": text}`
abbrev pub folded_text : Kind → Tree → Option (List ℕ)
folded_text EqualsIgnoreCase (text t) = Some t
folded_text _ _ = None

-- the same of an object
abbrev pub folded_in : Members → Option (List ℕ)
folded_in ms = option_and_then (λ named. folded_text named.0 named.1) (named_in ms)

-- The rows of `prefix` and `suffix` (a text, or `{"equals-ignore-case": text}`), `equals-ignore-case` (a text) and `exists` (true or
-- false).
-- Shown by: tables pattern_read.rows: each_kind_of_test_is_read.
abbrev pub plain_test : Kind → Tree → Option Test
plain_test Prefix (text t) = Some (prefix t)
plain_test Prefix (object ms) = option_map prefix_ignoring_case (folded_in ms)
plain_test Suffix (text t) = Some (suffix t)
plain_test Suffix (object ms) = option_map suffix_ignoring_case (folded_in ms)
plain_test EqualsIgnoreCase (text t) = Some (equals_ignoring_case t)
plain_test Exists (truth true) = Some exists
plain_test Exists (truth false) = Some missing
plain_test _ _ = None

-- the comparison that a text names
abbrev pub operator_of : List ℕ → Option Operator
operator_of name =
    if bytes_eq name (codes "=") then Some operator.Equal else (
    if bytes_eq name (codes "<") then Some operator.Less else (
    if bytes_eq name (codes "<=") then Some operator.AtMost else (
    if bytes_eq name (codes ">") then Some operator.Greater else (
    if bytes_eq name (codes ">=") then Some operator.AtLeast else None))))

-- an operator and a number that has millionths
abbrev pub IsComparison : Tree → Tree → Comparison → Type 0
IsComparison (text name) (number spelling) c = (operator_of name ≡ Some c.operator) × IsMillionths spelling c.bound
IsComparison _ _ c = ⊥

-- the operand of `numeric`: one comparison or two, of any operators (this project's own rule)
abbrev pub AreComparisons : Tree → List Comparison → Type 0
AreComparisons (list (item a (item b no_items))) cs = (x : Comparison) × IsComparison a b x × (cs ≡ x ∷ [])
AreComparisons (list (item a (item b (item c (item d no_items))))) cs =
    (x y : Comparison) × IsComparison a b x × IsComparison c d y × (cs ≡ x ∷ y ∷ [])
AreComparisons _ cs = ⊥

-- the value is a number
abbrev pub is_number : Tree → Bool
is_number (number spelling) = true
is_number _ = false

-- a list of texts alone or of numbers alone, of which there is one at least
abbrev pub are_alike : List Tree → Bool
are_alike (text t ∷ ts) = list_all is_text ts
are_alike (number spelling ∷ ts) = list_all is_number ts
are_alike _ = false

-- the scalars of `anything-but`: a text, a number, or such a list
abbrev pub scalars_in : Tree → Option (List Tree)
scalars_in (text t) = Some (text t ∷ [])
scalars_in (number spelling) = Some (number spelling ∷ [])
scalars_in (list items) = if are_alike (trees_in items) then Some (trees_in items) else None
scalars_in _ = None

-- the texts of a list of texts
abbrev pub all_texts : List Tree → Option (List (List ℕ))
all_texts [] = Some []
all_texts (text t ∷ ts) = option_map (λ texts. t ∷ texts) (all_texts ts)
all_texts (_ ∷ ts) = None

-- the texts of a test in `anything-but`: one text, or a list of texts, of which there is one at least
abbrev pub texts_in : Tree → Option (List (List ℕ))
texts_in (text t) = Some (t ∷ [])
texts_in (list (item t items)) = all_texts (t ∷ trees_in items)
texts_in _ = None

-- the test of one text in `anything-but`
abbrev pub IsTextTest : Kind → List ℕ → Test → Type 0
IsTextTest Prefix t test = test ≡ prefix t
IsTextTest Suffix t test = test ≡ suffix t
IsTextTest EqualsIgnoreCase t test = test ≡ equals_ignoring_case t
IsTextTest Wildcard t test = (pieces : List Piece) × Spells t pieces × (test ≡ wildcard pieces)
IsTextTest _ t test = ⊥

-- the tests of an object in `anything-but`: one for each text
abbrev pub AreTextTests : Option (Kind × Tree) → List Test → Type 0
AreTextTests None tests = ⊥
AreTextTests (Some named) tests =
    (texts : List (List ℕ)) × (texts_in named.1 ≡ Some texts) × AreEach (IsTextTest named.0) texts tests

-- what `anything-but` excludes: scalars, or what one test of texts holds of
abbrev pub AreExcluded : Tree → List Test → Type 0
AreExcluded (object ms) tests = AreTextTests (named_in ms) tests
AreExcluded operand tests = option_map (map same) (scalars_in operand) ≡ Some tests

-- The test of a kind with its operand, a line for each kind, in the words of leaf_match and numeric_keys. `numeric` has one comparison or
-- two. `anything-but` has a text, a number, a list of texts alone or of numbers alone, or one test of texts.
-- Shown by: tables pattern_read.rows: each_kind_of_test_is_read, tests_that_are_none_are_refused,
-- other_operands_of_anything_but_are_refused.
abbrev pub IsOperand : Kind → Tree → Test → Type 0
IsOperand Wildcard (text t) test = IsTextTest Wildcard t test
IsOperand AnythingBut operand test = (tests : List Test) × AreExcluded operand tests × (test ≡ anything_but (tests_of tests))
IsOperand Numeric operand test = (cs : List Comparison) × AreComparisons operand cs × (test ≡ numeric cs)
IsOperand Cidr (text t) test = (network : Network) × IsPrefixText t network × (test ≡ cidr network)
IsOperand kind operand test = plain_test kind operand ≡ Some test

-- the test of an object among tests
abbrev pub IsNamedTest : Option (Kind × Tree) → Test → Type 0
IsNamedTest None test = ⊥
IsNamedTest (Some named) test = IsOperand named.0 named.1 test

-- The test that a value in a list is. A scalar is the test that the leaf is the same; an object is what its one member names. A list is no
-- test.
-- Shown by: tables pattern_read.rows: tests_that_are_none_are_refused.
abbrev pub IsTest : Tree → Test → Type 0
IsTest (list items) test = ⊥
IsTest (object ms) test = IsNamedTest (named_in ms) test
IsTest scalar test = test ≡ same scalar
