-- The code's patterns as contracts see them.
use Rattle.std.specs.Prelude.{ℕ, List, map}
use Rattle.json_text.specs.View.{tree_of}
use Rattle.pattern_meaning.specs.Pattern.{Test, same, prefix, prefix_ignoring_case, suffix, suffix_ignoring_case, equals_ignoring_case}
use Rattle.pattern_meaning.specs.Pattern.{wildcard, anything_but, numeric, cidr, exists, missing, tests_of}
use Rattle.pattern_meaning.specs.Pattern.{Pattern, pattern, Fields, fields_of, Field, tests, below, branches_of}
use Rattle.pattern_meaning.specs.declared.pattern.LeafTest.{LeafTest, fold-LeafTest}
use Rattle.pattern_meaning.specs.declared.pattern.LeafTest.TheOpen.{LeafTest-F}
use Rattle.pattern_meaning.specs.declared.pattern.Pattern.{Pattern as CodePattern, fold-Pattern}
use Rattle.pattern_meaning.specs.declared.pattern.Field.{Field as CodeField, fold-Field}
use Rattle.pattern_meaning.specs.declared.pattern.Field.TheOpen.{Field-F, Pattern-F}

-- one level of a test, with the tests inside already seen
abbrev pub test_step : LeafTest-F Test → Test
test_step (LeafTest-F.Same json) = same (tree_of json)
test_step (LeafTest-F.Prefix t) = prefix t
test_step (LeafTest-F.PrefixIgnoringCase t) = prefix_ignoring_case t
test_step (LeafTest-F.Suffix t) = suffix t
test_step (LeafTest-F.SuffixIgnoringCase t) = suffix_ignoring_case t
test_step (LeafTest-F.EqualsIgnoringCase t) = equals_ignoring_case t
test_step (LeafTest-F.Wildcard w) = wildcard w
test_step (LeafTest-F.AnythingBut v) = anything_but (tests_of v.items)
test_step (LeafTest-F.Numeric v) = numeric v.items
test_step (LeafTest-F.Cidr c) = cidr c
test_step LeafTest-F.Exists = exists
test_step LeafTest-F.Missing = missing

-- a test
abbrev pub test_of : LeafTest → Test
test_of = fold-LeafTest Test test_step

-- one level of a field, with the pattern inside already seen
abbrev pub field_step : Field-F Field Pattern → Field
field_step (Field-F.Tests v) = tests (map test_of v.items)
field_step (Field-F.Below p) = below p

-- one level of a pattern, with each field and branch inside already seen
abbrev pub pattern_step : Pattern-F Field Pattern → Pattern
pattern_step p = pattern (fields_of p.fields.items) (branches_of p.branches.items)

-- the value of a field
abbrev pub field_of : CodeField → Field
field_of = fold-Field Field Pattern field_step pattern_step

-- What contracts see of the code's pattern.
-- Shown by: tables pattern_meaning.rows: a_scalar_is_compared_by_its_spelling.
abbrev pub pattern_of : CodePattern → Pattern
pattern_of = fold-Pattern Field Pattern field_step pattern_step

-- fields, in order
abbrev pub fields_view : List (List ℕ × CodeField) → Fields
fields_view fs = fields_of (map (λ f. (f.0, field_of f.1)) fs)
