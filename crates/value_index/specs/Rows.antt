-- For private clauses alone: the rows of an index.
use Rattle.std.specs.Prelude.{ℕ, ℤ, List, Option, Some, None}
use Rattle.std.specs.Arc.{arc_value}
use Rattle.std.specs.declared.sync.Arc.{Arc}
use Rattle.std.specs.declared.alloc.Global.{Global}
use Rattle.pattern_meaning.specs.declared.pattern.LeafTest.{LeafTest}
use Rattle.pattern_meaning.specs.Pattern.{Test, same, prefix, prefix_ignoring_case, suffix, suffix_ignoring_case, equals_ignoring_case}
use Rattle.pattern_meaning.specs.Pattern.{wildcard, anything_but, numeric, cidr, exists, missing}
use Rattle.pattern_meaning.specs.PatternView.{test_of}
use Rattle.pattern_meaning.specs.declared.comparison.Comparison.{Comparison}
use Rattle.value_index.specs.declared.key.Key.{Key}
use Rattle.value_index.specs.declared.row.Row.{Row}
use Rattle.value_index.specs.Hits.{Entry}
use Rattle.value_index.specs.Key.{key_of}
use Rattle.value_index.specs.Range.{range_of}

abbrev pub test_in : Row → Test
test_in row = test_of (arc_value row.test)

abbrev pub key_in : Row → Key
key_in row = key_of (test_in row)

abbrev pub entry_in : Row → Entry
entry_in row = (test_in row, row.mark)

-- the comparisons of a `numeric`
abbrev pub comparisons_of : Test → Option (List Comparison)
comparisons_of (same scalar) = None
comparisons_of (prefix bytes) = None
comparisons_of (prefix_ignoring_case bytes) = None
comparisons_of (suffix bytes) = None
comparisons_of (suffix_ignoring_case bytes) = None
comparisons_of (equals_ignoring_case other) = None
comparisons_of (wildcard pieces) = None
comparisons_of (anything_but ts) = None
comparisons_of (numeric cs) = Some cs
comparisons_of (cidr addresses) = None
comparisons_of exists = None
comparisons_of missing = None

-- the range of a `numeric` with a mark
abbrev pub range_with : ℕ → Option (List Comparison) → Option (ℤ × ℤ × ℕ)
range_with mark None = None
range_with mark (Some cs) = Some ((range_of cs).0, (range_of cs).1, mark)

abbrev pub range_in : Row → Option (ℤ × ℤ × ℕ)
range_in row = range_with row.mark (comparisons_of (test_in row))

-- the row of a test with a mark
abbrev pub row_of : Arc LeafTest Global × ℕ → Row
row_of entered = record { signature = (key_of (test_of (arc_value entered.0))).signature; mark = entered.1; test = entered.0 }
