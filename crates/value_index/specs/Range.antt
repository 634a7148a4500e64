-- For private clauses alone: the comparisons of `numeric` as one range.
use Rattle.std.specs.Prelude.{ℤ, pos, ◌+ℤ◌, ◌-ℤ◌, neg_ℤ, List}
use Rattle.std.specs.Int.{int_max, int_min}
use Rattle.std.specs.List.{fold}
use Rattle.numeric_keys.specs.Number.{largest_size}
use Rattle.pattern_meaning.specs.declared.comparison.Operator.{Operator}
use Rattle.pattern_meaning.specs.declared.comparison.Operator.TheVariants.{Equal, Less, AtMost, Greater, AtLeast}
use Rattle.pattern_meaning.specs.declared.comparison.Comparison.{Comparison}

-- the least and the greatest number of millionths
abbrev pub least : ℤ
least = neg_ℤ (pos largest_size)

abbrev pub greatest : ℤ
greatest = pos largest_size

abbrev pub narrowed_by : Operator → ℤ → ℤ × ℤ → ℤ × ℤ
narrowed_by Equal bound range = (int_max range.0 bound, int_min range.1 bound)
narrowed_by Less bound range = (range.0, int_min range.1 (int_max bound least -ℤ pos 1))
narrowed_by AtMost bound range = (range.0, int_min range.1 bound)
narrowed_by Greater bound range = (int_max range.0 (int_min bound greatest +ℤ pos 1), range.1)
narrowed_by AtLeast bound range = (int_max range.0 bound, range.1)

-- the numbers of a range that meet a comparison too
abbrev pub narrowed : ℤ × ℤ → Comparison → ℤ × ℤ
narrowed range c = narrowed_by c.operator c.bound range

-- the numbers that meet all comparisons; the first end is above the second if there is none
abbrev pub range_of : List Comparison → ℤ × ℤ
range_of comparisons = fold narrowed (least, greatest) comparisons
