use Rattle.std.proofs.Common.{◌≡◌, ◌≤◌, ◌+◌, ◌*◌, min, drop, map}
use Rattle.pattern_meaning.specs.Pattern.{branches_of}
use Rattle.pattern_meaning.specs.PatternView.{pattern_of, fields_view}
use Rattle.pattern_meaning.specs.Alternatives.{field_count, sum_count}
use Rattle.pattern_read.proofs.counting.+count.Given as goal

-- the fields so far and those that are left make the product of all
abbrev pub invariant-count_fields-loop-key : goal.invariant-count_fields-loop-key
invariant-count_fields-loop-key l =
    (l.total ≤ 1001) × (min (l.total * field_count (fields_view (drop l._key-index l.fields))) 1001 ≡ min (field_count (fields_view l.fields)) 1001)

-- the branches so far and those that are left make the sum of all
abbrev pub invariant-count_branches-loop-branch : goal.invariant-count_branches-loop-branch
invariant-count_branches-loop-branch l =
    (l.total ≤ 1001) × (min (l.total + sum_count (branches_of (map pattern_of (drop l.branch-index l.branches)))) 1001
    ≡ min (sum_count (branches_of (map pattern_of l.branches))) 1001)
