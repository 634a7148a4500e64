use Rattle.std.proofs.Common.{◌-◌, ◌*◌, ◌+◌, length, get_or, arith, refl, w64, SFits}
use Rattle.std.specs.Prelude.{◌≤ℤ◌}
use Rattle.std.proofs.lemmas.Int.{ints, to_z-of_z}
use Rattle.numeric_keys.specs.RangeTree.{AddsUnder, no_range, no_span}
use Rattle.numeric_keys.proofs.RangeLemmas.{leaf_hit, leaf_missed, adds_both, adds_none, hit_in_inner_span}
use Rattle.numeric_keys.proofs.ranges.+mark_under.Goals as goal
use Rattle.numeric_keys.proofs.ranges.+mark_under.Goals.{else-low-value-via-then-low-value+else-value-high, else-low-value-via-else-low-value}
use Rattle.numeric_keys.proofs.ranges.+mark_under.Goals.{else-span-value-via-then-span-value+else-value-span, else-span-value-via-else-span-value}

pub returns-then-value-high : goal.returns-then-value-high
returns-then-value-high t c =
    let range = get_or c.args.ranges.now (c.args.node - length c.args.ranges.now) no_range in
    let low : range.0 ≤ℤ c.args.value = grind (arith, ints) in
    let high : c.args.value ≤ℤ range.1 = grind (arith, ints) in
    rw c.set.ensures
    (leaf_hit c.args.ranges.now c.args.node c.args.value c.args.marks.now range c.if-node-ranges.true c.requires.node refl
    (c.requires.marks (c.args.node - length c.args.ranges.now) no_range (omega arith)) low high)

pub returns-else-low-value : goal.returns-else-low-value
returns-else-low-value t c =
    leaf_missed c.args.ranges.now c.args.node c.args.value c.args.marks.now c.if-node-ranges.true
    (λ held.
    let range = get_or c.args.ranges.now (c.args.node - length c.args.ranges.now) no_range in
    let low : range.0 ≤ℤ c.args.value = held.0 in
    let high : c.args.value ≤ℤ range.1 = held.1 in
    elim c.else-low-value.branch [
      | else-low-value-via-then-low-value+else-value-high w ↦
          grind (arith, ints)
      | else-low-value-via-else-low-value w ↦ grind (arith, ints)
    ])

pub returns-then-value-span : goal.returns-then-value-span
returns-then-value-span t c =
    let fits : SFits w64 c.args.value = c.ranges.value in
    let first : AddsUnder c.args.ranges.now
    (2 * c.args.node) c.args.value c.args.marks.now c.mark_under.new.marks =
    simp to_z-of_z at c.mark_under.ensures in
    let second : AddsUnder c.args.ranges.now
    (2 * c.args.node + 1) c.args.value c.mark_under.new.marks c.mark_under-then-value-span.new.marks = simp to_z-of_z at c.mark_under-then-value-span.ensures in
    adds_both c.args.ranges.now c.args.node c.args.value c.args.marks.now c.mark_under.new.marks c.mark_under-then-value-span.new.marks c.if-node-ranges.false
    first second

pub returns-else-span-value : goal.returns-else-span-value
returns-else-span-value t c =
    adds_none c.args.ranges.now c.args.node c.args.value c.args.marks.now (λ mark h.
    let span = get_or c.args.spans.now c.args.node no_span in
    let held = hit_in_inner_span c.args.ranges.now c.args.spans.now c.args.node c.args.value mark c.requires.tree c.requires.root c.if-node-ranges.false h in
    let low : span.least ≤ℤ c.args.value = held.0 in
    let high : c.args.value ≤ℤ span.greatest = held.1 in
    elim c.else-span-value.branch [
      | else-span-value-via-then-span-value+else-value-span w ↦
          grind (arith, ints)
      | else-span-value-via-else-span-value w ↦ grind (arith, ints)
    ])
