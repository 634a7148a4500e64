use Rattle.std.proofs.Common.{◌≡◌, ◌<◌, arith, length, ℕ, w64, SFits}
use Rattle.std.specs.Prelude.{ℤ}
use Rattle.std.specs.List.{All}
use Rattle.std.proofs.lemmas.List.Sorted.{All-permutation}
use Rattle.std.proofs.lemmas.Bool.Decides.{nat_tests}
use Rattle.std.proofs.lemmas.Int.{to_z-of_z}
use Rattle.numeric_keys.specs.RangeTree.{AddsUnder}
use Rattle.numeric_keys.proofs.RangeLemmas.{adds_hits, adds_no_hits}
use Rattle.numeric_keys.proofs.ranges.Ranges.hits.Goals as goal

pub mark_under-requires-clause-marks : goal.mark_under-requires-clause-marks
mark_under-requires-clause-marks c =
    let P : ℤ × ℤ × ℕ → Type 0 = λ range. range.2 < length c.args.marks.now in
    let given : All P c.self.inside.given.value.items = rw c.self.view_is c.requires in
    rw c.deref.ensures.value
    (All-permutation P c.self.inside.given.value.items c.self.inside.by_low.items c.self.invariant.0 given)

pub returns-then-not-is_empty : goal.returns-then-not-is_empty
returns-then-not-is_empty c =
    let fits : SFits w64 c.args.value = c.ranges.value in
    let walked : AddsUnder c.deref.result.now 1 c.args.value c.args.marks.now c.mark_under.new.marks = simp to_z-of_z at c.mark_under.ensures in
    rw (← c.self.view_is)
    (adds_hits c.self.inside.given.value.items c.self.inside.by_low.items c.args.value c.args.marks.now c.mark_under.new.marks c.self.invariant.0
    (rw c.deref.ensures.value at walked))

pub returns-else-not-is_empty : goal.returns-else-not-is_empty
returns-else-not-is_empty c =
    let empty : length c.self.inside.by_low.items ≡ 0 = grind (arith, nat_tests) in
    rw (← c.self.view_is)
    (adds_no_hits c.self.inside.given.value.items c.self.inside.by_low.items c.args.value c.args.marks.now c.self.invariant.0 empty)
