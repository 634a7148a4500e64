use Rattle.std.proofs.Common.{◌≤◌, length, map, ap, ◌∙◌, arith, refl}
use Rattle.std.specs.Arc.{arc_value}
use Rattle.std.proofs.lemmas.List.{length-map}
use Rattle.name_rows.specs.Blocks.{rows_in}
use Rattle.name_rows.proofs.BlockLemmas.{counted_more, counted_within}
use Rattle.name_rows.proofs.blocks.reach.Goals as goal

pub returns-then-left-rows : goal.returns-then-left-rows
returns-then-left-rows g c =
    let i = c.loop-block.block-index in
    let all = counted_within arc_value c.args.blocks.now i c.block-item.result c.loop-block-test.true c.block-item.is in
    let rows = ap length (c.rows-rows.ensures ∙ c.deref.ensures) in
    let same = length-map c.rows-rows.result.now arc_value in
    let so_far = c.loop-block.invariant in
    let few = c.if-left-rows.true in
    let within : c.args.count ≤ length (rows_in (map arc_value c.args.blocks.now)) = omega (arith, all, rows, same, so_far, few) in
    (λ _. within, λ _. refl)

pub loop-block-preserved : goal.loop-block-preserved
loop-block-preserved g c =
    let i = c.loop-block.block-index in
    let more = counted_more arc_value c.args.blocks.now i c.block-item.result c.loop-block-test.true c.block-item.is in
    let rows = ap length (c.rows-rows.ensures ∙ c.deref.ensures) in
    let same = length-map c.rows-rows.result.now arc_value in
    let so_far = c.loop-block.invariant in
    let many = c.if-left-rows.false in
    omega (arith, more, rows, same, so_far, many)
