use Rattle.std.proofs.Common.{◌++◌, map, take, ap, sym, ◌∙◌, append_assoc}
use Rattle.std.specs.Arc.{arc_value}
use Rattle.name_rows.specs.Blocks.{rows_in}
use Rattle.name_rows.proofs.BlockLemmas.{rows_more}
use Rattle.name_rows.proofs.blocks.push_rows.Goals as goal

pub loop-block-preserved : goal.loop-block-preserved
loop-block-preserved g c =
    let blocks = c.args.blocks.now in
    let old = map arc_value c.args.rows.now.items in
    let before = rows_in (map arc_value (take c.loop-block.block-index blocks)) in
    c.in_ok-push_shared.ensures ∙ ap (λ rs. rs ++ map arc_value c.rows.result.now) c.loop-block.invariant
    ∙ ap (λ rs. (old ++ before) ++ rs) (c.rows.ensures ∙ c.deref.ensures)
    ∙ append_assoc old before (arc_value c.block-item.result)
    ∙ ap (λ rs. old ++ rs) (sym (rows_more arc_value blocks c.loop-block.block-index c.block-item.result c.loop-block-test.true c.block-item.is))
