use Rattle.std.proofs.Common.{◌+◌, ◌++◌, map, drop, ap, sym, subst, ◌∙◌}
use Rattle.std.specs.Prelude.{All}
use Rattle.std.specs.Arc.{arc_value}
use Rattle.std.proofs.lemmas.List.Elements.{All-drop}
use Rattle.name_rows.specs.Rows.{AreSorted, from_name}
use Rattle.name_rows.specs.Blocks.{IsFull, rows_in}
use Rattle.name_rows.proofs.BlockLemmas.{block_sorted, from_block}
use Rattle.name_rows.proofs.blocks.from_in.Goals as goal

pub since-requires : goal.since-requires
since-requires g c =
    subst (AreSorted g.R.Row.name_of) (sym c.rows_at.ensures)
    (block_sorted g.R.Row.name_of (map arc_value c.args.blocks.now) c.block_of-at.result c.requires.sorted)

pub invariant_of-result : goal.invariant_of-result
invariant_of-result g c =
    subst (All IsFull) (sym c.blocks_after.ensures) (All-drop IsFull (c.block_of-at.result + 1) (map arc_value c.args.blocks.now) c.requires.full)

pub returns : goal.returns
returns g c =
    let f = g.R.Row.name_of in
    let name = c.args.name.now in
    let blocks = map arc_value c.args.blocks.now in
    let rest = rows_in (drop (c.block_of-at.result + 1) blocks) in
    ap (λ bs. map arc_value c.since.result.now ++ rows_in bs) c.blocks_after.ensures
    ∙ sym (c.since.ensures rest c.block_of-at.ensures.greater)
    ∙ ap (λ rs. from_name f name (rs ++ rest)) c.rows_at.ensures
    ∙ sym (from_block f name blocks c.block_of-at.result c.block_of-at.ensures.smaller)
