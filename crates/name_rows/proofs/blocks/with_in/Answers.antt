use Rattle.std.proofs.Common.{◌++◌, ◌+◌, [], map, take, drop, ap, sym, subst, ◌∙◌, refl}
use Rattle.std.specs.Prelude.{All, slice_index_or}
use Rattle.std.specs.Arc.{arc_value}
use Rattle.name_rows.specs.Rows.{AreSorted, placed, replacing}
use Rattle.name_rows.specs.Blocks.{rows_in}
use Rattle.name_rows.specs.Place.{IsSmaller, StartsGreater}
use Rattle.name_rows.proofs.RowLemmas.{sorted_placed}
use Rattle.name_rows.proofs.BlockLemmas.{block_sorted, placed_block}
use Rattle.name_rows.proofs.blocks.with_in.Goals as goal

pub with_row-requires : goal.with_row-requires
with_row-requires g c =
    subst (AreSorted g.R.Row.name_of) (sym c.rows_at.ensures)
    (block_sorted g.R.Row.name_of (map arc_value c.args.blocks.now) c.block_of-at.result c.requires.sorted)

pub returns-clause-rows : goal.returns-clause-rows
returns-clause-rows g c =
    let f = g.R.Row.name_of in
    let blocks = map arc_value c.args.blocks.now in
    let at = c.block_of-at.result in
    let smaller = subst (λ name. All (IsSmaller f name) (rows_in (take at blocks))) c.row_name.ensures c.block_of-at.ensures.smaller in
    let greater = subst (λ name. StartsGreater f name (rows_in (drop (at + 1) blocks))) c.row_name.ensures c.block_of-at.ensures.greater in
    let rows = c.in_ok-rows.ensures ∙ ap (placed f replacing c.args.row) c.rows_at.ensures in
    c.in_ok-new.ensures.rows
    ∙ ap (λ rs. rows_in (take at blocks) ++ (rs ++ rows_in (drop c.after.result blocks))) rows
    ∙ ap (λ bs. rows_in (take at blocks) ++ (placed f replacing c.args.row (slice_index_or blocks at []) ++ rows_in bs)) c.after.ensures.same
    ∙ sym (placed_block f c.args.row blocks at smaller greater)

pub returns-clause-blocks : goal.returns-clause-blocks
returns-clause-blocks g c = record {
  full = c.in_ok-new.ensures.full;
  sorted = subst (AreSorted g.R.Row.name_of) (sym (returns-clause-rows g c))
      (sorted_placed g.R.Row.name_of replacing c.args.row (rows_in (map arc_value c.args.blocks.now)) (λ old. refl) c.requires.sorted);
}
