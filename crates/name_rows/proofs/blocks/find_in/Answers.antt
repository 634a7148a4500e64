use Rattle.std.proofs.Common.{map, ap, sym, subst, ◌∙◌, Some}
use Rattle.std.specs.Arc.{arc_value}
use Rattle.name_rows.specs.Rows.{AreSorted, named}
use Rattle.name_rows.proofs.RowLemmas.{named_here, named_before}
use Rattle.name_rows.proofs.BlockLemmas.{block_sorted, named_block, here_within, here_old}
use Rattle.name_rows.proofs.blocks.find_in.Goals as goal

pub place_of-requires : goal.place_of-requires
place_of-requires g c =
    subst (AreSorted g.R.Row.name_of) (sym c.rows_at-rows.ensures)
    (block_sorted g.R.Row.name_of (map arc_value c.args.blocks.now) c.block_of.result c.requires.sorted)

pub row_at-requires : goal.row_at-requires
row_at-requires g c = here_within arc_value g.R.Row.name_of c.args.name.now c.rows_at-rows.result.now c.in-Here.at c.in-Here.ensures

pub returns-in-Here : goal.returns-in-Here
returns-in-Here g c =
    let f = g.R.Row.name_of in
    let name = c.args.name.now in
    let rows = map arc_value c.rows_at-rows.result.now in
    named_block f name (map arc_value c.args.blocks.now) c.block_of.result c.requires.sorted c.block_of.ensures.smaller c.block_of.ensures.greater
    ∙ ap (named f name) (sym c.rows_at-rows.ensures) ∙ named_here f name rows c.in-Here.at c.in-Here.ensures
    ∙ ap (λ row. Some row) (sym (c.row_at.ensures ∙ here_old f name rows c.in-Here.at c.row_at.result.now c.in-Here.ensures))

pub returns-in-Before : goal.returns-in-Before
returns-in-Before g c =
    let f = g.R.Row.name_of in
    let name = c.args.name.now in
    let rows = map arc_value c.rows_at-rows.result.now in
    let sorted = subst (AreSorted f) (sym c.rows_at-rows.ensures) (block_sorted f (map arc_value c.args.blocks.now) c.block_of.result c.requires.sorted) in
    named_block f name (map arc_value c.args.blocks.now) c.block_of.result c.requires.sorted c.block_of.ensures.smaller c.block_of.ensures.greater
    ∙ ap (named f name) (sym c.rows_at-rows.ensures) ∙ named_before f name rows c.in-Before.field-0 sorted c.in-Before.ensures
