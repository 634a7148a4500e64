use Rattle.std.proofs.Common.{◌≡◌, ◌++◌, ◌+◌, ◌-◌, map, take, drop, ap, sym, subst, ◌∙◌}
use Rattle.std.specs.Arc.{arc_value}
use Rattle.name_rows.specs.Rows.{AreSorted, without}
use Rattle.name_rows.specs.Blocks.{rows_in}
use Rattle.name_rows.proofs.RowLemmas.{sorted_without}
use Rattle.name_rows.proofs.BlockLemmas.{block_sorted, without_block, joined_rows, part_mapped}
use Rattle.name_rows.proofs.blocks.without_in.Goals as goal

pub around-requires : goal.around-requires
around-requires g c =
    subst (AreSorted g.R.Row.name_of) (sym c.rows_at.ensures)
    (block_sorted g.R.Row.name_of (map arc_value c.args.blocks.now) c.block_of-at.result c.requires.sorted)

pub returns-clause-rows : goal.returns-clause-rows
returns-clause-rows g c =
    let f = g.R.Row.name_of in
    let name = c.args.name.now in
    let raw = c.args.blocks.now in
    let blocks = map arc_value raw in
    let at = c.block_of-at.result in
    let from = c.first_joined-from.result in
    let next = c.after-next.result in
    let to = c.last_joined-to.result in
    let front = map arc_value c.around.result.0.now in
    let back = map arc_value c.around.result.1.now in
    let first = rows_in (take (at - from) (drop from blocks)) in
    let one : map arc_value c.push_rows.new.rows.items ≡ first =
    c.in_ok-push_rows.ensures ∙ ap (λ rs. map arc_value rs ++ rows_in (map arc_value (take (at - from) (drop from raw)))) c.new-rows.ensures.items
    ∙ ap rows_in (part_mapped arc_value raw from at) in
    let two : map arc_value c.push_shared.new.copies.items ≡ first ++ front = c.in_ok-push_shared.ensures ∙ ap (λ rs. rs ++ front) one in
    let three : map arc_value c.push_shared-2.new.copies.items ≡ (first ++ front) ++ back =
    c.in_ok-push_shared-2.ensures ∙ ap (λ rs. rs ++ back) two in
    let four : map arc_value c.push_rows-2.new.rows.items ≡ ((first ++ front) ++ back) ++ rows_in (take (to - next) (drop next blocks)) =
    c.in_ok-push_rows-2.ensures ∙ ap (λ rs. rs ++ rows_in (map arc_value (take (to - next) (drop next raw)))) three
    ∙ ap (λ bs. ((first ++ front) ++ back) ++ rows_in bs) (part_mapped arc_value raw next to) in
    let block = ap (without f name) (sym c.rows_at.ensures) ∙ c.around.ensures.without in
    c.in_ok-new.ensures.rows
    ∙ joined_rows blocks from at next to front back (map arc_value c.push_rows-2.new.rows.items) c.first_joined-from.ensures
    c.last_joined-to.ensures.from c.after-next.ensures.same four
    ∙ sym (without_block f name blocks at c.requires.sorted c.block_of-at.ensures.smaller c.block_of-at.ensures.greater
    ∙ ap (λ rs. rows_in (take at blocks) ++ (rs ++ rows_in (drop (at + 1) blocks))) block)

pub returns-clause-blocks : goal.returns-clause-blocks
returns-clause-blocks g c = record {
  full = c.in_ok-new.ensures.full;
  sorted = subst (AreSorted g.R.Row.name_of) (sym (returns-clause-rows g c))
      (sorted_without g.R.Row.name_of c.args.name.now (rows_in (map arc_value c.args.blocks.now)) c.requires.sorted);
}
