use Rattle.value_index.proofs.MakeLemmas.{ranges_more}
use Rattle.value_index.proofs.makes.ranges_in.Goals as goal

pub loop-row-preserved : goal.loop-row-preserved
loop-row-preserved c =
    ranges_more c.args.rows.now c.loop-row.row-index c.row-item.result c.loop-row.ranges.items c.add_range.new.ranges.items c.loop-row-test.true c.row-item.is
    c.in_ok-add_range.ensures c.loop-row.invariant
