use Rattle.value_index.proofs.MakeLemmas.{entered_more}
use Rattle.value_index.proofs.makes.shared.Goals as goal

pub loop-row-preserved : goal.loop-row-preserved
loop-row-preserved c =
    entered_more c.args.rows.now c.loop-row.row-index c.row-item.result c.loop-row.tests.items c.push.new.self.items c.in_ok-test.test c.loop-row-test.true
    c.row-item.is c.in_ok-push.ensures.items c.in_ok-test.ensures c.loop-row.invariant
