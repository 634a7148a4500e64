use Rattle.rule_automaton.proofs.TableLemmas.{numbered_more}
use Rattle.rule_automaton.proofs.entries.numbered.Goals as goal

pub loop-test-preserved : goal.loop-test-preserved
loop-test-preserved c =
    numbered_more c.args.tests.now c.loop-test.test-index c.test-item.result c.in_ok-test.test c.loop-test.rows.items c.push.new.self.items c.args.number
    c.loop-test-test.true c.test-item.is c.loop-test.invariant c.in_ok-test.ensures c.in_ok-push.ensures.items
