use Rattle.std.proofs.Common.{sym, ◌∙◌, option_copied}
use Rattle.pattern_meaning.specs.Frames.{value_of}
use Rattle.pattern_meaning.proofs.QuickLemmas.{test_found, test_passed, tests_done}
use Rattle.pattern_meaning.proofs.quick.tests_meet.Goals as goal

pub returns-then-leaf_meets : goal.returns-then-leaf_meets
returns-then-leaf_meets c =
    test_found (value_of (option_copied c.args.value)) c.args.tests.now c.loop-test.test-index c.test-item.result c.leaf_meets.result
    c.loop-test-test.true c.test-item.is c.leaf_meets.ensures c.if-leaf_meets.true c.loop-test.invariant

pub loop-test-preserved : goal.loop-test-preserved
loop-test-preserved c a at =
    test_passed (value_of (option_copied c.args.value)) c.args.tests.now c.loop-test.test-index c.test-item.result c.leaf_meets.result
    c.loop-test-test.true c.test-item.is (sym c.is_missing.ensures ∙ c.if-is_missing.false) c.leaf_meets.ensures c.if-leaf_meets.false
    a at (c.loop-test.invariant a at)

pub returns : goal.returns
returns c =
    tests_done (value_of (option_copied c.args.value)) c.args.tests.now c.loop-test.test-index c.loop-test-test.false c.loop-test.invariant
