use Rattle.std.proofs.Common.{ap, ◌∙◌}
use Rattle.pattern_meaning.specs.PatternView.{test_of}
use Rattle.value_index.specs.Key.{key_of}
use Rattle.value_index.proofs.MakeLemmas.{listed_more}
use Rattle.value_index.proofs.makes.lengths_of.Goals as goal

pub loop-row-preserved : goal.loop-row-preserved
loop-row-preserved c =
    listed_more c.loop-row.lengths c.add.new.self c.args.rows.now c.loop-row.row-index c.row-item.result c.key_of.result c.loop-row-test.true
    c.in_ok-add.ensures.grown (c.key_of.ensures ∙ ap (λ t. key_of (test_of t)) c.deref.ensures) c.row-item.is c.in_ok-add.ensures.listed c.loop-row.invariant
