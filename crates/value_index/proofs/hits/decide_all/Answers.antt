use Rattle.std.proofs.Common.{[], ◌∷◌, subst, arith}
use Rattle.json_text.specs.View.{tree_of}
use Rattle.value_index.specs.declared.row.Row.{Row}
use Rattle.value_index.specs.Adds.{Adds}
use Rattle.value_index.proofs.HitLemmas.{Every, adds_more}
use Rattle.value_index.proofs.hits.decide_all.Goals as goal

pub loop-row-preserved : goal.loop-row-preserved
loop-row-preserved c =
    let row = c.row-item.result in
    let leaf = tree_of c.args.scalar.now in
    adds_more c.args.rows.now c.loop-row.row-index row leaf c.args.marks.now c.loop-row.marks c.decide.new.marks (omega (arith, c.loop-row-test.true))
    c.loop-row.invariant (subst (λ (r : Row). Adds Every (r ∷ []) leaf c.loop-row.marks c.decide.new.marks) c.row-item.is c.decide.ensures)
