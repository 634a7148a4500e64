use Rattle.std.proofs.Common.{[], ◌∷◌, List, Bool, subst, sym}
use Rattle.json_text.specs.View.{tree_of}
use Rattle.pattern_meaning.specs.Holds.{IsMet}
use Rattle.pattern_meaning.specs.PatternView.{test_of}
use Rattle.value_index.specs.Adds.{Adds}
use Rattle.value_index.proofs.HitLemmas.{Every, decided}
use Rattle.value_index.proofs.hits.decide.Goals as goal

pub returns-then-is_met : goal.returns-then-is_met
returns-then-is_met c =
    let leaf = tree_of c.args.scalar.now in
    subst (λ (new : List Bool). Adds Every (c.args.row.now ∷ []) leaf c.args.marks.now new) (sym c.set.ensures)
    (decided c.args.row.now leaf c.args.marks.now c.requires.mark (subst (λ t. IsMet (test_of t) leaf) c.deref.ensures (c.is_met.ensures.0 c.if-is_met.true)))
