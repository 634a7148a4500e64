use Rattle.std.proofs.Common.{ap, sym, refl, ◌∙◌, map}
use Rattle.json_text.specs.View.{tree_of}
use Rattle.pattern_meaning.specs.Pattern.{pattern, branches_of}
use Rattle.pattern_meaning.specs.PatternView.{pattern_of, fields_view}
use Rattle.pattern_meaning.specs.declared.pattern.Pattern.{out-Pattern}
use Rattle.pattern_meaning.proofs.PatternLemmas.{pattern_is}
use Rattle.pattern_meaning.proofs.GatherLemmas.{all_covered, first_todo}
use Rattle.pattern_meaning.proofs.holds.walk_holds.Goals as goal

pub gathered-requires-clause-covered : goal.gathered-requires-clause-covered
gathered-requires-clause-covered c =
    let p = c.args.pattern.now in
    let fs = fields_view c.deref-2.result.now in
    let is = pattern_is p
    ∙ ap (λ l. pattern (fields_view l) (branches_of (map pattern_of (out-Pattern p).branches.items))) (sym c.deref-2.ensures.value)
    ∙ ap (λ l. pattern fs (branches_of (map pattern_of l))) (sym c.deref.ensures.value) in
    all_covered (tree_of c.args.event.now) (pattern_of p) _ _ refl (first_todo c.deref-2.result c.deref.result _ _ _ _ (pattern_of p) refl refl refl refl is)
