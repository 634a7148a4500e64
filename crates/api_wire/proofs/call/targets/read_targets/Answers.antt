use Rattle.std.proofs.Common.{◌+◌, ◌∷◌, [], drop, sym, refl, ap, ◌∙◌, subst, append-nil}
use Rattle.std.proofs.lemmas.List.{at_drop_more, at_drop_all}
use Rattle.json_text.specs.View.{tree_of, trees_of}
use Rattle.api_wire.specs.Call.{IsTargetWith, AreTargets}
use Rattle.api_wire.proofs.TargetLemmas.{Completes, read_more}
use Rattle.api_wire.proofs.call.targets.read_targets.Goals as goal

pub loop-value-preserved : goal.loop-value-preserved
loop-value-preserved c =
    let xs = c.args.values.now in
    let i = c.loop-value.value-index in
    let left = at_drop_more (λ l. trees_of l) xs i c.value-item.result c.loop-value-test.true
    ∙ ap (λ y. tree_of y ∷ trees_of (drop (i + 1) xs)) (sym c.value-item.is) in
    let before = subst (λ l. Completes (trees_of xs) l c.loop-value.targets.items) left c.loop-value.invariant in
    let one = subst (λ ms. IsTargetWith ms c.in_ok-target.target) c.members_in.ensures c.in_ok-target.ensures in
    let after = read_more (trees_of xs) (trees_of (drop (i + 1) xs)) (tree_of c.value-item.result) c.loop-value.targets.items c.in_ok-target.target before one in
    rw c.in_ok-push.ensures.items after

pub returns : goal.returns
returns c =
    let xs = c.args.values.now in
    let left = at_drop_all (λ l. trees_of l) xs c.loop-value.value-index c.loop-value-test.false in
    let done = subst (λ l. Completes (trees_of xs) l c.loop-value.targets.items) left c.loop-value.invariant in
    subst (AreTargets (trees_of xs)) (append-nil c.loop-value.targets.items) (done [] refl)
