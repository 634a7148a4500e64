use Rattle.std.proofs.Common.{rules, ◌≡◌, ◌∙◌, true, false, List, [], ◌∷◌, ◌++◌, sym, ap}
use Rattle.std.specs.Str.{bytes_eq}
use Rattle.rule_targets.specs.declared.target.Target.{Target}
use Rattle.router_calls.proofs.RemovalLemmas.{without_keep, without_drop}
use Rattle.router_calls.proofs.remove_targets.without_target.Goals as goal

pub loop-target-preserved-in-Continue-branch-2 : goal.loop-target-preserved-in-Continue-branch-2
loop-target-preserved-in-Continue-branch-2 c =
    let x = c.in-Some.target in
    let done = c.loop-target.yielded in
    let pushed : c.push.new.self.items ≡ c.loop-target.left.items ++ x ∷ [] = search rules in
    let other : bytes_eq x.id c.args.id.now ≡ false = search rules in
    (tt, tt, pushed ∙ ap (λ (xs : List Target). xs ++ x ∷ []) c.loop-target.invariant.2 ∙ sym (without_keep c.args.id.now done x other))

pub loop-target-preserved : goal.loop-target-preserved
loop-target-preserved c =
    let same : bytes_eq c.in-Some.target.id c.args.id.now ≡ true = search rules in
    (tt, tt, c.loop-target.invariant.2 ∙ sym (without_drop c.args.id.now c.loop-target.yielded c.in-Some.target same))

pub loop-target-preserved-else-ne : goal.loop-target-preserved-else-ne
loop-target-preserved-else-ne c =
    let same : bytes_eq c.in-Some.target.id c.args.id.now ≡ true = search rules in
    (tt, tt, c.loop-target.invariant.2 ∙ sym (without_drop c.args.id.now c.loop-target.yielded c.in-Some.target same))
