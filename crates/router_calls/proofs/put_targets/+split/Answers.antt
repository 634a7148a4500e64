use Rattle.std.proofs.Common.{sym, subst}
use Rattle.std.specs.Prelude.{OnOk}
use Rattle.router_calls.specs.Steps.{AddsTargets}
use Rattle.router_calls.proofs.CallLemmas.{first_and_rest, on_ok_more}
use Rattle.router_calls.proofs.TargetLemmas.{adds_target}
use Rattle.router_calls.proofs.put_targets.+split.Goals as goal

pub returns-in_ok-split_one-in-len1-up : goal.returns-in_ok-split_one-in-len1-up
returns-in_ok-split_one-in-len1-up t c =
    let all = first_and_rest c.args.targets.now c.target-item.result c.in-len1-up.len_at_least c.target-item.is in
    subst (λ ts. OnOk c.split.result (AddsTargets c.args.set.now ts c.args.all.now c.split.new.all)) (sym all)
    (on_ok_more c.split.result (λ more. adds_target c.args.set.now c.target-item.result _ c.args.all.now c.split_one.new.all c.split.new.all
    c.in_ok-split_one-in-len1-up.ensures more) c.split.ensures)
