use Rattle.std.proofs.Common.{sym, subst, Ok}
use Rattle.std.proofs.lemmas.Result.{IfOk-weaker}
use Rattle.rule_table.specs.RuleSet.{rules_of}
use Rattle.router_requests.specs.Matching.{AreTargetsOf}
use Rattle.router_requests.specs.declared.seen.SeenVerdict.{SeenVerdict}
use Rattle.router_requests.proofs.MatchingLemmas.{matched_numbered}
use Rattle.router_requests.proofs.matching.targets_if_allowed.Goals as goal

pub returns-in-Allowed : goal.returns-in-Allowed
returns-in-Allowed g c =
    let set = g.F.Finder.set_of c.args.finder.now in
    let e = c.args.event.now.event in
    IfOk-weaker c.targets.result _ _
    (λ targets found.
    subst (λ (v : SeenVerdict). AreTargetsOf set (Ok c.args.event.now) v targets.items) (sym c.in-Allowed.is)
    (λ number. matched_numbered (rules_of c.args.event.now.bus set) e e.number number targets.items (rw (c.bus.ensures, c.tree.ensures.tree) at found)))
    c.targets.ensures
