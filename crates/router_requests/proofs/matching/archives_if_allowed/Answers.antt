use Rattle.std.proofs.Common.{sym, subst, Ok}
use Rattle.std.proofs.lemmas.Result.{IfOk-weaker}
use Rattle.rule_table.specs.RuleSet.{archives_of}
use Rattle.router_requests.specs.Matching.{AreArchivesOf}
use Rattle.router_requests.specs.declared.seen.SeenVerdict.{SeenVerdict}
use Rattle.router_requests.proofs.SeenArchiveLemmas.{keeping_numbered}
use Rattle.router_requests.proofs.matching.archives_if_allowed.Goals as goal

pub returns-in-Allowed : goal.returns-in-Allowed
returns-in-Allowed g c =
    let set = g.F.Finder.set_of c.args.finder.now in
    let e = c.args.event.now.event in
    IfOk-weaker c.archives.result _ _
    (λ archives found.
    subst (λ (v : SeenVerdict). AreArchivesOf set (Ok c.args.event.now) v archives.items) (sym c.in-Allowed.is)
    (λ number. keeping_numbered (archives_of c.args.event.now.bus set) e e.number number archives.items (rw (c.bus.ensures, c.tree.ensures.tree) at found)))
    c.archives.ensures
