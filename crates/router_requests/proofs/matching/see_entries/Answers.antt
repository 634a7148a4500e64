use Rattle.router_requests.proofs.MatchingLemmas.{seen_at}
use Rattle.router_requests.proofs.matching.see_entries.Goals as goal

pub loop-entry-preserved : goal.loop-entry-preserved
loop-entry-preserved g c =
    seen_at (g.F.Finder.set_of c.args.finder.now) c.args.caller.now c.args.entries.now c.loop-entry.entry-index c.entry-item.result c.loop-entry.all.items c.push_back.new.self.items
    c.in_ok-see_entry.field-0 c.loop-entry.invariant c.in_ok-see_entry.ensures c.loop-entry-test.true c.entry-item.is c.in_ok-push_back.ensures.items
