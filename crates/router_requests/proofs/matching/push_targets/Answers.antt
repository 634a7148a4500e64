use Rattle.router_requests.proofs.MatchingLemmas.{rows_done}
use Rattle.router_requests.proofs.matching.push_targets.Goals as goal

pub returns : goal.returns
returns c =
    rows_done c.args.rule.now c.args.targets.now.items c.loop-target.targets.items c.targets-target-items.result.now c.loop-target.target-index
    c.loop-target.invariant c.loop-target-test.false c.targets-target-items.ensures.rows
