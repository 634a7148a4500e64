use Rattle.std.proofs.Common.{sym, subst}
use Rattle.std.specs.Prelude.{IfOk}
use Rattle.router_requests.specs.declared.seen.SeenResult.{SeenResult}
use Rattle.router_calls.specs.Accepted.{entries_seen}
use Rattle.resource_calls.specs.Decided.{decided_of}
use Rattle.router_calls.specs.Steps.{IsPublication}
use Rattle.router_calls.proofs.put_events.put_events.Goals as goal

pub returns-clause-answer : goal.returns-clause-answer
returns-clause-answer c =
    subst (λ (found : SeenResult). IfOk c.publish.result
    (λ d. IsPublication c.args.tables.now c.args.seen.now.k c.args.moment c.args.entries.now (entries_seen c.args.tables.now.set found) c.args.size (decided_of d)))
    (sym c.in-Entries.is) c.publish.ensures.answer
