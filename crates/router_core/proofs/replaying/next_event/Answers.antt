use Rattle.router_core.proofs.ReplayingLemmas.{next_never, next_of}
use Rattle.router_core.proofs.replaying.next_event.Goals as goal

pub unreachable-requires : goal.unreachable-requires
unreachable-requires c = next_never c.replays.result.now c.in-Some.row.now c.in-Some.ensures.first c.in-None-next.ensures.running

pub returns-in-Some-next : goal.returns-in-Some-next
returns-in-Some-next c =
    next_of c.args.tables.now c.replays.result.now c.in-Some.row.now c.in-Some-next.kept.now c.replays.ensures c.in-Some.ensures.first
    c.in-Some.ensures.named c.in-Some-next.ensures.next
