use Rattle.std.proofs.Common.{sym, subst}
use Rattle.router_core.specs.Admitted.{IsCancellationAdmitted}
use Rattle.router_requests.specs.declared.batch.Entry.TheVariants.{ReplayCancelled}
use Rattle.router_core.specs.declared.ready.Part.TheVariants.{Cancellation}
use Rattle.resource_calls.proofs.DecidedLemmas.{one_written}
use Rattle.resource_calls.proofs.replays.cancellation.Goals as goal

pub returns-clause-made : goal.returns-clause-made
returns-clause-made c =
    let t = c.args.tables.now in
    one_written c.writes.result t c.args.moment (ReplayCancelled c.in_ok-name.name) Cancellation c.writes.ensures.entry c.writes.ensures.part
    (subst (IsCancellationAdmitted t) (sym c.in_ok-name.ensures) c.requires.running) tt tt
