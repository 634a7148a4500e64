use Rattle.std.proofs.Common.{ap, sym, subst, ◌∙◌}
use Rattle.delivery_duties.specs.Duties.{settled}
use Rattle.router_requests.specs.Batch.{Batch}
use Rattle.router_core.specs.Tables.{Tables, after_batch}
use Rattle.router_core.specs.Admitted.{IsAdmitted}
use Rattle.router_core.proofs.BatchLemmas.{purge_few}
use Rattle.router_core.proofs.SettleLemmas.{attempted, last_is, with_attempt}
use Rattle.router_core.proofs.tables.Tables.finish.Goals as goal

pub purge-requires : goal.purge-requires
purge-requires c =
    let i = c.self.inside in
    let t : Tables = record { set = i.set; duties = i.duties; archives = i.archives; replays = i.replays; events = i.events; entries = i.entries; batches = i.batches; moment = i.moment } in
    record { names = c.self.invariant.archives; few = purge_few t c.self.invariant }

pub invariant_of-self : goal.invariant_of-self
invariant_of-self c =
    let i = c.self.inside in
    let t : Tables = record { set = i.set; duties = i.duties; archives = i.archives; replays = i.replays; events = i.events; entries = i.entries; batches = i.batches; moment = i.moment } in
    let (ended, is) = c.requires.recorded in
    let admitted = subst (λ (b : Batch). IsAdmitted c.args.self.now b) is c.requires.admitted in
    with_attempt t c.args.self.now c.args.errand.claim.number c.args.errand.batch.moment ended c.settle-fate.new.self c.purge.new.archives c.self.view_is admitted
    c.settle-fate.ensures.queues c.settle-fate.ensures.created c.purge.ensures c.self.invariant

pub returns-clause-tables : goal.returns-clause-tables
returns-clause-tables c =
    let i = c.self.inside in
    let t : Tables = record { set = i.set; duties = i.duties; archives = i.archives; replays = i.replays; events = i.events; entries = i.entries; batches = i.batches; moment = i.moment } in
    let n = c.args.errand.claim.number in
    let moment = c.args.errand.batch.moment in
    let (ended, is) = c.requires.recorded in
    let admitted = subst (λ (b : Batch). IsAdmitted c.args.self.now b) is c.requires.admitted in
    let same = last_is c.args.errand.batch.entries.items c.pop.new.self.items n _ c.in-Some-Attempt.outcome ended
    (rw c.in-Some-Attempt.field-0-is at c.in-Some-Attempt.ensures.items)
    (ap (λ (b : Batch). b.entries) is) in
    attempted t c.args.self.now n moment ended c.settle-fate.new.self c.purge.new.archives c.self.view_is admitted
    (c.settle-fate.ensures.settled ∙ ap (λ o. settled n moment o t.duties) same) c.purge.ensures
    ∙ ap (λ (b : Batch). after_batch b c.args.self.now) (sym is)
