use Rattle.std.proofs.Common.{◌≡◌, Some, map, ap, subst, sym, ◌∙◌}
use Rattle.delivery_queues.specs.Queues.{Queue}
use Rattle.delivery_duties.specs.Duties.{Duties, pending_row, settled}
use Rattle.router_core.specs.Tables.{Tables}
use Rattle.router_core.proofs.BatchLemmas.{purge_few}
use Rattle.router_core.proofs.SettleLemmas.{claimed_kept, fate_at, settled_at, with_attempt}
use Rattle.router_core.proofs.tables.Tables.settle_at.Goals as goal

pub returns-clause-fate : goal.returns-clause-fate
returns-clause-fate c = λ own there.
    let i = c.self.inside in
    let t : Tables = record { set = i.set; duties = i.duties; archives = i.archives; replays = i.replays; events = i.events; entries = i.entries; batches = i.batches; moment = i.moment } in
    let free = c.requires.free in
    fate_at t c.args.self.now c.args.duty c.args.moment c.args.outcome c.claim_at-claim.new.self c.settle-fate.result free.0 own c.self.view_is free.1 free.3
    c.claim_at-claim.ensures.claimed
    (λ other is. c.settle-fate.ensures.fate other (subst (λ n. pending_row n c.claim_at-claim.new.self ≡ Some other) (sym c.claim_at-claim.ensures.number) is)) there

pub returns-clause-tables : goal.returns-clause-tables
returns-clause-tables c =
    let i = c.self.inside in
    let t : Tables = record { set = i.set; duties = i.duties; archives = i.archives; replays = i.replays; events = i.events; entries = i.entries; batches = i.batches; moment = i.moment } in
    let free = c.requires.free in
    settled_at t c.args.self.now c.args.duty c.args.moment c.args.outcome c.claim_at-claim.new.self c.settle-fate.new.self c.purge-expired.new.archives
    free.0 c.self.view_is c.requires.admitted free.1 free.3 c.claim_at-claim.ensures.claimed
    (c.settle-fate.ensures.settled ∙ ap (λ n. settled n c.args.moment c.args.outcome c.claim_at-claim.new.self) c.claim_at-claim.ensures.number)
    c.purge-expired.ensures

pub purge-expired-requires : goal.purge-expired-requires
purge-expired-requires c =
    let i = c.self.inside in
    let t : Tables = record { set = i.set; duties = i.duties; archives = i.archives; replays = i.replays; events = i.events; entries = i.entries; batches = i.batches; moment = i.moment } in
    record { names = c.self.invariant.archives; few = purge_few t c.self.invariant }

pub invariant_of-self : goal.invariant_of-self
invariant_of-self c =
    let i = c.self.inside in
    let t : Tables = record { set = i.set; duties = i.duties; archives = i.archives; replays = i.replays; events = i.events; entries = i.entries; batches = i.batches; moment = i.moment } in
    let kept = claimed_kept c.args.duty i.duties in
    with_attempt t c.args.self.now c.args.duty c.args.moment c.args.outcome c.settle-fate.new.self c.purge-expired.new.archives c.self.view_is
    c.requires.admitted
    (c.settle-fate.ensures.queues ∙ ap (λ (d : Duties). map (λ (q : Queue). q.name) d.queues) c.claim_at-claim.ensures.claimed
    ∙ ap (map (λ (q : Queue). q.name)) kept.0)
    (c.settle-fate.ensures.created ∙ ap (λ (d : Duties). d.created) c.claim_at-claim.ensures.claimed ∙ kept.1) c.purge-expired.ensures c.self.invariant
