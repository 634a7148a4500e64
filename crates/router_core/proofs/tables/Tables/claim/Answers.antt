use Rattle.std.proofs.Common.{refl}
use Rattle.router_core.specs.Tables.{Tables}
use Rattle.router_core.proofs.ClaimLemmas.{claimed_errand, back_again}
use Rattle.router_core.proofs.tables.Tables.claim.Goals as goal

pub returns-in-Ok-clause-some : goal.returns-in-Ok-clause-some
returns-in-Ok-clause-some c =
    let i = c.self.inside in
    let t : Tables = record { set = i.set; duties = i.duties; archives = i.archives; replays = i.replays; events = i.events; entries = i.entries; batches = i.batches; moment = i.moment } in
    let some = c.in-Some.ensures.some in
    let shared = c.in-Ok.ensures in
    claimed_errand t c.args.self.now c.claim_next.new.self c.args.moment _ shared.0 c.self.view_is some.0 some.1 c.in-Some.ensures.out shared.1
    (record { at = refl; target = shared.2; text = shared.3; accepted = shared.4 })

pub returns-in-Err-clause-unchanged : goal.returns-in-Err-clause-unchanged
returns-in-Err-clause-unchanged c =
    let i = c.self.inside in
    let t : Tables = record { set = i.set; duties = i.duties; archives = i.archives; replays = i.replays; events = i.events; entries = i.entries; batches = i.batches; moment = i.moment } in
    back_again t c.args.self.now c.in-Some.claim.number c.claim_next.new.self c.unclaim.new.self c.self.view_is c.counts.ensures.ordered
    c.in-Some.ensures.free c.in-Some.ensures.some.1 c.unclaim.ensures.unclaimed
