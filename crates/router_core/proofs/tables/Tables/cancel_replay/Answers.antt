use Rattle.std.proofs.Common.{◌∙◌, ap, sym}
use Rattle.router_core.specs.Tables.{Tables, after_entry}
use Rattle.router_requests.specs.View.{entry_of}
use Rattle.router_requests.specs.declared.batch.Entry.{Entry as CodeEntry}
use Rattle.router_core.proofs.TablesLemmas.{with_cancellation, cancelled}
use Rattle.router_core.proofs.tables.Tables.cancel_replay.Goals as goal

pub invariant_of-self : goal.invariant_of-self
invariant_of-self c =
    let i = c.self.inside in
    let t : Tables = record { set = i.set; duties = i.duties; archives = i.archives; replays = i.replays; events = i.events; entries = i.entries; batches = i.batches; moment = i.moment } in
    with_cancellation _ c.args.moment t c.args.self.now c.cancel.new.self c.self.view_is c.cancel.ensures.cancelled c.self.invariant c.requires.entries

pub returns-clause-cancelled : goal.returns-clause-cancelled
returns-clause-cancelled c =
    let i = c.self.inside in
    let t : Tables = record { set = i.set; duties = i.duties; archives = i.archives; replays = i.replays; events = i.events; entries = i.entries; batches = i.batches; moment = i.moment } in
    cancelled c.in-ReplayCancelled.name c.args.moment t c.args.self.now _ c.cancel.new.self c.self.view_is c.as_str.ensures c.cancel.ensures.cancelled
    ∙ ap (λ (x : CodeEntry). after_entry c.args.moment (entry_of x) c.args.self.now) (sym c.in-ReplayCancelled.is)
