use Rattle.std.proofs.Common.{◌∙◌, ap, sym, length, subst}
use Rattle.router_requests.specs.Batch.{Stepped}
use Rattle.router_core.specs.Tables.{Tables, after_entry}
use Rattle.router_requests.specs.View.{entry_of, stepped_of}
use Rattle.router_core.specs.Ready.{IsPartOf}
use Rattle.router_requests.specs.declared.batch.Entry.{Entry as CodeEntry}
use Rattle.router_core.specs.declared.ready.Part.TheVariants.{Step}
use Rattle.router_core.proofs.TablesLemmas.{with_step, stepped}
use Rattle.router_core.proofs.tables.Tables.step_replay.Goals as goal

pub invariant_of-self : goal.invariant_of-self
invariant_of-self c =
    let i = c.self.inside in
    let t : Tables = record { set = i.set; duties = i.duties; archives = i.archives; replays = i.replays; events = i.events; entries = i.entries; batches = i.batches; moment = i.moment } in
    with_step _ c.args.moment t c.args.self.now c.add.new.self c.step.new.self (length c.args.duties) c.self.view_is c.add.ensures.queues
    c.add.ensures.created c.step.ensures.stepped c.self.invariant c.requires.entries c.requires.created

pub returns-clause-stepped : goal.returns-clause-stepped
returns-clause-stepped c =
    let i = c.self.inside in
    let t : Tables = record { set = i.set; duties = i.duties; archives = i.archives; replays = i.replays; events = i.events; entries = i.entries; batches = i.batches; moment = i.moment } in
    let s : Stepped = stepped_of c.in-ReplayStepped.step in
    let part = subst (λ x. IsPartOf c.args.moment c.args.self.now.set (entry_of x) (Step c.args.duties)) c.in-ReplayStepped.is c.requires.part in
    stepped s c.args.moment t c.args.self.now c.args.duties _ c.add.new.self c.step.new.self c.self.view_is part c.as_str.ensures c.add.ensures.added
    c.step.ensures.stepped
    ∙ ap (λ (x : CodeEntry). after_entry c.args.moment (entry_of x) c.args.self.now) (sym c.in-ReplayStepped.is)
