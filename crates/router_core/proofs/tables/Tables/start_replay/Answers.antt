use Rattle.std.proofs.Common.{ap, sym, subst, ◌∙◌}
use Rattle.router_requests.specs.Batch.{Entry, replay_started}
use Rattle.router_core.specs.Tables.{Tables, after_entry}
use Rattle.router_core.specs.Admitted.{IsEntryAdmitted}
use Rattle.router_core.specs.Ready.{IsMadeOn}
use Rattle.router_core.specs.declared.ready.Part.TheVariants.{Start}
use Rattle.router_core.proofs.TablesLemmas.{can_start, started, with_replay}
use Rattle.router_core.proofs.tables.Tables.start_replay.Goals as goal

pub start-requires : goal.start-requires
start-requires c =
    let i = c.self.inside in
    let t : Tables = record { set = i.set; duties = i.duties; archives = i.archives; replays = i.replays; events = i.events; entries = i.entries; batches = i.batches; moment = i.moment } in
    let (s, is) = c.requires.start in
    let made = subst (λ (e : Entry). IsMadeOn c.args.moment c.args.self.now e (Start c.args.new_replay)) is c.requires.made in
    let admitted = subst (λ (e : Entry). IsEntryAdmitted c.args.moment e c.args.self.now) is c.requires.admitted in
    let can = can_start c.args.moment s t c.args.self.now c.args.new_replay c.self.view_is made admitted c.self.invariant in
    record { name = can.name; number = can.number; names = can.names; few = can.few; room = can.room }

pub invariant_of-self : goal.invariant_of-self
invariant_of-self c =
    let i = c.self.inside in
    let t : Tables = record { set = i.set; duties = i.duties; archives = i.archives; replays = i.replays; events = i.events; entries = i.entries; batches = i.batches; moment = i.moment } in
    with_replay t c.args.self.now c.start.new.self c.args.new_replay.row c.self.view_is c.start.ensures c.self.invariant c.requires.entries

pub returns-clause-started : goal.returns-clause-started
returns-clause-started c =
    let i = c.self.inside in
    let t : Tables = record { set = i.set; duties = i.duties; archives = i.archives; replays = i.replays; events = i.events; entries = i.entries; batches = i.batches; moment = i.moment } in
    let (s, is) = c.requires.start in
    let made = subst (λ (e : Entry). IsMadeOn c.args.moment c.args.self.now e (Start c.args.new_replay)) is c.requires.made in
    started c.args.moment s t c.args.self.now c.args.new_replay c.start.new.self c.self.view_is made c.start.ensures
    ∙ ap (λ (e : Entry). after_entry c.args.moment e c.args.self.now) (sym is)
