use Rattle.router_core.specs.Tables.{Tables}
use Rattle.router_core.proofs.TablesLemmas.{with_deletion}
use Rattle.router_core.proofs.tables.Tables.delete_messages.Goals as goal

pub invariant_of-self : goal.invariant_of-self
invariant_of-self c =
    let i = c.self.inside in
    let t : Tables = record { set = i.set; duties = i.duties; archives = i.archives; replays = i.replays; events = i.events; entries = i.entries; batches = i.batches; moment = i.moment } in
    with_deletion t c.args.self.now c.delete_through.new.self _ _ c.self.view_is c.delete_through.ensures.queues c.delete_through.ensures.deleted
    c.self.invariant c.requires.entries
