use Rattle.std.proofs.Common.{◌∙◌, ap, sym, length, subst}
use Rattle.router_requests.specs.Batch.{Accepted}
use Rattle.router_core.specs.Tables.{Tables, after_entry}
use Rattle.router_requests.specs.View.{accepted_of, entry_of}
use Rattle.router_core.specs.Admitted.{IsEntryAdmitted}
use Rattle.router_core.specs.Ready.{IsPartOf}
use Rattle.router_requests.specs.declared.batch.Entry.{Entry as CodeEntry}
use Rattle.router_core.specs.declared.ready.Part.TheVariants.{Event}
use Rattle.router_core.proofs.TablesLemmas.{can_keep, has_published, with_event, published}
use Rattle.router_core.proofs.tables.Tables.publish.Goals as goal

pub keep_each-requires : goal.keep_each-requires
keep_each-requires c =
    let i = c.self.inside in
    let t : Tables = record { set = i.set; duties = i.duties; archives = i.archives; replays = i.replays; events = i.events; entries = i.entries; batches = i.batches; moment = i.moment } in
    let e : Accepted = accepted_of c.in-Accepted.event in
    let part = subst (λ x. IsPartOf c.args.moment c.args.self.now.set (entry_of x) (Event c.args.duties c.args.kept)) c.in-Accepted.is c.requires.part in
    let admitted = subst (λ x. IsEntryAdmitted c.args.moment (entry_of x) c.args.self.now) c.in-Accepted.is c.requires.admitted in
    can_keep c.args.moment e t c.args.self.now c.deref.result.now c.args.kept c.self.view_is c.deref.ensures.value part.1 admitted c.requires.later c.self.invariant

pub invariant_of-self : goal.invariant_of-self
invariant_of-self c =
    let i = c.self.inside in
    let t : Tables = record { set = i.set; duties = i.duties; archives = i.archives; replays = i.replays; events = i.events; entries = i.entries; batches = i.batches; moment = i.moment } in
    let e : Accepted = accepted_of c.in-Accepted.event in
    let part = subst (λ x. IsPartOf c.args.moment c.args.self.now.set (entry_of x) (Event c.args.duties c.args.kept)) c.in-Accepted.is c.requires.part in
    let admitted = subst (λ x. IsEntryAdmitted c.args.moment (entry_of x) c.args.self.now) c.in-Accepted.is c.requires.admitted in
    with_event e c.args.moment t c.args.self.now c.add.new.self c.keep_each.new.archives (length c.args.duties) c.self.view_is c.add.ensures.queues
    c.add.ensures.created
    (has_published e c.args.moment t c.args.self.now c.args.duties c.args.kept c.deref.result.now c.add.new.self c.keep_each.new.archives c.self.view_is part
    c.deref.ensures.value c.add.ensures.added c.keep_each.ensures admitted c.requires.later)
    c.requires.moment c.self.invariant c.requires.entries c.requires.created

pub returns-clause-added : goal.returns-clause-added
returns-clause-added c =
    let i = c.self.inside in
    let t : Tables = record { set = i.set; duties = i.duties; archives = i.archives; replays = i.replays; events = i.events; entries = i.entries; batches = i.batches; moment = i.moment } in
    let e : Accepted = accepted_of c.in-Accepted.event in
    let part = subst (λ x. IsPartOf c.args.moment c.args.self.now.set (entry_of x) (Event c.args.duties c.args.kept)) c.in-Accepted.is c.requires.part in
    let admitted = subst (λ x. IsEntryAdmitted c.args.moment (entry_of x) c.args.self.now) c.in-Accepted.is c.requires.admitted in
    published e c.args.moment t c.args.self.now c.add.new.self c.keep_each.new.archives c.self.view_is
    (has_published e c.args.moment t c.args.self.now c.args.duties c.args.kept c.deref.result.now c.add.new.self c.keep_each.new.archives c.self.view_is part
    c.deref.ensures.value c.add.ensures.added c.keep_each.ensures admitted c.requires.later)
    ∙ ap (λ (x : CodeEntry). after_entry c.args.moment (entry_of x) c.args.self.now) (sym c.in-Accepted.is)
