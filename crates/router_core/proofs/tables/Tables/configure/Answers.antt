use Rattle.std.proofs.Common.{◌≡◌, ◌∙◌, ap, sym, subst}
use Rattle.delivery_duties.specs.Duties.{Duties}
use Rattle.rule_table.specs.Control.{Control}
use Rattle.rule_table.specs.View.{control_of}
use Rattle.router_core.specs.Tables.{Tables, duties_after, after_entry}
use Rattle.router_core.specs.Parts.{with_forgotten}
use Rattle.router_requests.specs.View.{entry_of}
use Rattle.router_core.specs.Admitted.{IsEntryAdmitted}
use Rattle.router_core.specs.Ready.{IsPartOf}
use Rattle.router_requests.specs.declared.batch.Entry.{Entry as CodeEntry}
use Rattle.router_core.specs.declared.ready.Part.TheVariants.{Configuration}
use Rattle.router_core.proofs.TablesLemmas.{room_for, archive_room, duties_by, created_after, has_changed, with_change, changed}
use Rattle.router_core.proofs.tables.Tables.configure.Goals as goal

pub create_queue-requires : goal.create_queue-requires
create_queue-requires c =
    let i = c.self.inside in
    let t : Tables = record { set = i.set; duties = i.duties; archives = i.archives; replays = i.replays; events = i.events; entries = i.entries; batches = i.batches; moment = i.moment } in
    let x : Control = control_of c.in-Control.control in
    let part = subst (λ e. IsPartOf c.args.moment c.args.self.now.set (entry_of e) (Configuration c.args.set c.args.new_queue c.args.new_archive)) c.in-Control.is c.requires.part in
    let admitted = subst (λ e. IsEntryAdmitted c.args.moment (entry_of e) c.args.self.now) c.in-Control.is c.requires.admitted in
    room_for x c.args.new_queue t c.args.self.now c.self.view_is part.1 admitted.1 c.self.invariant.queues

pub change_archives-requires : goal.change_archives-requires
change_archives-requires c =
    let i = c.self.inside in
    let t : Tables = record { set = i.set; duties = i.duties; archives = i.archives; replays = i.replays; events = i.events; entries = i.entries; batches = i.batches; moment = i.moment } in
    let x : Control = control_of c.in-Control.control in
    let part = subst (λ e. IsPartOf c.args.moment c.args.self.now.set (entry_of e) (Configuration c.args.set c.args.new_queue c.args.new_archive)) c.in-Control.is c.requires.part in
    let admitted = subst (λ e. IsEntryAdmitted c.args.moment (entry_of e) c.args.self.now) c.in-Control.is c.requires.admitted in
    record { made = part.2; room = archive_room x t c.args.self.now c.self.view_is admitted.1 c.self.invariant }

pub invariant_of-self : goal.invariant_of-self
invariant_of-self c =
    let i = c.self.inside in
    let t : Tables = record { set = i.set; duties = i.duties; archives = i.archives; replays = i.replays; events = i.events; entries = i.entries; batches = i.batches; moment = i.moment } in
    let x : Control = control_of c.in-Control.control in
    let part = subst (λ e. IsPartOf c.args.moment c.args.self.now.set (entry_of e) (Configuration c.args.set c.args.new_queue c.args.new_archive)) c.in-Control.is c.requires.part in
    let admitted = subst (λ e. IsEntryAdmitted c.args.moment (entry_of e) c.args.self.now) c.in-Control.is c.requires.admitted in
    with_change x c.args.moment t c.args.self.now c.replace.new.dest c.forget_queue.new.duties c.change_archives.new.archives c.self.view_is
    (has_changed x c.args.moment c.args.new_queue _ t c.args.self.now c.replace.new.dest c.create_queue.new.duties c.forget_queue.new.duties
    c.change_archives.new.archives c.self.view_is (c.replace.ensures.after ∙ part.0) part.1 c.deleted_by.ensures c.create_queue.ensures c.forget_queue.ensures
    c.change_archives.ensures)
    admitted.0.0 c.self.invariant c.requires.entries

pub returns-clause-configured : goal.returns-clause-configured
returns-clause-configured c =
    let i = c.self.inside in
    let t : Tables = record { set = i.set; duties = i.duties; archives = i.archives; replays = i.replays; events = i.events; entries = i.entries; batches = i.batches; moment = i.moment } in
    let x : Control = control_of c.in-Control.control in
    let part = subst (λ e. IsPartOf c.args.moment c.args.self.now.set (entry_of e) (Configuration c.args.set c.args.new_queue c.args.new_archive)) c.in-Control.is c.requires.part in
    changed x c.args.moment t c.args.self.now c.replace.new.dest c.forget_queue.new.duties c.change_archives.new.archives c.self.view_is
    (has_changed x c.args.moment c.args.new_queue _ t c.args.self.now c.replace.new.dest c.create_queue.new.duties c.forget_queue.new.duties
    c.change_archives.new.archives c.self.view_is (c.replace.ensures.after ∙ part.0) part.1 c.deleted_by.ensures c.create_queue.ensures c.forget_queue.ensures
    c.change_archives.ensures)
    ∙ ap (λ (e : CodeEntry). after_entry c.args.moment (entry_of e) c.args.self.now) (sym c.in-Control.is)

pub returns-clause-created : goal.returns-clause-created
returns-clause-created c =
    let x : Control = control_of c.in-Control.control in
    let all : c.forget_queue.new.duties ≡ duties_after x c.self.inside.duties =
    c.forget_queue.ensures ∙ ap (with_forgotten _) c.create_queue.ensures
    ∙ duties_by x c.args.new_queue _ c.self.inside.duties (subst (λ e. IsPartOf c.args.moment c.args.self.now.set (entry_of e) (Configuration c.args.set c.args.new_queue c.args.new_archive)) c.in-Control.is c.requires.part).1 c.deleted_by.ensures in
    ap (λ (d : Duties). d.created) all ∙ created_after x c.self.inside.duties ∙ ap (λ (s : Tables). s.duties.created) c.self.view_is
