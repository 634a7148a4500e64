use Rattle.std.proofs.Common.{subst, arith}
use Rattle.router_requests.specs.View.{entry_of}
use Rattle.router_core.specs.Ready.{IsPartOf, IsMadeOn}
use Rattle.router_core.proofs.TablesLemmas.{cancellation_part, change_part, event_part, event_few, deletion_part, start_part, step_few, step_part}
use Rattle.router_core.proofs.tables.Tables.join.Goals as goal

pub configure-requires-clause-change : goal.configure-requires-clause-change
configure-requires-clause-change c =
    change_part c.args.moment (entry_of c.args.entry.now) c.args.self.now.set c.in-Configuration.set c.in-Configuration.new_queue c.in-Configuration.new_archive
    (subst (IsPartOf c.args.moment c.args.self.now.set (entry_of c.args.entry.now)) c.in-Configuration.is c.requires.part)

pub configure-requires-clause-part : goal.configure-requires-clause-part
configure-requires-clause-part c =
    subst (IsPartOf c.args.moment c.args.self.now.set (entry_of c.args.entry.now)) c.in-Configuration.is c.requires.part

pub publish-requires-clause-event : goal.publish-requires-clause-event
publish-requires-clause-event c =
    event_part c.args.moment (entry_of c.args.entry.now) c.args.self.now.set c.in-Event.duties c.in-Event.kept
    (subst (IsPartOf c.args.moment c.args.self.now.set (entry_of c.args.entry.now)) c.in-Event.is c.requires.part)

pub publish-requires-clause-part : goal.publish-requires-clause-part
publish-requires-clause-part c = subst (IsPartOf c.args.moment c.args.self.now.set (entry_of c.args.entry.now)) c.in-Event.is c.requires.part

pub publish-requires-clause-created : goal.publish-requires-clause-created
publish-requires-clause-created c =
    let few = event_few c.args.moment (entry_of c.args.entry.now) c.args.self.now c.in-Event.duties c.in-Event.kept
    (subst (IsPartOf c.args.moment c.args.self.now.set (entry_of c.args.entry.now)) c.in-Event.is c.requires.part) c.requires.admitted in
    omega (arith, few, c.requires.created)

pub delete_messages-requires-clause-deletion : goal.delete_messages-requires-clause-deletion
delete_messages-requires-clause-deletion c =
    deletion_part c.args.moment (entry_of c.args.entry.now) c.args.self.now.set
    (subst (IsPartOf c.args.moment c.args.self.now.set (entry_of c.args.entry.now)) c.in-Nothing.is c.requires.part)

pub returns-in-Event-clause-created : goal.returns-in-Event-clause-created
returns-in-Event-clause-created c =
    let few = event_few c.args.moment (entry_of c.args.entry.now) c.args.self.now c.in-Event.duties c.in-Event.kept
    (subst (IsPartOf c.args.moment c.args.self.now.set (entry_of c.args.entry.now)) c.in-Event.is c.requires.part) c.requires.admitted in
    omega (arith, few, c.publish.ensures.created)

pub start_replay-requires-clause-start : goal.start_replay-requires-clause-start
start_replay-requires-clause-start c =
    start_part c.args.moment (entry_of c.args.entry.now) c.args.self.now.set c.in-Start.new_replay
    (subst (IsPartOf c.args.moment c.args.self.now.set (entry_of c.args.entry.now)) c.in-Start.is c.requires.part)

pub start_replay-requires-clause-made : goal.start_replay-requires-clause-made
start_replay-requires-clause-made c = subst (IsMadeOn c.args.moment c.args.self.now (entry_of c.args.entry.now)) c.in-Start.is c.requires.made

pub step_replay-requires-clause-step : goal.step_replay-requires-clause-step
step_replay-requires-clause-step c =
    step_part c.args.moment (entry_of c.args.entry.now) c.args.self.now.set c.in-Step.duties
    (subst (IsPartOf c.args.moment c.args.self.now.set (entry_of c.args.entry.now)) c.in-Step.is c.requires.part)

pub step_replay-requires-clause-part : goal.step_replay-requires-clause-part
step_replay-requires-clause-part c = subst (IsPartOf c.args.moment c.args.self.now.set (entry_of c.args.entry.now)) c.in-Step.is c.requires.part

pub step_replay-requires-clause-created : goal.step_replay-requires-clause-created
step_replay-requires-clause-created c =
    let few = step_few c.args.moment (entry_of c.args.entry.now) c.args.self.now c.in-Step.duties
    (subst (IsPartOf c.args.moment c.args.self.now.set (entry_of c.args.entry.now)) c.in-Step.is c.requires.part) c.requires.admitted in
    omega (arith, few, c.requires.created)

pub cancel_replay-requires-clause-cancellation : goal.cancel_replay-requires-clause-cancellation
cancel_replay-requires-clause-cancellation c =
    cancellation_part c.args.moment (entry_of c.args.entry.now) c.args.self.now.set
    (subst (IsPartOf c.args.moment c.args.self.now.set (entry_of c.args.entry.now)) c.in-Cancellation.is c.requires.part)

pub returns-in-Step-clause-created : goal.returns-in-Step-clause-created
returns-in-Step-clause-created c =
    let few = step_few c.args.moment (entry_of c.args.entry.now) c.args.self.now c.in-Step.duties
    (subst (IsPartOf c.args.moment c.args.self.now.set (entry_of c.args.entry.now)) c.in-Step.is c.requires.part) c.requires.admitted in
    omega (arith, few, c.step_replay.ensures.created)
