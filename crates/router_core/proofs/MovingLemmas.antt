-- Tables may go to another thread, and so may a claimed duty with its record: `tables_send`, `errand_send`. A struct with no view of its own is
-- named by `the_field_send` where it is a field.
use denote.Builtin.{u64}
use denote.Param.Send.{IsSend, IsSync, sendable}
use Rattle.std.proofs.Crossing.{crosses}
use Rattle.std.proofs.collections.LinkedList.TheSendSync as list
use Rattle.http_server.proofs.log.Log.TheSendSync as log
use Rattle.json_text.proofs.base.Text.TheSendSync as text
use Rattle.key_tree.proofs.subtree.Subtree.TheLaws.TheKnot as tree
use Rattle.key_tree.specs.contracts.node.Node as node
use Rattle.archive_keep.proofs.event_ref.KeptEvent.TheSendSync as kept
use Rattle.archive_keep.specs.contracts.event_ref.EventRef as event
use Rattle.archive_keep.specs.contracts.archive.Archive as archive
use Rattle.archive_keep.specs.contracts.archives.Archives as archives
use Rattle.name_rows.proofs.rows.Rows.TheSendSync as rows
use Rattle.replay_run.specs.contracts.settings.RuleNames as rule_names
use Rattle.replay_run.specs.contracts.settings.ReplaySettings as settings
use Rattle.replay_run.specs.contracts.replay.Replay as replay
use Rattle.replay_run.specs.contracts.row.ReplayRow as replay_row
use Rattle.replay_run.specs.contracts.row.NumberedName as numbered
use Rattle.replay_run.specs.contracts.replays.Replays as replays
use Rattle.delivery_queues.proofs.stored.StoredMessage.TheSendSync as message
use Rattle.delivery_duties.proofs.duty.DutyRow.TheSendSync as row
use Rattle.delivery_duties.specs.contracts.owed.Owed as owed
use Rattle.delivery_duties.specs.contracts.schedule.Schedule as schedule
use Rattle.delivery_duties.specs.contracts.history.History as history
use Rattle.delivery_queues.specs.contracts.queue.Queue as queue
use Rattle.delivery_queues.specs.contracts.queues.Queues as queues
use Rattle.delivery_duties.specs.contracts.duties.Duties as duties
use Rattle.delivery_duties.proofs.claim.Claim.TheSendSync as claim
use Rattle.delivery_duties.proofs.outcome.Outcome.TheSendSync as outcome
use Rattle.shared_text.proofs.row.SharedRow.TheSendSync as shared_row
use Rattle.shared_text.proofs.text.SharedText.TheSendSync as shared_text
use Rattle.rule_targets.proofs.target.Target.TheSendSync as target
use Rattle.rule_table.specs.contracts.control.Control as control
use Rattle.router_requests.proofs.batch.AcceptedEvent.TheSendSync as accepted
use Rattle.router_requests.specs.contracts.batch.StartedReplay as started
use Rattle.router_requests.proofs.batch.SteppedReplay.TheSendSync as stepped
use Rattle.router_requests.specs.contracts.batch.Entry as entry
use Rattle.router_requests.specs.contracts.batch.Batch as batch
use Rattle.router_core.specs.contracts.errand.Errand as errand
use Rattle.router_core.specs.contracts.tables.Tables as tables
use Rattle.router_core.proofs.CrossingLemmas.{set_send, shared_pattern_send, stored_policy_send}

node_send : IsSend (node.the_row u64)
node_send = search (sendable, crosses, tree.crosses) depth 20

owed_send : IsSend owed.the_row
owed_send = search (sendable, crosses, node_send, list.the_send, message.the_send, row.the_field_send) depth 20

schedule_send : IsSend schedule.the_row
schedule_send = search (sendable, crosses, tree.crosses, owed_send) depth 20

history_send : IsSend history.the_row
history_send = search (sendable, crosses, log.the_send) depth 20

queue_send : IsSend queue.the_row
queue_send = search (sendable, crosses, list.the_send, text.the_send, message.the_send) depth 20

queues_send : IsSend queues.the_row
queues_send = search (sendable, crosses, queue_send) depth 20

duties_send : IsSend duties.the_row
duties_send = search (sendable, schedule_send, history_send, queues_send) depth 20

event_send : IsSend event.the_row
event_send = search (sendable, crosses, kept.the_send, kept.the_sync) depth 20

archive_send : IsSend archive.the_row
archive_send = search (sendable, crosses, list.the_send, text.the_send, event_send) depth 20

archives_send : IsSend archives.the_row
archives_send = search (sendable, crosses, archive_send) depth 20

rule_names_send : IsSend rule_names.the_row
rule_names_send = search (sendable, crosses, text.the_send) depth 20

settings_send : IsSend settings.the_field.row
settings_send = search (sendable, crosses, text.the_send, rule_names_send) depth 20

replay_send : IsSend replay.the_row
replay_send = search (sendable, crosses, event_send) depth 20

replay_row_send : IsSend replay_row.the_row
replay_row_send = search (sendable, crosses, settings_send, replay_send) depth 20

numbered_send : IsSend numbered.the_row
numbered_send = search (sendable, crosses, text.the_send) depth 20

numbered_sync : IsSync numbered.the_row
numbered_sync = search (sendable, crosses, text.the_sync) depth 20

replays_send : IsSend replays.the_row
replays_send = search (sendable, crosses, tree.crosses, replay_row_send, rows.the_send, numbered_send, numbered_sync) depth 20

pub tables_send : IsSend tables.the_row
tables_send = search (sendable, set_send, duties_send, archives_send, replays_send) depth 20

control_send : IsSend control.the_field.row
control_send = search (sendable, crosses, text.the_send, shared_pattern_send, stored_policy_send, target.the_send) depth 20

started_send : IsSend started.the_field.row
started_send = search (sendable, crosses, text.the_send, rule_names_send) depth 20

entry_send : IsSend entry.the_row
entry_send = search (
  sendable,
  crosses,
  text.the_send,
  control_send,
  accepted.the_field_send,
  started_send,
  stepped.the_field_send,
  outcome.the_field_send,
) depth 20

batch_send : IsSend batch.the_field.row
batch_send = search (sendable, crosses, entry_send) depth 20

pub errand_send : IsSend errand.the_row
errand_send = search (sendable, crosses, claim.the_field_send, shared_row.the_send, shared_text.the_send, batch_send) depth 20
