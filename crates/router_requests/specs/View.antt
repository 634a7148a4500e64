-- The views of requests and batches in contracts.
use Rattle.std.specs.Prelude.{map}
use Rattle.json_text.specs.View.{tree_of}
use Rattle.rule_table.specs.View.{control_of}
use Rattle.router_requests.specs.declared.request.Action.{Action}
use Rattle.router_requests.specs.declared.request.Action.TheVariants as action
use Rattle.router_requests.specs.declared.request.Request.{Request}
use Rattle.router_requests.specs.declared.batch.AcceptedEvent.{AcceptedEvent}
use Rattle.router_requests.specs.declared.batch.SteppedReplay.{SteppedReplay}
use Rattle.router_requests.specs.declared.batch.Entry.{Entry}
use Rattle.router_requests.specs.declared.batch.Entry.TheVariants as entry
use Rattle.router_requests.specs.declared.batch.Batch.{Batch}
use Rattle.router_requests.specs.Request as request
use Rattle.router_requests.specs.Batch as batch

-- What contracts see of the code's `Action`, with its vectors as lists.
-- Shown by: tables api_wire.rows: a_request_has_what_the_message_gives.
abbrev pub action_of : Action → request.Action
action_of (action.CreateEventBus name) = request.create_event_bus name
action_of (action.DeleteEventBus name) = request.delete_event_bus name
action_of (action.DescribeEventBus name) = request.describe_event_bus name
action_of (action.ListEventBuses prefix) = request.list_event_buses prefix
action_of (action.PutRule bus name pattern enabled) = request.put_rule bus name pattern enabled
action_of (action.DeleteRule bus name) = request.delete_rule bus name
action_of (action.PutRuleState bus name enabled) = request.put_rule_state bus name enabled
action_of (action.DescribeRule bus name) = request.describe_rule bus name
action_of (action.ListRules bus prefix) = request.list_rules bus prefix
action_of (action.PutTargets bus rule targets) = request.put_targets bus rule targets.items
action_of (action.RemoveTargets bus rule ids) = request.remove_targets bus rule ids.items
action_of (action.ListTargetsByRule bus rule) = request.list_targets_by_rule bus rule
action_of (action.ListRuleNamesByTarget arn bus) = request.list_rule_names_by_target arn bus
action_of (action.PutPolicy bus policy) = request.put_policy bus policy
action_of (action.PutStatement bus sid account) = request.put_statement bus sid account
action_of (action.RemovePolicy bus) = request.remove_policy bus
action_of (action.RemoveStatement bus sid) = request.remove_statement bus sid
action_of (action.PutEvents entries size) = request.put_events entries.items size
action_of (action.TestEventPattern pattern event) = request.test_event_pattern pattern (tree_of event)
action_of (action.CreateArchive name bus pattern days) = request.create_archive name bus pattern days
action_of (action.UpdateArchive name pattern days) = request.update_archive name pattern days
action_of (action.DeleteArchive name) = request.delete_archive name
action_of (action.DescribeArchive name) = request.describe_archive name
action_of (action.ListArchives prefix source state) = request.list_archives prefix source state
action_of (action.StartReplay start bus) = request.start_replay start bus
action_of (action.CancelReplay name) = request.cancel_replay name
action_of (action.DescribeReplay name) = request.describe_replay name
action_of (action.ListReplays prefix source state) = request.list_replays prefix source state
action_of (action.CreateQueue name) = request.create_queue name
action_of (action.DeleteQueue name) = request.delete_queue name
action_of (action.PeekMessages queue limit) = request.peek_messages queue limit
action_of (action.DeleteMessages queue through) = request.delete_messages queue through
action_of (action.DeliverDue budget) = request.deliver_due budget
action_of (action.StepReplays budget) = request.step_replays budget
action_of action.DutyCounts = request.duty_counts

-- What contracts see of the code's `Request`, with the view of its action.
-- Shown by: tables api_wire.rows: a_request_has_what_the_message_gives.
abbrev pub request_of : Request → request.Request
request_of r = record { action = action_of r.action; caller = r.caller; reading = r.reading }

-- What contracts see of the code's `AcceptedEvent`, with its archives and its duties as lists.
-- Shown by: first-run.
abbrev pub accepted_of : AcceptedEvent → batch.Accepted
accepted_of e = record { number = e.number; bus = e.bus; k = e.k; time = e.time; text = e.text; archives = e.archives.items; duties = e.duties.items }

-- What contracts see of the code's `SteppedReplay`, with its duties as a list.
-- Shown by: proofs alone.
abbrev pub stepped_of : SteppedReplay → batch.Stepped
stepped_of s = record { name = s.name; event = s.event; duties = s.duties.items }

-- What contracts see of the code's `Entry`, with the view of what it records.
-- Shown by: first-run.
abbrev pub entry_of : Entry → batch.Entry
entry_of (entry.Control c) = batch.control (control_of c)
entry_of (entry.Accepted e) = batch.accepted (accepted_of e)
entry_of (entry.Attempt duty outcome) = batch.attempt duty outcome
entry_of (entry.ReplayStarted s) = batch.replay_started s
entry_of (entry.ReplayStepped s) = batch.replay_stepped (stepped_of s)
entry_of (entry.ReplayCancelled name) = batch.replay_cancelled name
entry_of (entry.MessagesDeleted queue through) = batch.messages_deleted queue through

-- What contracts see of the code's `Batch`, with its operations as a list.
-- Shown by: first-run.
abbrev pub batch_of : Batch → batch.Batch
batch_of b = record { moment = b.moment; entries = map entry_of b.entries.items }
