-- The bounds of a request: outside them it has no answer. What a change of the configuration has to be by itself is `IsWellFormed`.
use Rattle.std.specs.Prelude.{◌≡◌, ◌≤◌, ◌<◌, ◌^◌, ℕ, List, length, Option, Some, None, unwrap_or, Result, Ok, Err, All, IfSome}
use Rattle.json_text.specs.Moment.{IsMoment}
use Rattle.json_text.specs.Tree.{Tree}
use Rattle.json_text.specs.Compact.{IsValue, compact_text}
use Rattle.event_shape.specs.Names.{IsArchiveName, IsBusName, IsQueueName, IsShortName}
use Rattle.event_shape.specs.Unnumbered.{Unnumbered}
use Rattle.event_shape.specs.declared.entry.EntryFault.{EntryFault}
use Rattle.bus_policy.specs.Stored.{IsStored}
use Rattle.bus_policy.specs.Change.{IsAccountGiven}
use Rattle.bus_policy.specs.StatementId.{IsStatementId}
use Rattle.rule_table.specs.Control.{bus_created, bus_deleted, rule_put, rule_deleted, state_put, targets_removed, policy_put, queue_created}
use Rattle.rule_table.specs.Control.{queue_deleted, archive_created, archive_updated, archive_deleted}
use Rattle.rule_targets.specs.Target.{HasValidReads}
use Rattle.rule_targets.specs.Checks.{IsTargetArn}
use Rattle.rule_table.specs.WellFormed.{IsWellFormed, IsSomePattern}
use Rattle.rule_targets.specs.WellFormed.{NamesRule}
use Rattle.router_requests.specs.Request.{Action, create_event_bus, delete_event_bus, describe_event_bus, list_event_buses, put_rule, delete_rule}
use Rattle.router_requests.specs.Request.{put_rule_state, describe_rule, list_rules, put_targets, remove_targets, list_targets_by_rule}
use Rattle.router_requests.specs.Request.{list_rule_names_by_target, put_policy, put_statement, remove_policy, remove_statement, put_events}
use Rattle.router_requests.specs.Request.{create_archive, update_archive, delete_archive, describe_archive, list_archives}
use Rattle.router_requests.specs.Request.{start_replay, cancel_replay, describe_replay, list_replays, step_replays}
use Rattle.router_requests.specs.declared.batch.StartedReplay.{StartedReplay}
use Rattle.router_requests.specs.Request.{test_event_pattern, create_queue, delete_queue, peek_messages, delete_messages, duty_counts, deliver_due}

-- An entry without a fault is for a bus name.
-- Shown by: tables router_calls.rows: each_request_is_answered.
abbrev pub IsForBus : Result Unnumbered EntryFault → Type 0
IsForBus (Ok event) = IsBusName event.bus
IsForBus (Err fault) = Unit {0}

-- A StatementId, if one is given.
-- Shown by: tables router_calls.rows: each_change_is_answered.
abbrev pub IsStatementIdIfGiven : Option (List ℕ) → Type 0
IsStatementIdIfGiven None = Unit {0}
IsStatementIdIfGiven (Some sid) = IsStatementId sid

-- A start of a replay on a bus: the names of the replay, the archive, the bus and the rules of the filter have their syntax, and the ends of the
-- range are moments. The range may be empty.
-- Shown by: replays.
pub record IsStartBounded (s : StartedReplay) (bus : List ℕ) : Type 0 where
  pub name : IsShortName s.name
  pub archive : IsArchiveName s.archive
  pub bus_name : IsBusName bus
  pub start : IsMoment s.range.start
  pub end : IsMoment s.range.end
  pub rules : IfSome s.rules (All IsShortName)

-- The names of buses, rules, archives, replays and queues have their syntax, and so have a TargetArn, a StatementId and the ids of a RemoveTargets. The
-- members of a target are checked later, target by target; what was read of its input is valid. As in the Amazon EventBridge API Reference, a PutTargets has 1 to 100 targets, a
-- RemoveTargets 1 to 100 ids, a PutEvents 1 to 10 entries, each for a bus name or faulty. By this project's own rule, a PeekMessages shows
-- 1 to 1,000 messages, a DeleteMessages deletes those up to a number below 2 ^ 48, a DeliverDue or a StepReplays makes 1 to 1,000 steps.
-- A PutRule has a pattern, a TestEventPattern a pattern and a JSON value. A policy that is put is one as it is stored, of any length; a statement that is
-- put is for an account or for everyone.
-- Shown by: tables api_wire.rows: a_message_has_its_first_refusal.
abbrev pub IsBounded : Action → Type 0
IsBounded (create_event_bus name) = IsWellFormed (bus_created name)
IsBounded (delete_event_bus name) = IsWellFormed (bus_deleted name)
IsBounded (describe_event_bus name) = IsBusName name
IsBounded (list_event_buses prefix) = Unit {0}
IsBounded (put_rule bus name pattern enabled) = IsWellFormed (rule_put bus name pattern enabled)
IsBounded (delete_rule bus name) = IsWellFormed (rule_deleted bus name)
IsBounded (put_rule_state bus name enabled) = IsWellFormed (state_put bus name enabled)
IsBounded (describe_rule bus name) = NamesRule bus name
IsBounded (list_rules bus prefix) = IsBusName bus
IsBounded (put_targets bus rule targets) = NamesRule bus rule × (1 ≤ length targets) × (length targets ≤ 100) × All HasValidReads targets
IsBounded (remove_targets bus rule ids) = IsWellFormed (targets_removed bus rule ids)
IsBounded (list_targets_by_rule bus rule) = NamesRule bus rule
IsBounded (list_rule_names_by_target arn bus) = IsBusName bus × IsTargetArn arn
IsBounded (put_policy bus policy) = IsBusName bus × ((value : Tree) × IsStored value × (policy ≡ compact_text value))
IsBounded (put_statement bus sid account) = IsBusName bus × IsStatementId sid × IsAccountGiven account
IsBounded (remove_policy bus) = IsWellFormed (policy_put bus None)
IsBounded (remove_statement bus sid) = IsBusName bus × IsStatementIdIfGiven sid
IsBounded (put_events entries size) = (1 ≤ length entries) × (length entries ≤ 10) × All IsForBus entries
IsBounded (test_event_pattern pattern event) = IsSomePattern pattern × IsValue event
IsBounded (create_archive name bus pattern days) = IsWellFormed (archive_created name bus pattern days)
IsBounded (update_archive name pattern days) = IsWellFormed (archive_updated name pattern (unwrap_or days 0))
IsBounded (delete_archive name) = IsWellFormed (archive_deleted name)
IsBounded (describe_archive name) = IsArchiveName name
IsBounded (list_archives prefix source state) = Unit {0}
IsBounded (start_replay start bus) = IsStartBounded start bus
IsBounded (cancel_replay name) = IsShortName name
IsBounded (describe_replay name) = IsShortName name
IsBounded (list_replays prefix source state) = Unit {0}
IsBounded (create_queue name) = IsWellFormed (queue_created name)
IsBounded (delete_queue name) = IsWellFormed (queue_deleted name)
IsBounded (peek_messages queue limit) = IsQueueName queue × (1 ≤ limit) × (limit ≤ 1000)
IsBounded (delete_messages queue through) = IsQueueName queue × (through < 2 ^ 48)
IsBounded duty_counts = Unit {0}
IsBounded (deliver_due budget) = (1 ≤ budget) × (budget ≤ 1000)
IsBounded (step_replays budget) = (1 ≤ budget) × (budget ≤ 1000)
