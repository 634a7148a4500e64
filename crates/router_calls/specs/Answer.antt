-- The router machine: what a request changes and what its reply is. Both are a function of the request, the tables, what matching found,
-- what became of its entries, and the policy that it names.
use Rattle.std.specs.Prelude.{◌≡◌, ℕ, ◌+◌, ◌≤◌, is_some, not, ◌&&◌, nat_lt, if◌then◌else◌, Bool, false, List, [], ◌∷◌, map}
use Rattle.std.specs.Prelude.{Option, Some, None, Ok, Err, codes}
use Rattle.json_text.specs.Compact.{compact_text}
use Rattle.json_text.specs.Limits.{most_together}
use Rattle.api_replies.specs.declared.member.Member.TheVariants as member
use Rattle.json_text.specs.Tree.{Tree, text, object, members_of}
use Rattle.event_time.specs.Time.{IsIso}
use Rattle.event_shape.specs.Names.{queue_arn, bus_arn, rule_arn}
use Rattle.event_shape.specs.Id.{event_id}
use Rattle.rule_targets.specs.declared.target.AskedTarget.{AskedTarget}
use Rattle.rule_targets.specs.declared.target.Target.{Target}
use Rattle.rule_table.specs.Control.{Control, bus_created, rule_put, rule_deleted, state_put, targets_put}
use Rattle.rule_table.specs.Control.{targets_removed, policy_put, queue_created, archive_created, archive_deleted}
use Rattle.rule_table.specs.RuleSet.{Rule, RuleSet, has_bus, rule_at}
use Rattle.api_replies.specs.declared.kind.Kind.TheVariants as kind
use Rattle.api_replies.specs.declared.cause.Cause.TheVariants as cause
use Rattle.api_replies.specs.Cause.{failed_members}
use Rattle.api_replies.specs.Reply.{Reply, served, refused}
use Rattle.router_requests.specs.Request.{Action, Request, create_event_bus, delete_event_bus, describe_event_bus, list_event_buses, put_rule, delete_rule}
use Rattle.router_requests.specs.Request.{put_rule_state, describe_rule, list_rules, put_targets, remove_targets, list_targets_by_rule}
use Rattle.router_requests.specs.Request.{list_rule_names_by_target, put_policy, put_statement, remove_policy, remove_statement, put_events}
use Rattle.router_requests.specs.Request.{test_event_pattern, create_archive, update_archive, delete_archive, describe_archive, list_archives}
use Rattle.router_requests.specs.Request.{start_replay, cancel_replay, describe_replay, list_replays, step_replays}
use Rattle.router_requests.specs.Request.{create_queue, delete_queue, peek_messages, delete_messages, duty_counts, deliver_due}
use Rattle.router_requests.specs.Request.{IsEntitled, IsOneTurn, IsPublishing}
use Rattle.router_requests.specs.Batch as batch
use Rattle.router_requests.specs.Bounds.{IsBounded}
use Rattle.router_requests.specs.Matching.{IsSeenResult}
use Rattle.router_core.specs.Tables.{Tables, is_full, moment_at}
use Rattle.router_requests.specs.declared.seen.SeenResult.{SeenResult}
use Rattle.config_views.specs.Views.{described_bus, listed_buses, described_rule, listed_rules, listed_targets, listed_rule_names}
use Rattle.config_views.specs.Archives.{archive_reply, described_archive, listed_archives}
use Rattle.config_views.specs.Replays.{described_replay, listed_replays}
use Rattle.call_replies.specs.Replies.{empty_reply, items_reply, targets_reply, peeked, duties_reply, tested_reply}
use Rattle.resource_calls.specs.Decision.{Decided, shown, refusal, writes, controlled}
use Rattle.resource_calls.specs.Decision.{queue_deletion, bus_deletion, messages_deletion, archive_update, replay_start, replay_cancellation}
use Rattle.router_calls.specs.Accepted.{Placed, ArePlaced, entries_seen, is_tested, events_in, failures_in}
use Rattle.router_calls.specs.Targets.{accepted_targets, failed_targets}
use Rattle.router_calls.specs.Removals.{removed_ids, failed_ids}
use Rattle.router_calls.specs.Permission.{IsPolicyNamed, has_statement, granting, revoking}

-- What is decided of a call on a bus: a missing bus is refused.
-- Shown by: tables router_calls.rows: each_change_is_answered.
abbrev pub on_bus : RuleSet → List ℕ → Decided → Decided
on_bus set bus decided = if has_bus bus set then decided else refusal (cause.NotFound kind.EventBus bus)

-- what is decided for the rule that is there, or the refusal of a rule of this name
abbrev pub for_rule : Option Rule → List ℕ → (Rule → Decided) → Decided
for_rule None name decided = refusal (cause.NotFound kind.Rule name)
for_rule (Some rule) name decided = decided rule

-- What is decided of a call on a rule: a missing bus or rule is refused.
-- Shown by: tables router_calls.rows: each_request_is_answered.
abbrev pub on_rule : RuleSet → List ℕ → List ℕ → (Rule → Decided) → Decided
on_rule set bus rule decided = on_bus set bus (for_rule (rule_at bus rule set) rule decided)

-- The bus exists, and has no rule of this name.
-- Shown by: a_missing_rule_writes.edit.
abbrev pub lacks_rule : List ℕ → List ℕ → RuleSet → Bool
lacks_rule bus name set = has_bus bus set && not (is_some (rule_at bus name set))

-- DeleteRule. A rule that does not exist is no fault, and nothing is written; else it is a change like others.
-- Shown by: a_missing_rule_writes.edit.
abbrev pub rule_deletion : RuleSet → List ℕ → List ℕ → Decided
rule_deletion set bus name = if lacks_rule bus name set then shown empty_reply else controlled set (rule_deleted bus name) empty_reply

-- A change of the items that succeeded, with the failed ones in the reply; without an item nothing is written.
-- Shown by: tables router_calls.rows: each_request_is_answered.
abbrev pub unless_none : {A : Type 0} → List A → Control → Reply → Decided
unless_none [] control reply = shown reply
unless_none (item ∷ items) control reply = writes (batch.control control) reply

-- PutTargets on a rule with these targets: those that are accepted are put as one change, and the others fail one by one.
-- Shown by: a_faulty_target_is_put.edit.
abbrev pub targets_decided : RuleSet → List ℕ → List ℕ → List Target → List AskedTarget → Decided
targets_decided set bus rule have targets = unless_none (accepted_targets set have targets)
    (targets_put bus rule (accepted_targets set have targets)) (targets_reply (failed_targets set have targets))

-- RemoveTargets on a rule with these targets: those ids that are targets' are removed as one change, and the others fail one by one.
-- Shown by: a_removed_id_is_removed_twice.edit.
abbrev pub removals_decided : List ℕ → List ℕ → List Target → List (List ℕ) → Decided
removals_decided bus rule have ids =
    unless_none (removed_ids ids have) (targets_removed bus rule (removed_ids ids have)) (targets_reply (failed_ids ids have))

-- PutPermission of a statement, on a bus with this policy: refused if the policy has its StatementId already, else the policy with the
-- statement is put.
-- Shown by: a_statement_put_first.edit.
abbrev pub statement_put : RuleSet → List ℕ → List ℕ → Option (List ℕ) → Option Tree → Decided
statement_put set bus sid account policy =
    if has_statement sid policy then refusal (cause.StatementExists sid)
    else controlled set (policy_put bus (Some (compact_text (granting bus sid account policy)))) empty_reply

-- RemovePermission of a statement, on a bus with this policy: refused without a StatementId, or if the policy has no such statement; else
-- what is left of the policy is put.
-- Shown by: tables router_calls.rows: each_change_is_answered.
abbrev pub statement_removed : RuleSet → List ℕ → Option (List ℕ) → Option Tree → Decided
statement_removed set bus None policy = refusal (cause.Required member.StatementId)
statement_removed set bus (Some sid) policy =
    if has_statement sid policy then controlled set (policy_put bus (revoking sid policy)) empty_reply else refusal (cause.NoStatement sid)

-- The item of an entry: its event's id, or why it failed.
-- Shown by: tables router_calls.rows: each_request_is_answered.
abbrev pub entry_report : Placed → Tree
entry_report (Ok e) = object (members_of ((codes "EventId", text (event_id e.number)) ∷ []))
entry_report (Err c) = object (members_of (failed_members c))

-- The reply to a PutEvents: an item for each entry, in their order.
-- Shown by: tables router_calls.rows: each_request_is_answered.
abbrev pub entries_reply : List Placed → Reply
entries_reply all = items_reply (failures_in all) (codes "Entries") (map entry_report all)

-- The accepted events of a PutEvents as one batch, with an item for each entry in the reply.
-- Shown by: entries.
abbrev pub published : List Placed → Decided
published all = record { entries = map batch.accepted (events_in all); reply = entries_reply all }

-- PutEvents, by what became of its entries. Entries of more than 262,144 bytes together are refused as a whole. Else each has become an
-- event, numbered after the last one, or has failed by itself.
-- Shown by: a_byte_too_many_is_accepted.edit.
abbrev pub publication : List Placed → ℕ → Decided
publication placed size = if nat_lt most_together size then refusal cause.TooLargeTogether else published placed

-- What is decided of an action at the moment of its turn, from the tables before it. Arguments are what matching found of it, what became of its entries
-- (`HasPlaced`), and the policy of the bus that it names (`IsPolicyNamed`). Everything but events goes by the tables' own rule set. What is
-- said of a DeliverDue and of a StepReplays has no use: they are answered by their steps (router_sessions `IsDelivery`, `IsRepetition`).
-- Shown by: tables router_calls.rows: each_request_is_answered.
abbrev pub decided : Tables → ℕ → SeenResult → List Placed → Option Tree → Action → Decided
decided t moment seen placed policy (create_event_bus name) =
    controlled t.set (bus_created name) (served ((codes "EventBusArn", text (bus_arn name)) ∷ []))
decided t moment seen placed policy (delete_event_bus name) = bus_deletion t name
decided t moment seen placed policy (describe_event_bus name) = shown (described_bus name t.set)
decided t moment seen placed policy (list_event_buses prefix) = shown (listed_buses prefix t.set)
decided t moment seen placed policy (put_rule bus name pattern enabled) =
    controlled t.set (rule_put bus name pattern enabled) (served ((codes "RuleArn", text (rule_arn bus name)) ∷ []))
decided t moment seen placed policy (delete_rule bus name) = rule_deletion t.set bus name
decided t moment seen placed policy (put_rule_state bus name enabled) = controlled t.set (state_put bus name enabled) empty_reply
decided t moment seen placed policy (describe_rule bus name) = shown (described_rule bus name t.set)
decided t moment seen placed policy (list_rules bus prefix) = shown (listed_rules bus prefix t.set)
decided t moment seen placed policy (put_targets bus rule targets) = on_rule t.set bus rule (λ r. targets_decided t.set bus rule r.targets targets)
decided t moment seen placed policy (remove_targets bus rule ids) = on_rule t.set bus rule (λ r. removals_decided bus rule r.targets ids)
decided t moment seen placed policy (list_targets_by_rule bus rule) = shown (listed_targets bus rule t.set)
decided t moment seen placed policy (list_rule_names_by_target arn bus) = shown (listed_rule_names arn bus t.set)
decided t moment seen placed policy (put_policy bus given) = controlled t.set (policy_put bus (Some given)) empty_reply
decided t moment seen placed policy (put_statement bus sid account) = on_bus t.set bus (statement_put t.set bus sid account policy)
decided t moment seen placed policy (remove_policy bus) = controlled t.set (policy_put bus None) empty_reply
decided t moment seen placed policy (remove_statement bus sid) = on_bus t.set bus (statement_removed t.set bus sid policy)
decided t moment seen placed policy (put_events entries size) = publication placed size
decided t moment seen placed policy (test_event_pattern pattern event) = shown (tested_reply (is_tested seen))
decided t moment seen placed policy (create_archive name bus pattern days) =
    controlled t.set (archive_created name bus pattern days) (archive_reply name moment)
decided t moment seen placed policy (update_archive name pattern days) = archive_update t name pattern days
decided t moment seen placed policy (delete_archive name) = controlled t.set (archive_deleted name) empty_reply
decided t moment seen placed policy (describe_archive name) = shown (described_archive name moment t.set t.archives)
decided t moment seen placed policy (list_archives prefix source state) =
    shown (listed_archives prefix source state moment t.set t.archives)
decided t moment seen placed policy (start_replay s bus) = replay_start t moment s bus
decided t moment seen placed policy (cancel_replay name) = replay_cancellation t name
decided t moment seen placed policy (describe_replay name) = shown (described_replay name t.replays)
decided t moment seen placed policy (list_replays prefix source state) = shown (listed_replays prefix source state t.replays)
decided t moment seen placed policy (create_queue name) =
    controlled t.set (queue_created name) (served ((codes "QueueArn", text (queue_arn name)) ∷ []))
decided t moment seen placed policy (delete_queue name) = queue_deletion t name
decided t moment seen placed policy (peek_messages queue limit) = shown (peeked queue limit t.set t.duties)
decided t moment seen placed policy (delete_messages queue through) = messages_deletion t queue through
decided t moment seen placed policy duty_counts = shown (duties_reply t.duties)
decided t moment seen placed policy (deliver_due budget) = shown empty_reply
decided t moment seen placed policy (step_replays budget) = shown empty_reply

-- What a request's turn writes, a batch or none, and its reply.
-- Shown by: tables router_calls.rows: each_request_is_answered.
pub record Answer : Type 0 where
  pub batch : Option batch.Batch
  pub reply : Reply

-- These operations as one batch of a moment, with the reply. Without an operation nothing is written. At the number limit nothing is written
-- either, and the request is refused.
-- Shown by: tables router_calls.rows: each_request_is_answered.
abbrev pub written : Tables → ℕ → List batch.Entry → Reply → Answer
written t moment [] reply = record { batch = None; reply = reply }
written t moment (entry ∷ entries) reply =
    if is_full t then record { batch = None; reply = refused cause.NumberLimit }
    else record { batch = Some (record { moment = moment; entries = entry ∷ entries }); reply = reply }

-- The answer that follows from a decision, at the moment of the turn.
-- Shown by: tables router_calls.rows: each_request_is_answered.
abbrev pub answer_at : Tables → ℕ → Decided → Answer
answer_at t moment d = written t moment d.entries d.reply

-- What became of the entries of a PutEvents, matched on configuration version k and filled with this time text. The first event is numbered
-- after the last one of the tables. Nothing is said of another action, or of a PutEvents that is refused as a whole.
-- Shown by: tables router_calls.rows: each_request_is_answered.
abbrev pub HasPlaced : Tables → ℕ → List ℕ → SeenResult → Action → List Placed → Type 0
HasPlaced t k time seen (put_events entries size) placed =
    nat_lt most_together size ≡ false → ArePlaced k (t.events + 1) time entries (entries_seen t.set seen) placed
HasPlaced t k time seen action placed = Unit {0}

-- The answer to a request that one turn answers: `decided` at the moment of the turn, on a configuration version that the tables have had.
-- Only a PutEvents may be matched on an earlier version than the latest. Each entry that is accepted is an event at the moment of its time,
-- and its targets get texts that are filled at the moment of the turn.
-- A request outside `IsBounded` has no answer, and neither has one that its caller may not make (router_core `IsEntitled`).
-- Shown by: tables router_calls.rows: each_request_is_answered.
pub record IsAnswer (t : Tables) (request : Request) (k : ℕ) (set : RuleSet) (a : Answer) : Type 0 where
  pub bounded : IsBounded request.action
  pub entitled : IsEntitled request
  pub one_turn : IsOneTurn request.action
  pub version : set.count ≡ k
  pub known : k ≤ t.set.count
  pub latest : (IsPublishing request.action → ⊥) → set ≡ t.set
  pub seen : SeenResult
  pub is_seen : IsSeenResult set request.caller request.action seen
  pub policy : Option Tree
  pub is_policy : IsPolicyNamed t.set request.action policy
  pub time : List ℕ
  pub is_time : IsIso (moment_at t request.reading) time
  pub placed : List Placed
  pub has_placed : HasPlaced t k time seen request.action placed
  pub answers : a ≡ answer_at t (moment_at t request.reading) (decided t (moment_at t request.reading) seen placed policy request.action)
