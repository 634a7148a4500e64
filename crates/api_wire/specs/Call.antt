-- Which request a message asks for, and its first refusal.
use Rattle.std.specs.Prelude.{◌≡◌, ℕ, ◌-◌, ◌^◌, min, Bool, true, false, not, List, [], ◌∷◌, Option, Some, None, Result, if◌then◌else◌}
use Rattle.std.specs.Prelude.{codes, unwrap_or, IsTrue}
use Rattle.std.specs.Str.{bytes_eq}
use Rattle.std.specs.Option.{option_and_then, option_map}
use Rattle.json_text.specs.Tree.{Tree, truth, object, Members, no_members}
use Rattle.json_text.specs.Compact.{compact_text}
use Rattle.json_text.specs.Node.{Node, value_of}
use Rattle.json_text.specs.Grammar.{IsText}
use Rattle.json_text.specs.Checks.{Check, else_fault, IsFirst}
use Rattle.event_shape.specs.Names.{owner, is_account}
use Rattle.event_shape.specs.Unnumbered.{Unnumbered}
use Rattle.event_shape.specs.declared.entry.EntryFault.{EntryFault}
use Rattle.bus_policy.specs.Text.{IsPolicyText}
use Rattle.rule_targets.specs.declared.target.AskedRetry.{AskedRetry}
use Rattle.rule_targets.specs.declared.target.AskedTarget.{AskedTarget}
use Rattle.rule_targets.specs.Target.{IsAskedAs}
use Rattle.router_requests.specs.Request.{Action, Request, create_event_bus, delete_event_bus, describe_event_bus, list_event_buses, put_rule, delete_rule}
use Rattle.router_requests.specs.Request.{put_rule_state, describe_rule, list_rules, put_targets, remove_targets, list_targets_by_rule}
use Rattle.router_requests.specs.Request.{list_rule_names_by_target, put_policy, put_statement, remove_policy, remove_statement, put_events}
use Rattle.router_requests.specs.Request.{test_event_pattern, create_archive, update_archive, delete_archive, describe_archive, list_archives}
use Rattle.router_requests.specs.Request.{start_replay, cancel_replay, describe_replay, list_replays, step_replays}
use Rattle.router_requests.specs.Request.{create_queue, delete_queue, peek_messages, delete_messages, deliver_due, duty_counts}
use Rattle.api_replies.specs.declared.member.Member.{Member}
use Rattle.api_replies.specs.declared.member.Member.TheVariants as member
use Rattle.api_replies.specs.declared.cause.Cause.{Cause}
use Rattle.api_replies.specs.declared.cause.Cause.TheVariants as cause
use Rattle.api_members.specs.declared.asked.Asked.{Asked}
use Rattle.api_members.specs.declared.asked.Asked.TheVariants.{Required, Optional}
use Rattle.api_members.specs.declared.asked.Syntax.TheVariants as syntax
use Rattle.api_members.specs.Given.{given, text_given, text_of, values_in, members_in}
use Rattle.api_members.specs.Entry.{texts_of, entries_of}
use Rattle.api_members.specs.CheckedEntry.{AreChecked, total_size}
use Rattle.api_members.specs.Event.{IsEventGiven}
use Rattle.api_members.specs.Count.{count_given}
use Rattle.api_members.specs.Target.{attempts_given, age_given, dead_letter_given, input_given, path_given, transformer_given}
use Rattle.api_members.specs.Value.{archive_of_source, bus_of_source, bus_or_default, destination_of, filter_given, IsTimeGiven}
use Rattle.api_members.specs.Refusal.{AreSound, IsFirstRefusal}
use Rattle.api_wire.specs.declared.call.operation.Operation.{Operation}
use Rattle.api_wire.specs.declared.call.operation.Operation.TheVariants.{CreateEventBus, DeleteEventBus, DescribeEventBus, ListEventBuses}
use Rattle.api_wire.specs.declared.call.operation.Operation.TheVariants.{PutRule, DeleteRule, EnableRule, DisableRule, DescribeRule, ListRules}
use Rattle.api_wire.specs.declared.call.operation.Operation.TheVariants.{PutTargets, RemoveTargets, ListTargetsByRule, ListRuleNamesByTarget}
use Rattle.api_wire.specs.declared.call.operation.Operation.TheVariants.{PutPermission, RemovePermission, PutEvents, TestEventPattern}
use Rattle.api_wire.specs.declared.call.operation.Operation.TheVariants.{CreateArchive, UpdateArchive, DeleteArchive, DescribeArchive, ListArchives}
use Rattle.api_wire.specs.declared.call.operation.Operation.TheVariants.{StartReplay, CancelReplay, DescribeReplay, ListReplays, StepReplays}
use Rattle.api_wire.specs.declared.call.operation.Operation.TheVariants.{CreateQueue, DeleteQueue, PeekMessages, DeleteMessages, DeliverDue, DutyCounts}
use Rattle.api_messages.specs.declared.message.Message.{Message}

-- The operations that are this project's own: those whose name begins with `RouterLocal.`
-- Shown by: tables api_wire.rows: a_deletion_has_its_first_refusal.
abbrev pub local_operation : List ℕ → Option Operation
local_operation name =
    if bytes_eq name (codes "RouterLocal.CreateQueue") then Some CreateQueue else (
    if bytes_eq name (codes "RouterLocal.DeleteQueue") then Some DeleteQueue else (
    if bytes_eq name (codes "RouterLocal.PeekMessages") then Some PeekMessages else (
    if bytes_eq name (codes "RouterLocal.DeleteMessages") then Some DeleteMessages else (
    if bytes_eq name (codes "RouterLocal.DeliverDue") then Some DeliverDue else (
    if bytes_eq name (codes "RouterLocal.StepReplays") then Some StepReplays else (
    if bytes_eq name (codes "RouterLocal.DutyCounts") then Some DutyCounts else None))))))

-- The operations on replays.
-- Shown by: replays.
abbrev pub replay_operation : List ℕ → Option Operation
replay_operation name =
    if bytes_eq name (codes "AWSEvents.StartReplay") then Some StartReplay else (
    if bytes_eq name (codes "AWSEvents.CancelReplay") then Some CancelReplay else (
    if bytes_eq name (codes "AWSEvents.DescribeReplay") then Some DescribeReplay else (
    if bytes_eq name (codes "AWSEvents.ListReplays") then Some ListReplays else local_operation name)))

-- The operations on archives.
-- Shown by: archives.
abbrev pub archive_operation : List ℕ → Option Operation
archive_operation name =
    if bytes_eq name (codes "AWSEvents.CreateArchive") then Some CreateArchive else (
    if bytes_eq name (codes "AWSEvents.UpdateArchive") then Some UpdateArchive else (
    if bytes_eq name (codes "AWSEvents.DeleteArchive") then Some DeleteArchive else (
    if bytes_eq name (codes "AWSEvents.DescribeArchive") then Some DescribeArchive else (
    if bytes_eq name (codes "AWSEvents.ListArchives") then Some ListArchives else replay_operation name))))

-- The operation of an X-Amz-Target, compared exactly: `RouterLocal.CreateQueue` has one, `routerlocal.createqueue` has none.
-- Shown by: tables api_wire.rows: a_message_has_its_first_refusal.
abbrev pub named_operation : List ℕ → Option Operation
named_operation name =
    if bytes_eq name (codes "AWSEvents.CreateEventBus") then Some CreateEventBus else (
    if bytes_eq name (codes "AWSEvents.DeleteEventBus") then Some DeleteEventBus else (
    if bytes_eq name (codes "AWSEvents.DescribeEventBus") then Some DescribeEventBus else (
    if bytes_eq name (codes "AWSEvents.ListEventBuses") then Some ListEventBuses else (
    if bytes_eq name (codes "AWSEvents.PutRule") then Some PutRule else (
    if bytes_eq name (codes "AWSEvents.DeleteRule") then Some DeleteRule else (
    if bytes_eq name (codes "AWSEvents.EnableRule") then Some EnableRule else (
    if bytes_eq name (codes "AWSEvents.DisableRule") then Some DisableRule else (
    if bytes_eq name (codes "AWSEvents.DescribeRule") then Some DescribeRule else (
    if bytes_eq name (codes "AWSEvents.ListRules") then Some ListRules else (
    if bytes_eq name (codes "AWSEvents.PutTargets") then Some PutTargets else (
    if bytes_eq name (codes "AWSEvents.RemoveTargets") then Some RemoveTargets else (
    if bytes_eq name (codes "AWSEvents.ListTargetsByRule") then Some ListTargetsByRule else (
    if bytes_eq name (codes "AWSEvents.ListRuleNamesByTarget") then Some ListRuleNamesByTarget else (
    if bytes_eq name (codes "AWSEvents.PutPermission") then Some PutPermission else (
    if bytes_eq name (codes "AWSEvents.RemovePermission") then Some RemovePermission else (
    if bytes_eq name (codes "AWSEvents.PutEvents") then Some PutEvents else (
    if bytes_eq name (codes "AWSEvents.TestEventPattern") then Some TestEventPattern else archive_operation name)))))))))))))))))

-- The operation of an optional X-Amz-Target. A message without the field has none.
-- Shown by: tables api_wire.rows: a_message_has_its_first_refusal.
abbrev pub operation_of : Option (List ℕ) → Option Operation
operation_of None = None
operation_of (Some name) = named_operation name

-- What a PutPermission asks: with a Policy nothing of a statement. A Condition is refused after the other members, but before a fault of
-- the policy.
-- Shown by: tables api_wire.rows: a_permission_is_refused_for_its_first_member.
abbrev pub permission_asked : Option Tree → List Asked
permission_asked None = Optional member.EventBusName syntax.Bus ∷ Required member.StatementId syntax.StatementId
    ∷ Required member.Action syntax.PutEventsAction ∷ Required member.Principal syntax.Principal ∷ Optional member.Condition syntax.Unserved ∷ []
permission_asked (Some policy) = Optional member.EventBusName syntax.Bus ∷ Required member.Policy syntax.AnyText
    ∷ Optional member.Condition syntax.Unserved ∷ Required member.Policy syntax.Policy ∷ []

-- What each operation asks of its members, in the order in which they are checked. A PutPermission asks otherwise if a Policy is given.
-- Shown by: tables api_wire.rows: a_rule_is_refused_for_its_first_member, a_call_on_a_bus_has_its_first_refusal,
-- a_removal_has_its_first_refusal.
abbrev pub asked : Operation → Members → List Asked
asked CreateEventBus ms = Required member.Name syntax.BusName ∷ []
asked DeleteEventBus ms = Required member.Name syntax.BusName ∷ []
asked DescribeEventBus ms = Optional member.Name syntax.Bus ∷ []
asked ListEventBuses ms = Optional member.NamePrefix syntax.AnyText ∷ []
asked PutRule ms = Required member.Name syntax.RuleName ∷ Required member.EventPattern syntax.Pattern
    ∷ Optional member.ScheduleExpression syntax.Unserved ∷ Optional member.State syntax.State ∷ Optional member.EventBusName syntax.Bus ∷ []
asked DeleteRule ms = Required member.Name syntax.RuleName ∷ Optional member.EventBusName syntax.Bus ∷ []
asked EnableRule ms = Required member.Name syntax.RuleName ∷ Optional member.EventBusName syntax.Bus ∷ []
asked DisableRule ms = Required member.Name syntax.RuleName ∷ Optional member.EventBusName syntax.Bus ∷ []
asked DescribeRule ms = Required member.Name syntax.RuleName ∷ Optional member.EventBusName syntax.Bus ∷ []
asked ListRules ms = Optional member.NamePrefix syntax.AnyText ∷ Optional member.EventBusName syntax.Bus ∷ []
asked PutTargets ms = Required member.Rule syntax.RuleName ∷ Optional member.EventBusName syntax.Bus ∷ Required member.Targets syntax.Targets ∷ []
asked RemoveTargets ms = Required member.Rule syntax.RuleName ∷ Optional member.EventBusName syntax.Bus ∷ Required member.Ids syntax.Ids ∷ []
asked ListTargetsByRule ms = Required member.Rule syntax.RuleName ∷ Optional member.EventBusName syntax.Bus ∷ []
asked ListRuleNamesByTarget ms = Required member.TargetArn syntax.TargetArn ∷ Optional member.EventBusName syntax.Bus ∷ []
asked PutPermission ms = permission_asked (given member.Policy ms)
asked RemovePermission ms = Optional member.EventBusName syntax.Bus ∷ Optional member.RemoveAllPermissions syntax.Truth
    ∷ Optional member.StatementId syntax.StatementId ∷ []
asked PutEvents ms = Required member.Entries syntax.Entries ∷ []
asked TestEventPattern ms = Required member.EventPattern syntax.Pattern ∷ Required member.Event syntax.Event ∷ []
asked CreateArchive ms = Required member.ArchiveName syntax.ArchiveName ∷ Required member.EventSourceArn syntax.BusArn
    ∷ Optional member.EventPattern syntax.Pattern ∷ Optional member.RetentionDays (syntax.Count 0 2147483647) ∷ []
asked UpdateArchive ms = Required member.ArchiveName syntax.ArchiveName ∷ Optional member.EventPattern syntax.Pattern
    ∷ Optional member.RetentionDays (syntax.Count 0 2147483647) ∷ []
asked DeleteArchive ms = Required member.ArchiveName syntax.ArchiveName ∷ []
asked DescribeArchive ms = Required member.ArchiveName syntax.ArchiveName ∷ []
asked ListArchives ms = Optional member.NamePrefix syntax.AnyText ∷ Optional member.EventSourceArn syntax.AnyText
    ∷ Optional member.State syntax.ArchiveState ∷ []
asked StartReplay ms = Required member.ReplayName syntax.ReplayName ∷ Required member.EventSourceArn syntax.ArchiveArn
    ∷ Required member.EventStartTime syntax.Time ∷ Required member.EventEndTime syntax.Time ∷ Required member.Destination syntax.Destination ∷ []
asked CancelReplay ms = Required member.ReplayName syntax.ReplayName ∷ []
asked DescribeReplay ms = Required member.ReplayName syntax.ReplayName ∷ []
asked ListReplays ms = Optional member.NamePrefix syntax.AnyText ∷ Optional member.EventSourceArn syntax.AnyText
    ∷ Optional member.State syntax.ReplayState ∷ []
asked CreateQueue ms = Required member.QueueName syntax.QueueName ∷ []
asked DeleteQueue ms = Required member.QueueName syntax.QueueName ∷ []
asked PeekMessages ms = Required member.QueueName syntax.QueueName ∷ Optional member.Limit (syntax.Count 1 1000) ∷ []
asked DeleteMessages ms = Required member.QueueName syntax.QueueName ∷ Required member.Through (syntax.Count 0 281474976710655) ∷ []
asked DeliverDue ms = Optional member.Budget (syntax.Count 1 1000) ∷ []
asked StepReplays ms = Optional member.Budget (syntax.Count 1 1000) ∷ []
asked DutyCounts ms = []

-- The bus whose name or ARN this member gives, or else `default`.
-- Shown by: an_arn_is_taken_for_a_name.edit; rules-and-targets.
abbrev pub bus_named : Member → Members → List ℕ
bus_named m ms = bus_or_default (text_given m ms)

-- The `bus_named` of the member EventBusName.
-- Shown by: tables api_wire.rows: a_request_has_what_the_message_gives.
abbrev pub event_bus : Members → List ℕ
event_bus ms = bus_named member.EventBusName ms

-- Whom a Principal names: `*` is everyone, any other text an account.
-- Shown by: tables api_wire.rows: a_permission_has_what_the_message_gives.
abbrev pub account_in : List ℕ → Option (List ℕ)
account_in principal = if bytes_eq principal (codes "*") then None else Some principal

-- The text as which the policy of this text is stored.
-- Shown by: tables api_wire.rows: a_permission_has_what_the_message_gives.
abbrev pub IsStoredAs : List ℕ → List ℕ → Type 0
IsStoredAs given_text stored = (policy : Tree) × IsPolicyText given_text policy × (stored ≡ compact_text policy)

-- RemoveAllPermissions is given as `true`.
-- Shown by: tables api_wire.rows: a_removal_has_what_the_message_gives.
abbrev pub removes_all : Option Tree → Bool
removes_all (Some (truth b)) = b
removes_all _ = false

-- A rule is enabled unless its State is `DISABLED`.
-- Shown by: tables api_wire.rows: a_request_has_what_the_message_gives.
abbrev pub is_enabled : Option (List ℕ) → Bool
is_enabled None = true
is_enabled (Some state) = not (bytes_eq state (codes "DISABLED"))

-- The retry policy that is given; an absent number is its default, so `{}` has both.
-- Shown by: an_empty_retry_policy_is_none.edit.
abbrev pub retry_given : Option Tree → Option AskedRetry
retry_given None = None
retry_given (Some policy) = Some (record { attempts = attempts_given (members_in policy); age = age_given (members_in policy) })

-- The target with these members: its id and ARN, what is read of its Input, its InputPath and its InputTransformer, its retry policy and its
-- dead-letter queue.
-- Shown by: tables api_wire.rows: a_request_has_what_the_message_gives; inputs.
pub record IsTargetWith (ms : Members) (target : AskedTarget) : Type 0 where
  pub id : target.id ≡ text_of member.Id ms
  pub arn : target.arn ≡ text_of member.Arn ms
  pub input : IsAskedAs (input_given ms) target.input
  pub input_path : IsAskedAs (path_given ms) target.input_path
  pub transformer : IsAskedAs (transformer_given ms) target.transformer
  pub retry : target.retry ≡ retry_given (given member.RetryPolicy ms)
  pub dead_letter : target.dead_letter ≡ dead_letter_given ms

-- The targets that the values of a list are, in order.
-- Shown by: targets_are_read_in_reverse.edit.
abbrev pub AreTargets : List Tree → List AskedTarget → Type 0
AreTargets [] all = all ≡ []
AreTargets (tree ∷ trees) all = (one : AskedTarget) × (rest : List AskedTarget)
    × (all ≡ one ∷ rest) × IsTargetWith (members_in tree) one × AreTargets trees rest

-- A RemovePermission: the whole policy, or one statement of it.
-- Shown by: tables api_wire.rows: a_removal_has_what_the_message_gives.
abbrev pub removal_in : Members → Action
removal_in ms =
    if removes_all (given member.RemoveAllPermissions ms) then remove_policy (event_bus ms) else remove_statement (event_bus ms) (text_given member.StatementId ms)

-- The number of days that is given, from 0 to 2,147,483,647.
-- Shown by: archives.
abbrev pub days_given : Members → Option ℕ
days_given ms = count_given 0 2147483647 (given member.RetentionDays ms)

-- A CreateArchive on the bus of this name. Without RetentionDays it keeps events forever.
-- Shown by: archives; an_archive_keeps_for_a_day.edit.
abbrev pub creation_in : Members → List ℕ → Action
creation_in ms bus = create_archive (text_of member.ArchiveName ms) bus (text_given member.EventPattern ms) (unwrap_or (days_given ms) 0)

-- The number of steps that is given, from 1 to 1,000, or 100 if none is.
-- Shown by: the_default_budget_is_the_limit.edit.
abbrev pub budget_of : Members → ℕ
budget_of ms = unwrap_or (count_given 1 1000 (given member.Budget ms)) 100

-- The action that sound members of an operation make, a line for each operation. PutTargets, PutPermission, PutEvents, TestEventPattern and
-- StartReplay have none here: theirs depend on what a text or a time spells, on the caller or on the reading (`IsAction`). A DeleteMessages has
-- one if its Through is valid, and a CreateArchive if its EventSourceArn is.
-- Shown by: tables api_wire.rows: a_request_has_what_the_message_gives, a_call_on_a_queue_has_what_the_message_gives,
-- a_call_on_a_rule_has_what_the_message_gives, a_removal_has_what_the_message_gives; the_default_budget_is_the_limit.edit.
abbrev pub action_in : Operation → Members → Option Action
action_in CreateEventBus ms = Some (create_event_bus (text_of member.Name ms))
action_in DeleteEventBus ms = Some (delete_event_bus (text_of member.Name ms))
action_in DescribeEventBus ms = Some (describe_event_bus (bus_named member.Name ms))
action_in ListEventBuses ms = Some (list_event_buses (text_given member.NamePrefix ms))
action_in PutRule ms = Some (put_rule (event_bus ms) (text_of member.Name ms) (text_of member.EventPattern ms) (is_enabled (text_given member.State ms)))
action_in DeleteRule ms = Some (delete_rule (event_bus ms) (text_of member.Name ms))
action_in EnableRule ms = Some (put_rule_state (event_bus ms) (text_of member.Name ms) true)
action_in DisableRule ms = Some (put_rule_state (event_bus ms) (text_of member.Name ms) false)
action_in DescribeRule ms = Some (describe_rule (event_bus ms) (text_of member.Name ms))
action_in ListRules ms = Some (list_rules (event_bus ms) (text_given member.NamePrefix ms))
action_in RemoveTargets ms = Some (remove_targets (event_bus ms) (text_of member.Rule ms) (texts_of (values_in member.Ids ms)))
action_in ListTargetsByRule ms = Some (list_targets_by_rule (event_bus ms) (text_of member.Rule ms))
action_in ListRuleNamesByTarget ms = Some (list_rule_names_by_target (text_of member.TargetArn ms) (event_bus ms))
action_in RemovePermission ms = Some (removal_in ms)
action_in CreateArchive ms = option_map (creation_in ms) (bus_of_source (text_of member.EventSourceArn ms))
action_in UpdateArchive ms = Some (update_archive (text_of member.ArchiveName ms) (text_given member.EventPattern ms) (days_given ms))
action_in DeleteArchive ms = Some (delete_archive (text_of member.ArchiveName ms))
action_in DescribeArchive ms = Some (describe_archive (text_of member.ArchiveName ms))
action_in ListArchives ms =
    Some (list_archives (text_given member.NamePrefix ms) (text_given member.EventSourceArn ms) (text_given member.State ms))
action_in CancelReplay ms = Some (cancel_replay (text_of member.ReplayName ms))
action_in DescribeReplay ms = Some (describe_replay (text_of member.ReplayName ms))
action_in ListReplays ms =
    Some (list_replays (text_given member.NamePrefix ms) (text_given member.EventSourceArn ms) (text_given member.State ms))
action_in CreateQueue ms = Some (create_queue (text_of member.QueueName ms))
action_in DeleteQueue ms = Some (delete_queue (text_of member.QueueName ms))
action_in PeekMessages ms = Some (peek_messages (text_of member.QueueName ms) (unwrap_or (count_given 1 1000 (given member.Limit ms)) 10))
action_in DeleteMessages ms = option_map (delete_messages (text_of member.QueueName ms)) (count_given 0 281474976710655 (given member.Through ms))
action_in DeliverDue ms = Some (deliver_due (budget_of ms))
action_in StepReplays ms = Some (step_replays (budget_of ms))
action_in DutyCounts ms = Some duty_counts
action_in _ ms = None

-- A PutPermission: with a Policy, the bus gets it as it is stored; without one, the policy of the bus gets one more statement.
-- Shown by: tables api_wire.rows: a_permission_has_what_the_message_gives.
abbrev pub IsPermission : Option Tree → Members → Action → Type 0
IsPermission None ms a = a ≡ put_statement (event_bus ms) (text_of member.StatementId ms) (account_in (text_of member.Principal ms))
IsPermission (Some _) ms a = (policy : List ℕ) × IsStoredAs (text_of member.Policy ms) policy × (a ≡ put_policy (event_bus ms) policy)

-- A StartReplay: the replay's name, the archive whose ARN is given, the range of the two times, the bus of the Destination, and the rules of
-- its filter, if it has one.
-- Shown by: replays.
pub record IsStartGiven (ms : Members) (action : Action) : Type 0 where
  pub archive : List ℕ
  pub archive_is : archive_of_source (text_of member.EventSourceArn ms) ≡ Some archive
  pub start : ℕ
  pub start_is : IsTimeGiven (given member.EventStartTime ms) start
  pub end : ℕ
  pub end_is : IsTimeGiven (given member.EventEndTime ms) end
  pub bus : List ℕ
  pub bus_is : option_and_then destination_of (given member.Destination ms) ≡ Some bus
  pub is : action ≡ start_replay (record {
    name = text_of member.ReplayName ms;
    archive = archive;
    range = record { start = start; end = end };
    rules = option_and_then (filter_given bus) (given member.Destination ms);
  }) bus

-- The members of an operation make this action of the caller, if they are sound.
-- Shown by: tables api_wire.rows: a_request_has_what_the_message_gives.
abbrev pub IsAction : Operation → List ℕ → Members → ℕ → Action → Type 0
IsAction PutTargets caller ms reading a = (targets : List AskedTarget) × AreTargets (values_in member.Targets ms) targets
    × (a ≡ put_targets (event_bus ms) (text_of member.Rule ms) targets)
IsAction PutPermission caller ms reading a = IsPermission (given member.Policy ms) ms a
IsAction PutEvents caller ms reading a = (entries : List (Result Unnumbered EntryFault))
    × AreChecked reading caller (entries_of (values_in member.Entries ms)) entries
    × (a ≡ put_events entries (min (total_size (entries_of (values_in member.Entries ms))) (2 ^ 64 - 1)))
IsAction TestEventPattern caller ms reading a = (event : Tree) × IsEventGiven (text_of member.Event ms) event
    × (a ≡ test_event_pattern (text_of member.EventPattern ms) event)
IsAction StartReplay caller ms reading a = IsStartGiven ms a
IsAction operation caller ms reading a = action_in operation ms ≡ Some a

-- The body is JSON within 100 levels, and an object with these members. An empty body counts as `{}`.
-- Shown by: tables api_wire.rows: a_message_has_its_first_refusal.
abbrev pub IsBody : List ℕ → Members → Type 0
IsBody [] members = members ≡ no_members
IsBody (b ∷ bytes) members = (node : Node) × IsText 100 (b ∷ bytes) node × (value_of node ≡ object members)

-- The account that asks: the one of the field `x-caller-account`, or the owner if there is no such field.
-- Shown by: tables api_wire.rows: an_event_has_the_account_of_its_caller.
abbrev pub caller_of : Option (List ℕ) → List ℕ
caller_of None = owner
caller_of (Some account) = account

-- Only the owner calls any operation but PutEvents.
-- Shown by: tables api_wire.rows: a_caller_is_refused_before_the_members.
abbrev pub MayCall : Operation → List ℕ → Type 0
MayCall PutEvents caller = Unit {0}
MayCall _ caller = caller ≡ owner

-- The message asks for this request: its caller is an account that may call its operation, whose sound members make the action; the request
-- has this caller and this reading.
-- Shown by: tables api_wire.rows: a_request_has_what_the_message_gives.
pub record IsAsked (m : Message) (reading : ℕ) (request : Request) : Type 0 where
  pub operation : Operation
  pub named : operation_of m.target ≡ Some operation
  pub caller : request.caller ≡ caller_of m.caller
  pub is_account : IsTrue (is_account (caller_of m.caller))
  pub members : Members
  pub body : IsBody m.body members
  pub entitled : MayCall operation (caller_of m.caller)
  pub sound : AreSound (asked operation members) members
  pub action : IsAction operation (caller_of m.caller) members reading request.action
  pub read_at : request.reading ≡ reading

-- the body is an object
abbrev pub GivesBody : List ℕ → Type 0
GivesBody bytes = (ms : Members) × IsBody bytes ms

-- the members of the body have what the operation asks
abbrev pub body_check : Operation → List ℕ → Check Cause
body_check operation bytes = record {
  holds = (ms : Members) × IsBody bytes ms × AreSound (asked operation ms) ms;
  refuses = λ c. (ms : Members) × IsBody bytes ms × IsFirstRefusal (asked operation ms) ms c;
}

-- The checks of a message that names this operation, in their order: the operation is known; the caller is an account; the body is an
-- object; the caller may call the operation; the members have what it asks.
-- Shown by: tables api_wire.rows: a_message_has_its_first_refusal, a_caller_is_refused_before_the_members.
abbrev pub message_checks : Message → Option Operation → List (Check Cause)
message_checks m None = else_fault ⊥ cause.UnknownOperation ∷ []
message_checks m (Some operation) =
    else_fault (IsTrue (is_account (caller_of m.caller))) (cause.NotValid member.CallerAccount)
    ∷ else_fault (GivesBody m.body) cause.NoObject
    ∷ else_fault (MayCall operation (caller_of m.caller)) cause.OwnerOnly
    ∷ body_check operation m.body
    ∷ []

-- The message's first refusal.
-- Shown by: tables api_wire.rows: a_message_has_its_first_refusal, a_caller_is_refused_before_the_members.
abbrev pub IsCallRefused : Message → Cause → Type 0
IsCallRefused m = IsFirst (message_checks m (operation_of m.target))
