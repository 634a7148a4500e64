-- Why a change, an entry or a target is refused, as replies report it.
use Rattle.std.specs.Prelude.{ℕ, List, Option, Some, None}
use Rattle.event_shape.specs.declared.entry.EntryFault.{EntryFault}
use Rattle.event_shape.specs.declared.entry.EntryFault.TheVariants.{Source, DetailType, Detail, Time, Bus, Malformed, NotAuthorized}
use Rattle.api_replies.specs.declared.kind.Kind.{Kind}
use Rattle.api_replies.specs.declared.kind.Kind.TheVariants as kind
use Rattle.api_replies.specs.declared.member.Member.TheVariants as member
use Rattle.api_replies.specs.declared.cause.Cause.{Cause}
use Rattle.api_replies.specs.declared.cause.Cause.TheVariants as cause
use Rattle.rule_table.specs.Control.{Control, bus_created, bus_deleted, rule_put, rule_deleted, state_put, targets_put}
use Rattle.rule_table.specs.Control.{targets_removed, policy_put, queue_created, queue_deleted, archive_created, archive_updated, archive_deleted}
use Rattle.rule_table.specs.declared.control.TargetFault.{TargetFault}
use Rattle.rule_table.specs.declared.control.TargetFault.TheVariants as target_fault
use Rattle.rule_table.specs.declared.control.ControlFault.{ControlFault}
use Rattle.rule_table.specs.declared.control.ControlFault.TheVariants as fault

-- The name that a change has for a thing of this kind: its bus, its rule, its queue or its archive.
-- Shown by: tables call_replies.rows: each_fault_of_a_change_has_its_cause.
abbrev pub name_in : Control → Kind → List ℕ
name_in (rule_put bus name pattern enabled) kind.EventBus = bus
name_in (rule_put bus name pattern enabled) _ = name
name_in (targets_put bus rule targets) kind.EventBus = bus
name_in (targets_put bus rule targets) _ = rule
name_in (rule_deleted bus name) kind.EventBus = bus
name_in (rule_deleted bus name) _ = name
name_in (state_put bus name enabled) kind.EventBus = bus
name_in (state_put bus name enabled) _ = name
name_in (targets_removed bus rule ids) kind.EventBus = bus
name_in (targets_removed bus rule ids) _ = rule
name_in (bus_created name) _ = name
name_in (bus_deleted name) _ = name
name_in (policy_put bus policy) _ = bus
name_in (queue_created name) _ = name
name_in (queue_deleted name) _ = name
name_in (archive_created name bus pattern days) kind.EventBus = bus
name_in (archive_created name bus pattern days) _ = name
name_in (archive_updated name pattern days) _ = name
name_in (archive_deleted name) _ = name

-- The refusal of a change that has this fault; none if it is out of memory.
-- Shown by: tables call_replies.rows: each_fault_of_a_change_has_its_cause; table_tests test_call_replies.rt:
-- each_fault_of_a_change_has_its_cause.
abbrev pub change_cause : Control → ControlFault → Option Cause
change_cause control (fault.ResourceNotFound kind) = Some (cause.NotFound kind (name_in control kind))
change_cause control (fault.AlreadyExists kind) = Some (cause.Exists kind (name_in control kind))
change_cause control (fault.LimitExceeded kind) = Some (cause.LimitReached kind)
change_cause control (fault.InUse kind) = Some (cause.InUse kind (name_in control kind))
change_cause control fault.HasTargets = Some (cause.HasTargets (name_in control kind.Rule))
change_cause control fault.DefaultBus = Some cause.DefaultBusStays
change_cause control (fault.Validation member) = Some (cause.NotValid member)
change_cause control fault.PolicyTooLong = Some cause.PolicyTooLong
change_cause control fault.NoMemory = None

-- The refusal of a target that has this fault: a missing queue and a missing dead-letter queue by their names.
-- Shown by: the_missing_dead_letter_queue_is_not_named.edit.
abbrev pub target_cause : TargetFault → Cause
target_cause (target_fault.Member member) = cause.NotValid member
target_cause target_fault.TwoInputs = cause.MoreThanOneInput
target_cause (target_fault.NoQueue queue) = cause.NotFound kind.Queue queue
target_cause (target_fault.NoDeadLetterQueue queue) = cause.NotFound kind.Queue queue
target_cause target_fault.Sixth = cause.LimitReached kind.Target

-- The refusal of an entry that has this fault of its own.
-- Shown by: tables call_replies.rows: each_fault_of_a_target_or_an_entry_has_its_cause.
abbrev pub entry_cause : EntryFault → Cause
entry_cause Source = cause.Parameter member.Source
entry_cause DetailType = cause.Parameter member.DetailType
entry_cause Detail = cause.Parameter member.Detail
entry_cause Time = cause.Parameter member.Time
entry_cause Bus = cause.Parameter member.EventBusName
entry_cause Malformed = cause.MalformedDetail
entry_cause NotAuthorized = cause.NotAuthorized
