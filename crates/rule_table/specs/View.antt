-- The view of a configuration change in contracts.
use Rattle.rule_table.specs.Control.{Control, bus_created, bus_deleted, rule_put, rule_deleted, state_put, targets_put, targets_removed, policy_put}
use Rattle.rule_table.specs.Control.{queue_created, queue_deleted, archive_created, archive_updated, archive_deleted}
use Rattle.rule_table.specs.declared.control.Control.{Control as CodeControl}
use Rattle.rule_table.specs.declared.control.Control.TheVariants.{BusCreated, BusDeleted, RulePut, RuleDeleted, StatePut, TargetsPut}
use Rattle.rule_table.specs.declared.control.Control.TheVariants.{TargetsRemoved, PolicyPut, QueueCreated, QueueDeleted}
use Rattle.rule_table.specs.declared.control.Control.TheVariants.{ArchiveCreated, ArchiveUpdated, ArchiveDeleted}

-- What contracts see of the code's `Control`, with its targets and ids as lists.
-- Shown by: tables rule_table.rows: each_change_is_made_or_refused.
abbrev pub control_of : CodeControl → Control
control_of (RulePut bus name pattern enabled) = rule_put bus name pattern enabled
control_of (BusCreated name) = bus_created name
control_of (BusDeleted name) = bus_deleted name
control_of (RuleDeleted bus name) = rule_deleted bus name
control_of (StatePut bus name enabled) = state_put bus name enabled
control_of (TargetsRemoved bus rule ids) = targets_removed bus rule ids.items
control_of (TargetsPut bus rule targets) = targets_put bus rule targets.items
control_of (PolicyPut bus policy) = policy_put bus policy
control_of (QueueCreated name) = queue_created name
control_of (QueueDeleted name) = queue_deleted name
control_of (ArchiveCreated name bus pattern days) = archive_created name bus pattern days
control_of (ArchiveUpdated name pattern days) = archive_updated name pattern days
control_of (ArchiveDeleted name) = archive_deleted name
