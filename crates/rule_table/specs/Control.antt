-- Changes of the configuration, as batches record them.
use Rattle.std.specs.Prelude.{ℕ, Bool, List, Option}
use Rattle.rule_targets.specs.declared.target.Target.{Target}

-- A change of the configuration: a bus is created or deleted; a rule is put (its bus, its name, its pattern's text, and whether it is
-- enabled) or deleted, enabled or disabled; targets are put to a rule of a bus, or removed from it by their ids; a bus gets a policy, by
-- its text, or loses it; a queue is created or deleted; an archive of a bus is created (with its pattern's text, if it has one, and its
-- days), gets a pattern and days, or is deleted. Both are the archive's after the change.
-- Shown by: tables rule_table.rows: each_change_is_made_or_refused.
pub data Control : Type 0 where
  bus_created : (name : List ℕ) → Control
  bus_deleted : (name : List ℕ) → Control
  rule_put : (bus name pattern : List ℕ) (enabled : Bool) → Control
  rule_deleted : (bus name : List ℕ) → Control
  state_put : (bus name : List ℕ) (enabled : Bool) → Control
  targets_put : (bus rule : List ℕ) (targets : List Target) → Control
  targets_removed : (bus rule : List ℕ) (ids : List (List ℕ)) → Control
  policy_put : (bus : List ℕ) (policy : Option (List ℕ)) → Control
  queue_created : (name : List ℕ) → Control
  queue_deleted : (name : List ℕ) → Control
  archive_created : (name bus : List ℕ) (pattern : Option (List ℕ)) (days : ℕ) → Control
  archive_updated : (name : List ℕ) (pattern : Option (List ℕ)) (days : ℕ) → Control
  archive_deleted : (name : List ℕ) → Control
