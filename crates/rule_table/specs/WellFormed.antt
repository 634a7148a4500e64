-- What a change has to be whatever the rule set is: the syntax of its names and its ids, its targets, and what its texts spell. The syntax
-- and the numbers are those of the Amazon EventBridge API Reference.
use Rattle.std.specs.Prelude.{◌≡◌, ℕ, Bool, ◌&&◌, nat_le, IsTrue, List, Option, Some, None, All}
use Rattle.json_text.specs.Tree.{Tree}
use Rattle.json_text.specs.Compact.{compact_text}
use Rattle.event_shape.specs.Names.{is_archive_name, is_bus_name, is_queue_name}
use Rattle.bus_policy.specs.Text.{IsPolicyText}
use Rattle.pattern_meaning.specs.Pattern.{Pattern}
use Rattle.pattern_read.specs.Text.{IsPatternText}
use Rattle.rule_targets.specs.declared.target.Target.{Target}
use Rattle.rule_targets.specs.Input.{IsNoneOrValid}
use Rattle.rule_targets.specs.WellFormed.{names_rule, are_targets_formed, are_ids_formed}
use Rattle.rule_table.specs.Control.{Control, bus_created, bus_deleted, rule_put, rule_deleted, state_put, targets_put, targets_removed, policy_put}
use Rattle.rule_table.specs.Control.{queue_created, queue_deleted, archive_created, archive_updated, archive_deleted}

-- The greatest number of days for which an archive keeps an event.
-- Shown by: proofs alone.
abbrev pub most_days : ℕ
most_days = 2147483647

-- The names of the change have their syntax, days are at most `most_days`, and targets that are put, and ids of targets that are removed,
-- are from 1 to 100 and have no fault by themselves.
-- Shown by: table_tests test_rule_table.rt: changes_are_well_formed.
abbrev pub is_well_formed : Control → Bool
is_well_formed (bus_created name) = is_bus_name name
is_well_formed (bus_deleted name) = is_bus_name name
is_well_formed (rule_put bus name pattern enabled) = names_rule bus name
is_well_formed (rule_deleted bus name) = names_rule bus name
is_well_formed (state_put bus name enabled) = names_rule bus name
is_well_formed (targets_put bus rule targets) = names_rule bus rule && are_targets_formed targets
is_well_formed (targets_removed bus rule ids) = names_rule bus rule && are_ids_formed ids
is_well_formed (policy_put bus policy) = is_bus_name bus
is_well_formed (queue_created name) = is_queue_name name
is_well_formed (queue_deleted name) = is_queue_name name
is_well_formed (archive_created name bus pattern days) = is_archive_name name && (is_bus_name bus && nat_le days most_days)
is_well_formed (archive_updated name pattern days) = is_archive_name name && nat_le days most_days
is_well_formed (archive_deleted name) = is_archive_name name

-- a pattern's text
abbrev pub IsSomePattern : List ℕ → Type 0
IsSomePattern text = (p : Pattern) × IsPatternText text p

-- there is no pattern, or its text is a pattern's
abbrev pub IsNoneOrPattern : Option (List ℕ) → Type 0
IsNoneOrPattern None = Unit {0}
IsNoneOrPattern (Some text) = IsSomePattern text

-- The text is that of a policy as it is stored: a policy that is read from it has this text. A text without `Version`, or with white space
-- between its parts, is not.
-- Shown by: tables rule_table.rows: each_policy_is_put_or_refused.
abbrev pub IsBusPolicy : List ℕ → Type 0
IsBusPolicy t = (policy : Tree) × IsPolicyText t policy × (t ≡ compact_text policy)

-- there is no policy, or its text is that of a policy as it is stored
abbrev pub IsNoneOrStored : Option (List ℕ) → Type 0
IsNoneOrStored None = Unit {0}
IsNoneOrStored (Some t) = IsBusPolicy t

-- The input of the target, if it has one, is valid.
-- Shown by: proofs alone.
abbrev pub HasValidInput : Target → Type 0
HasValidInput target = IsNoneOrValid target.input

-- The text of a rule's or an archive's pattern is a pattern, that of a policy one as it is stored, and each input of a target is valid.
-- Shown by: proofs alone.
abbrev pub IsSpelled : Control → Type 0
IsSpelled (rule_put bus name pattern enabled) = IsSomePattern pattern
IsSpelled (targets_put bus rule targets) = All HasValidInput targets
IsSpelled (policy_put bus policy) = IsNoneOrStored policy
IsSpelled (archive_created name bus pattern days) = IsNoneOrPattern pattern
IsSpelled (archive_updated name pattern days) = IsNoneOrPattern pattern
IsSpelled _ = Unit {0}

-- What a change has to be whatever the rule set is: it passes `is_well_formed`, and its texts spell what they should (`IsSpelled`).
-- Shown by: table_tests test_rule_table.rt: changes_are_well_formed.
abbrev pub IsWellFormed : Control → Type 0
IsWellFormed control = IsTrue (is_well_formed control) × IsSpelled control
