-- What a rule stores of its targets, and what matching and delivery need of them: a row for each target.
use Rattle.std.specs.Prelude.{◌≡◌, Bool, if◌then◌else◌, List, [], map, Option, Some, None, is_some}
use Rattle.shared_text.specs.declared.row.TargetRow.{TargetRow}
use Rattle.rule_targets.specs.declared.given.GivenInput.{GivenInput}
use Rattle.rule_targets.specs.declared.target.Target.{Target}
use Rattle.rule_targets.specs.declared.target.RetryPolicy.{RetryPolicy}
use Rattle.rule_targets.specs.Retry.{attempts_of, age_of}
use Rattle.rule_table.specs.RuleSet.{Rule}

-- A target as a rule stores it: its row, whether it was put with a retry policy, and its input as it was given.
-- Shown by: table_tests test_rule_table.rt: a_target_has_its_row; tables config_views.rows: a_target_is_shown_with_its_input.
pub record StoredTarget : Type 0 where
  pub row : TargetRow
  pub has_retry_policy : Bool
  pub input : Option GivenInput

-- What matching and delivery need of a target of a rule: the rule's ARN and name, the target's id and ARN, the ARN of its dead-letter
-- queue, and how it is retried: by its retry policy, and else at most 185 times, within 86,400 seconds.
-- Shown by: the_dead_letter_queue_is_forgotten.edit.
abbrev pub row_of : Rule → Target → TargetRow
row_of rule target = record {
  rule_arn = rule.arn;
  rule_name = rule.name;
  target_id = target.id;
  endpoint = target.arn;
  dead_letter = target.dead_letter;
  attempts = attempts_of target.retry;
  age = age_of target.retry;
}

-- A target of a rule, as the rule stores it.
-- Shown by: table_tests test_rule_table.rt: a_target_has_its_row; tables config_views.rows: a_target_is_shown_with_its_input.
abbrev pub stored_of : Rule → Target → StoredTarget
stored_of rule target = record { row = row_of rule target; has_retry_policy = is_some target.retry; input = target.input }

-- The retry policy that a stored target was put with; none if it was put without one.
-- Shown by: tables rule_table.rows: a_target_shows_its_retries; table_tests test_rule_table.rt: a_target_has_its_row.
abbrev pub retry_of : StoredTarget → Option RetryPolicy
retry_of stored =
    if stored.has_retry_policy then Some (record { attempts = stored.row.attempts; age = stored.row.age }) else None

-- The target that is stored so: with a retry policy only if it was put with one.
-- Shown by: tables rule_table.rows: a_target_shows_its_retries; tables config_views.rows: a_target_is_shown_with_its_input.
abbrev pub target_of : StoredTarget → Target
target_of stored = record {
  id = stored.row.target_id;
  arn = stored.row.endpoint;
  input = stored.input;
  retry = retry_of stored;
  dead_letter = stored.row.dead_letter;
}

-- the rule stores its target so
abbrev pub IsStoredOf : Rule → StoredTarget → Type 0
IsStoredOf rule stored = stored ≡ stored_of rule (target_of stored)

-- The targets of a rule as it stores them, none if there is no rule.
-- Shown by: table_tests test_rule_table.rt: a_target_has_its_row.
abbrev pub stored_in : Option Rule → List StoredTarget
stored_in None = []
stored_in (Some rule) = map (stored_of rule) rule.targets
