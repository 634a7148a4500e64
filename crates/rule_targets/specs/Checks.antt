-- The conditions on a target whatever the rule set is, and the first member that fails one. The syntax and the numbers are those of the
-- Amazon EventBridge API Reference; which URLs are endpoints is this project's own rule.
use Rattle.std.specs.Prelude.{◌&&◌, ◌||◌, ℕ, Bool, true, false, is_some, IsTrue, List, [], ◌∷◌, Option, Some, None}
use Rattle.json_text.specs.Checks.{unless, first_fault}
use Rattle.event_shape.specs.Names.{is_short_name, queue_in}
use Rattle.http_target.specs.Endpoint.{is_endpoint}
use Rattle.api_replies.specs.declared.member.Member.{Member}
use Rattle.api_replies.specs.declared.member.Member.TheVariants as member
use Rattle.rule_targets.specs.declared.given.GivenInput.TheVariants as given
use Rattle.rule_targets.specs.declared.target.AskedInput.{AskedInput}
use Rattle.rule_targets.specs.declared.target.AskedInput.TheVariants as asked
use Rattle.rule_targets.specs.declared.target.AskedTarget.{AskedTarget}
use Rattle.rule_targets.specs.Retry.{is_retry_valid}

-- The text is the ARN of a queue, which may be missing, or the URL of an HTTP endpoint.
-- Shown by: an_endpoint_is_refused.edit.
abbrev pub is_target_arn : List ℕ → Bool
is_target_arn arn = is_some (queue_in arn) || is_endpoint arn

-- The text passes `is_target_arn`.
-- Shown by: an_endpoint_is_refused.edit.
abbrev pub IsTargetArn : List ℕ → Type 0
IsTargetArn arn = IsTrue (is_target_arn arn)

-- A target has no dead-letter queue, or its ARN is that of a queue, which may be missing.
-- Shown by: tables rule_targets.rows: a_retry_policy_has_its_limits.
abbrev pub is_dead_letter_arn : Option (List ℕ) → Bool
is_dead_letter_arn None = true
is_dead_letter_arn (Some arn) = is_some (queue_in arn)

-- the member Input is absent or valid
abbrev pub may_be_input : AskedInput → Bool
may_be_input asked.Absent = true
may_be_input (asked.Read (given.Input t)) = true
may_be_input _ = false

-- the member InputPath is absent or valid
abbrev pub may_be_path : AskedInput → Bool
may_be_path asked.Absent = true
may_be_path (asked.Read (given.InputPath t)) = true
may_be_path _ = false

-- the member InputTransformer is absent or valid
abbrev pub may_be_transformer : AskedInput → Bool
may_be_transformer asked.Absent = true
may_be_transformer (asked.Read (given.InputTransformer t)) = true
may_be_transformer _ = false

-- The conditions on the members of a target, in the order in which their faults are reported: its id, its ARN, its Input, InputPath and
-- InputTransformer (`IsValidInput`, by which they were read), its retry policy, the ARN of its dead-letter queue.
-- Shown by: tables rule_targets.rows: a_target_has_its_first_fault, a_retry_policy_has_its_limits;
-- tables rule_table.rows: a_target_has_one_input.
abbrev pub member_checks : AskedTarget → List (Option Member)
member_checks target =
    unless (is_short_name target.id) member.Id
    ∷ unless (is_target_arn target.arn) member.Arn
    ∷ unless (may_be_input target.input) member.Input
    ∷ unless (may_be_path target.input_path) member.InputPath
    ∷ unless (may_be_transformer target.transformer) member.InputTransformer
    ∷ unless (is_retry_valid target.retry) member.RetryPolicy
    ∷ unless (is_dead_letter_arn target.dead_letter) member.DeadLetterConfig
    ∷ []

-- The first member of a target that is outside its syntax or its limits.
-- Shown by: tables rule_targets.rows: a_target_has_its_first_fault, a_retry_policy_has_its_limits;
-- tables rule_table.rows: a_target_has_one_input.
abbrev pub member_fault : AskedTarget → Option Member
member_fault target = first_fault (member_checks target)

-- the member is given
abbrev pub is_given : AskedInput → Bool
is_given asked.Absent = false
is_given _ = true

-- More than one of Input, InputPath and InputTransformer are given.
-- Shown by: two_inputs_are_one.edit; tables rule_table.rows: a_target_has_one_input.
abbrev pub has_two_inputs : AskedTarget → Bool
has_two_inputs target =
    (is_given target.input && (is_given target.input_path || is_given target.transformer)) || (is_given target.input_path && is_given target.transformer)
