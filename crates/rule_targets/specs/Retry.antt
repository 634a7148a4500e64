-- Retry policies: their limits, which are those of the Amazon EventBridge API Reference, and the numbers of a target that has none.
use Rattle.std.specs.Prelude.{ℕ, Bool, true, false, nat_le, ◌&&◌, Option, Some, None}
use Rattle.rule_targets.specs.declared.target.AskedRetry.{AskedRetry}
use Rattle.rule_targets.specs.declared.target.RetryPolicy.{RetryPolicy}

-- at most 185 retry attempts
abbrev pub are_attempts_valid : Option ℕ → Bool
are_attempts_valid None = false
are_attempts_valid (Some n) = nat_le n 185

-- from 60 to 86,400 seconds
abbrev pub is_age_valid : Option ℕ → Bool
is_age_valid None = false
is_age_valid (Some n) = nat_le 60 n && nat_le n 86400

-- A target asks for no retry policy, or for one with both numbers: at most 185 retry attempts, and an age from 60 to 86,400 seconds.
-- Shown by: one_retry_too_many_is_accepted.edit; an_age_of_59_is_accepted.edit.
abbrev pub is_retry_valid : Option AskedRetry → Bool
is_retry_valid None = true
is_retry_valid (Some retry) = are_attempts_valid retry.attempts && is_age_valid retry.age

-- The maximum number of retry attempts: the one of the retry policy, and else 185.
-- Shown by: table_tests test_rule_table.rt: a_target_has_its_row.
abbrev pub attempts_of : Option RetryPolicy → ℕ
attempts_of None = 185
attempts_of (Some policy) = policy.attempts

-- The maximum age of an event: the one of the retry policy, and else 86,400 seconds.
-- Shown by: table_tests test_rule_table.rt: a_target_has_its_row.
abbrev pub age_of : Option RetryPolicy → ℕ
age_of None = 86400
age_of (Some policy) = policy.age
