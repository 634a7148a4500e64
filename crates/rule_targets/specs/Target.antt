-- Targets as requests ask for them, and as rules have them.
use Rattle.std.specs.Prelude.{◌≡◌, Option, Some, None, unwrap_or}
use Rattle.std.specs.Option.{option_map}
use Rattle.rule_targets.specs.declared.given.GivenInput.{GivenInput}
use Rattle.rule_targets.specs.declared.given.GivenInput.TheVariants as given
use Rattle.rule_targets.specs.declared.target.AskedInput.{AskedInput}
use Rattle.rule_targets.specs.declared.target.AskedInput.TheVariants as asked
use Rattle.rule_targets.specs.declared.target.AskedRetry.{AskedRetry}
use Rattle.rule_targets.specs.declared.target.AskedTarget.{AskedTarget}
use Rattle.rule_targets.specs.declared.target.RetryPolicy.{RetryPolicy}
use Rattle.rule_targets.specs.declared.target.Target.{Target}
use Rattle.rule_targets.specs.Input.{IsValidInput}

-- What is read of a member of a target: `Absent` if the member is not given; what is given, if that is valid; else `NotValid`.
-- Shown by: a_member_that_is_not_valid_is_absent.edit.
abbrev pub IsAskedAs : Option GivenInput → AskedInput → Type 0
IsAskedAs None member = member ≡ asked.Absent
IsAskedAs (Some input) asked.Absent = ⊥
IsAskedAs (Some input) (asked.Read read) = (read ≡ input) × IsValidInput input
IsAskedAs (Some input) asked.NotValid = ¬ IsValidInput input

-- what is read of a member is valid
abbrev pub IsValidRead : AskedInput → Type 0
IsValidRead asked.Absent = Unit {0}
IsValidRead asked.NotValid = Unit {0}
IsValidRead (asked.Read input) = IsValidInput input

-- What is read of the target's Input, InputPath and InputTransformer is valid.
-- Shown by: proofs alone.
pub record HasValidReads (target : AskedTarget) : Type 0 where
  pub input : IsValidRead target.input
  pub input_path : IsValidRead target.input_path
  pub transformer : IsValidRead target.transformer

-- this retry policy, as a request would ask for it
abbrev pub asked_retry : RetryPolicy → AskedRetry
asked_retry policy = record { attempts = Some policy.attempts; age = Some policy.age }

-- the member Input of a request that asks for this input
abbrev pub asked_input : Option GivenInput → AskedInput
asked_input None = asked.Absent
asked_input (Some (given.Input t)) = asked.Read (given.Input t)
asked_input (Some (given.InputPath t)) = asked.Absent
asked_input (Some (given.InputTransformer t)) = asked.Absent

-- its member InputPath
abbrev pub asked_path : Option GivenInput → AskedInput
asked_path None = asked.Absent
asked_path (Some (given.Input t)) = asked.Absent
asked_path (Some (given.InputPath t)) = asked.Read (given.InputPath t)
asked_path (Some (given.InputTransformer t)) = asked.Absent

-- its member InputTransformer
abbrev pub asked_transformer : Option GivenInput → AskedInput
asked_transformer None = asked.Absent
asked_transformer (Some (given.Input t)) = asked.Absent
asked_transformer (Some (given.InputPath t)) = asked.Absent
asked_transformer (Some (given.InputTransformer t)) = asked.Read (given.InputTransformer t)

-- This target, as a request would ask for it.
-- Shown by: table_tests test_rule_table.rt: changes_are_well_formed; tables config_views.rows: a_target_is_shown_with_its_input.
abbrev pub asked_of : Target → AskedTarget
asked_of target = record {
  id = target.id;
  arn = target.arn;
  input = asked_input target.input;
  input_path = asked_path target.input;
  transformer = asked_transformer target.input;
  retry = option_map asked_retry target.retry;
  dead_letter = target.dead_letter;
}

-- the retry policy that is asked for; a number that is missing is 185 retry attempts, or 86,400 seconds
abbrev pub put_retry : AskedRetry → RetryPolicy
put_retry retry = record { attempts = unwrap_or retry.attempts 185; age = unwrap_or retry.age 86400 }

-- the input that a member gives, if it is valid, and else another one
abbrev pub first_read : AskedInput → Option GivenInput → Option GivenInput
first_read asked.Absent other = other
first_read asked.NotValid other = other
first_read (asked.Read input) other = Some input

-- the first input that is given and valid
abbrev pub put_input : AskedTarget → Option GivenInput
put_input target = first_read target.input (first_read target.input_path (first_read target.transformer None))

-- The target as it is put to a rule, if the request has no fault.
-- Shown by: target-members.
abbrev pub put_as : AskedTarget → Target
put_as target = record {
  id = target.id;
  arn = target.arn;
  input = put_input target;
  retry = option_map put_retry target.retry;
  dead_letter = target.dead_letter;
}
