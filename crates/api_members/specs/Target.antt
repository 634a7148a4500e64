-- The targets of a PutTargets: the JSON types of their members, and what is read of some of them. Whether the values are valid is decided
-- target by target.
use Rattle.std.specs.Prelude.{ℕ, Bool, ◌&&◌, List, [], ◌∷◌, Option, Some, None, option_and_then, unwrap_or, codes}
use Rattle.std.specs.Option.{option_map}
use Rattle.json_text.specs.Tree.{Tree, text, Members, no_members, member}
use Rattle.json_text.specs.Access.{text_in}
use Rattle.rule_targets.specs.Given.{Transformer}
use Rattle.rule_targets.specs.declared.given.GivenInput.{GivenInput}
use Rattle.rule_targets.specs.declared.given.GivenInput.TheVariants as input
use Rattle.api_replies.specs.declared.member.Member.TheVariants.{Id, Arn, Input, InputPath, InputTransformer, RetryPolicy, DeadLetterConfig}
use Rattle.api_members.specs.declared.json_type.JsonType.TheVariants as is
use Rattle.api_members.specs.Given.{value_at, given, text_given, object_in, members_in}
use Rattle.api_members.specs.JsonType.{may_pass, must_pass, may_be, must_be}
use Rattle.api_members.specs.Count.{count_of}

-- InputTransformer {InputPathsMap?, InputTemplate}
abbrev pub is_transformer : Tree → Bool
is_transformer tree = must_pass (λ ms. may_be is.TextMap (value_at (codes "InputPathsMap") ms)
    && must_be is.Text (value_at (codes "InputTemplate") ms)) (object_in tree)

-- RetryPolicy {MaximumRetryAttempts?, MaximumEventAgeInSeconds?}
abbrev pub is_retry_policy : Tree → Bool
is_retry_policy tree = must_pass (λ ms. may_be is.Number (value_at (codes "MaximumRetryAttempts") ms)
    && may_be is.Number (value_at (codes "MaximumEventAgeInSeconds") ms)) (object_in tree)

-- DeadLetterConfig {Arn?}
abbrev pub is_dead_letter_config : Tree → Bool
is_dead_letter_config tree = must_pass (λ ms. may_be is.Text (value_at (codes "Arn") ms)) (object_in tree)

-- an Id and an Arn are given, and the members that are given have their JSON types
abbrev pub are_target_members : Members → Bool
are_target_members ms = must_be is.Text (given Id ms) && must_be is.Text (given Arn ms)
    && may_be is.Text (given Input ms) && may_be is.Text (given InputPath ms) && may_pass is_transformer (given InputTransformer ms)
    && may_pass is_retry_policy (given RetryPolicy ms) && may_pass is_dead_letter_config (given DeadLetterConfig ms)

-- An object with an Id and an Arn, whose members have the JSON types of a target.
-- Shown by: tables api_wire.rows: targets_have_their_json_types.
abbrev pub is_target : Tree → Bool
is_target tree = must_pass are_target_members (object_in tree)

-- A number of a retry policy, whose type has this greatest value: `default` if it is absent, none if it is no whole number that fits.
-- Shown by: an_absent_age_is_zero.edit.
abbrev pub number_or : ℕ → ℕ → Option Tree → Option ℕ
number_or default greatest None = Some default
number_or default greatest (Some tree) = count_of 0 greatest tree

-- `MaximumRetryAttempts` of a retry policy; 185 if it is absent. None if it is no whole number, or above 65,535, the greatest value of its
-- type.
-- Shown by: tables api_members.rows: a_retry_policy_has_plain_numbers_or_defaults; request_tests test_api_members.rt:
-- a_retry_policy_has_plain_numbers_or_defaults.
abbrev pub attempts_given : Members → Option ℕ
attempts_given policy = number_or 185 65535 (value_at (codes "MaximumRetryAttempts") policy)

-- `MaximumEventAgeInSeconds` of a retry policy; 86,400 if it is absent. None if it is no whole number, or above 4,294,967,295, the greatest
-- value of its type.
-- Shown by: an_absent_age_is_zero.edit.
abbrev pub age_given : Members → Option ℕ
age_given policy = number_or 86400 4294967295 (value_at (codes "MaximumEventAgeInSeconds") policy)

-- The Arn of a target's DeadLetterConfig, if one is given.
-- Shown by: tables api_members.rows: a_dead_letter_queue_is_that_of_the_config.
abbrev pub dead_letter_given : Members → Option (List ℕ)
dead_letter_given ms = option_and_then (λ config. text_given Arn (members_in config)) (given DeadLetterConfig ms)

-- The Input of a target, if one is given.
-- Shown by: inputs.
abbrev pub input_given : Members → Option GivenInput
input_given ms = option_map input.Input (text_given Input ms)

-- Its InputPath, if one is given.
-- Shown by: inputs.
abbrev pub path_given : Members → Option GivenInput
path_given ms = option_map input.InputPath (text_given InputPath ms)

-- the keys whose values are texts, with these texts, in their order
abbrev pub texts_under : Members → List (List ℕ × List ℕ)
texts_under no_members = []
texts_under (member key (text t) others) = (key, t) ∷ texts_under others
texts_under (member key _ others) = texts_under others

-- The InputTransformer with these members: no path if there is no InputPathsMap.
-- Shown by: inputs.
abbrev pub transformer_with : Members → Transformer
transformer_with ms = record {
  paths = texts_under (unwrap_or (option_and_then object_in (value_at (codes "InputPathsMap") ms)) no_members);
  template = unwrap_or (option_and_then text_in (value_at (codes "InputTemplate") ms)) [];
}

-- Its InputTransformer, if one is given.
-- Shown by: inputs.
abbrev pub transformer_given : Members → Option GivenInput
transformer_given ms = option_map (λ tree. input.InputTransformer (transformer_with (members_in tree))) (given InputTransformer ms)
