-- What replies show of the configuration. The members and their order are those of the Amazon EventBridge API Reference; a list is whole
-- and in the byte order of names (this project's own rule).
use Rattle.std.specs.Prelude.{ℕ, Bool, true, if◌then◌else◌, List, [], ◌∷◌, ◌++◌, map, filter, eqb, Option, Some, None, codes, decimal}
use Rattle.std.specs.List.{list_any, starts_with}
use Rattle.std.specs.Str.{bytes_eq}
use Rattle.json_text.specs.Tree.{Tree, number, text, list, object, items_of, members_of}
use Rattle.event_shape.specs.Names.{bus_arn}
use Rattle.name_rows.specs.Rows.{named}
use Rattle.rule_targets.specs.Given.{Transformer}
use Rattle.rule_targets.specs.declared.given.GivenInput.{GivenInput}
use Rattle.rule_targets.specs.declared.given.GivenInput.TheVariants as given
use Rattle.rule_targets.specs.declared.target.Target.{Target}
use Rattle.rule_targets.specs.declared.target.RetryPolicy.{RetryPolicy}
use Rattle.rule_table.specs.RuleSet.{Rule, Bus, RuleSet}
use Rattle.api_replies.specs.declared.kind.Kind.TheVariants as kind
use Rattle.api_replies.specs.declared.cause.Cause.TheVariants as cause
use Rattle.api_replies.specs.Reply.{Reply, served, refused}

-- A reply whose only member is a list.
-- Shown by: tables config_views.rows: the_configuration_is_shown.
abbrev pub listing : List ℕ → List Tree → Reply
listing key items = served ((key, list (items_of items)) ∷ [])

-- No prefix is given, or the name begins with its bytes.
-- Shown by: a_prefix_is_ignored.edit.
abbrev pub has_prefix : Option (List ℕ) → List ℕ → Bool
has_prefix None name = true
has_prefix (Some prefix) name = starts_with eqb name prefix

-- The rows whose name has the prefix. Without a prefix these are all rows.
-- Shown by: tables config_views.rows: the_configuration_is_shown.
abbrev pub with_prefix : {A : Type 0} → (A → List ℕ) → Option (List ℕ) → List A → List A
with_prefix name_of prefix rows = filter (λ row. has_prefix prefix (name_of row)) rows

-- A bus's policy as the member `Policy`, a string, if the bus has a policy.
-- Shown by: a_policy_is_hidden.edit.
abbrev pub policy_member : Option (List ℕ) → List (List ℕ × Tree)
policy_member None = []
policy_member (Some policy) = (codes "Policy", text policy) ∷ []

-- What a reply shows of a bus: `Name`, `Arn`, and `Policy` if it has one.
-- Shown by: tables config_views.rows: a_policy_is_shown.
abbrev pub bus_members : Bus → List (List ℕ × Tree)
bus_members bus = (codes "Name", text bus.name) ∷ (codes "Arn", text (bus_arn bus.name)) ∷ policy_member bus.policy

-- a reply about the bus of this name, which may be missing
abbrev pub on_bus : List ℕ → (Bus → Reply) → Option Bus → Reply
on_bus name show None = refused (cause.NotFound kind.EventBus name)
on_bus name show (Some bus) = show bus

-- A reply about a bus of the rule set. A missing bus is refused.
-- Shown by: a_missing_bus_is_a_missing_rule.edit.
abbrev pub on_bus_of : RuleSet → List ℕ → (Bus → Reply) → Reply
on_bus_of set name show = on_bus name show (named (λ b. b.name) name set.buses)

-- The reply to a DescribeEventBus.
-- Shown by: tables config_views.rows: the_configuration_is_shown.
abbrev pub described_bus : List ℕ → RuleSet → Reply
described_bus name set = on_bus_of set name (λ bus. served (bus_members bus))

-- The items of the buses whose names have the prefix.
-- Shown by: tables config_views.rows: the_configuration_is_shown.
abbrev pub bus_items : Option (List ℕ) → List Bus → List Tree
bus_items prefix buses = map (λ bus. object (members_of (bus_members bus))) (with_prefix (λ b. b.name) prefix buses)

-- The reply to a ListEventBuses.
-- Shown by: tables config_views.rows: the_configuration_is_shown.
abbrev pub listed_buses : Option (List ℕ) → RuleSet → Reply
listed_buses prefix set = listing (codes "EventBuses") (bus_items prefix set.buses)

-- `ENABLED` or `DISABLED`.
-- Shown by: a_disabled_rule_is_shown_enabled.edit.
abbrev pub state_text : Bool → List ℕ
state_text enabled = if enabled then codes "ENABLED" else codes "DISABLED"

-- What a reply shows of a rule: `Name`, `Arn`, `EventPattern` (the text as it was given), `State` and `EventBusName`.
-- Shown by: a_rule_is_shown_on_default.edit.
abbrev pub rule_members : List ℕ → Rule → List (List ℕ × Tree)
rule_members bus rule =
    (codes "Name", text rule.name)
    ∷ (codes "Arn", text rule.arn)
    ∷ (codes "EventPattern", text rule.pattern)
    ∷ (codes "State", text (state_text rule.enabled))
    ∷ (codes "EventBusName", text bus)
    ∷ []

-- a reply about the rule of this name, which may be missing
abbrev pub on_rule : List ℕ → (Rule → Reply) → Option Rule → Reply
on_rule name show None = refused (cause.NotFound kind.Rule name)
on_rule name show (Some rule) = show rule

-- A reply about a rule of a bus. A missing rule is refused.
-- Shown by: tables config_views.rows: the_configuration_is_shown.
abbrev pub on_rule_of : List ℕ → (Rule → Reply) → Bus → Reply
on_rule_of name show bus = on_rule name show (named (λ r. r.name) name bus.rules)

-- The reply to a DescribeRule. The bus is looked for first, then the rule.
-- Shown by: a_missing_bus_is_a_missing_rule.edit.
abbrev pub described_rule : List ℕ → List ℕ → RuleSet → Reply
described_rule bus name set = on_bus_of set bus (on_rule_of name (λ rule. served (rule_members bus rule)))

-- The items of the rules whose names have the prefix.
-- Shown by: tables config_views.rows: the_configuration_is_shown.
abbrev pub rule_items : List ℕ → Option (List ℕ) → List Rule → List Tree
rule_items bus prefix rules = map (λ rule. object (members_of (rule_members bus rule))) (with_prefix (λ r. r.name) prefix rules)

-- The reply to a ListRules.
-- Shown by: tables config_views.rows: the_configuration_is_shown.
abbrev pub listed_rules : List ℕ → Option (List ℕ) → RuleSet → Reply
listed_rules bus prefix set = on_bus_of set bus (λ b. listing (codes "Rules") (rule_items bus prefix b.rules))

-- what a reply shows of a retry policy
abbrev pub retry_members : RetryPolicy → List (List ℕ × Tree)
retry_members policy =
    (codes "MaximumRetryAttempts", number (decimal policy.attempts)) ∷ (codes "MaximumEventAgeInSeconds", number (decimal policy.age)) ∷ []

-- A target's retry policy as the member `RetryPolicy`, an object with `MaximumRetryAttempts` and `MaximumEventAgeInSeconds`, if one was
-- given.
-- Shown by: the_retry_policy_is_not_shown.edit.
abbrev pub retry_member : Option RetryPolicy → List (List ℕ × Tree)
retry_member None = []
retry_member (Some policy) = (codes "RetryPolicy", object (members_of (retry_members policy))) ∷ []

-- A target's dead-letter queue as the member `DeadLetterConfig`, an object with its `Arn`, if it has one.
-- Shown by: the_target_is_shown_as_its_dead_letter_queue.edit.
abbrev pub dead_letter_member : Option (List ℕ) → List (List ℕ × Tree)
dead_letter_member None = []
dead_letter_member (Some arn) = (codes "DeadLetterConfig", object (members_of ((codes "Arn", text arn) ∷ []))) ∷ []

-- texts under their keys, as members
abbrev pub text_members : List (List ℕ × List ℕ) → List (List ℕ × Tree)
text_members = map (λ p. (p.0, text p.1))

-- the member `InputPathsMap`, an object of the paths' texts in their order, if there is a path
abbrev pub paths_member : List (List ℕ × List ℕ) → List (List ℕ × Tree)
paths_member [] = []
paths_member (path ∷ paths) = (codes "InputPathsMap", object (members_of (text_members (path ∷ paths)))) ∷ []

-- what a reply shows of an InputTransformer
abbrev pub transformer_members : Transformer → List (List ℕ × Tree)
transformer_members t = paths_member t.paths ++ (codes "InputTemplate", text t.template) ∷ []

-- An input as the member that it was given as. An InputTransformer is an object with its `InputPathsMap`, if that has an entry, and its
-- `InputTemplate`. The edit leaves out the blanks at the front of an Input; the table shows all three members.
-- Shown by: the_list_shows_the_compact_text.edit; tables config_views.rows: a_target_is_shown_with_its_input.
abbrev pub given_member : GivenInput → List ℕ × Tree
given_member (given.Input t) = (codes "Input", text t)
given_member (given.InputPath t) = (codes "InputPath", text t)
given_member (given.InputTransformer t) = (codes "InputTransformer", object (members_of (transformer_members t)))

-- A target's input as it was given, if it has one.
-- Shown by: the_list_shows_the_compact_text.edit; tables config_views.rows: a_target_is_shown_with_its_input.
abbrev pub input_member : Option GivenInput → List (List ℕ × Tree)
input_member None = []
input_member (Some input) = given_member input ∷ []

-- What a reply shows of a target: `Id`, `Arn`, its input if it has one, `RetryPolicy` if one was given, and `DeadLetterConfig` if it has one.
-- Shown by: tables config_views.rows: the_configuration_is_shown.
abbrev pub target_members : Target → List (List ℕ × Tree)
target_members target =
    (codes "Id", text target.id)
    ∷ (codes "Arn", text target.arn)
    ∷ (input_member target.input ++ (retry_member target.retry ++ dead_letter_member target.dead_letter))

-- The items of a rule's targets.
-- Shown by: tables config_views.rows: the_configuration_is_shown.
abbrev pub target_items : List Target → List Tree
target_items targets = map (λ target. object (members_of (target_members target))) targets

-- The reply to a ListTargetsByRule. The bus is looked for first, then the rule.
-- Shown by: tables config_views.rows: the_configuration_is_shown.
abbrev pub listed_targets : List ℕ → List ℕ → RuleSet → Reply
listed_targets bus name set = on_bus_of set bus (on_rule_of name (λ rule. listing (codes "Targets") (target_items rule.targets)))

-- The rule has a target with this ARN, compared byte by byte.
-- Shown by: a_rule_is_named_for_another_target.edit.
abbrev pub has_target_arn : List ℕ → Rule → Bool
has_target_arn arn rule = list_any (λ target. bytes_eq target.arn arn) rule.targets

-- The names of the rules that have a target with this ARN, each once.
-- Shown by: tables config_views.rows: the_configuration_is_shown.
abbrev pub rule_names : List ℕ → List Rule → List Tree
rule_names arn rules = map (λ rule. text rule.name) (filter (has_target_arn arn) rules)

-- The reply to a ListRuleNamesByTarget: each rule of the bus with such a target once.
-- Shown by: a_rule_is_named_for_another_target.edit.
abbrev pub listed_rule_names : List ℕ → List ℕ → RuleSet → Reply
listed_rule_names arn bus set = on_bus_of set bus (λ b. listing (codes "RuleNames") (rule_names arn b.rules))
