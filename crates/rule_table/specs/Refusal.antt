-- Why a target or a change is refused: the conditions on it, in the order in which their faults are reported. The limits on buses, rules,
-- targets and policies are EventBridge quotas; the limit on queues is this project's own.
use Rattle.std.specs.Prelude.{◌≡◌, ◌⊎◌, ℕ, Bool, true, ◌&&◌, ◌||◌, not, nat_le, nat_lt, is_some, List, [], ◌∷◌, ◌++◌, length, map, Option, Some, None, Result, MatchResult}
use Rattle.std.specs.Option.{option_map, option_and_then}
use Rattle.std.specs.Str.{bytes_eq}
use Rattle.json_text.specs.Checks.{unless, first_fault}
use Rattle.event_shape.specs.Names.{default_bus, queue_in}
use Rattle.api_replies.specs.declared.kind.Kind.TheVariants as kind
use Rattle.api_replies.specs.declared.member.Member.TheVariants as member
use Rattle.name_rows.specs.Rows.{named, without}
use Rattle.rule_targets.specs.declared.target.AskedTarget.{AskedTarget}
use Rattle.rule_targets.specs.declared.target.Target.{Target}
use Rattle.rule_targets.specs.Target.{asked_of, put_as}
use Rattle.rule_targets.specs.Checks.{member_checks, has_two_inputs}
use Rattle.rule_table.specs.declared.control.TargetFault.{TargetFault}
use Rattle.rule_table.specs.declared.control.TargetFault.TheVariants as fault
use Rattle.rule_table.specs.declared.control.ControlFault.{ControlFault}
use Rattle.rule_table.specs.declared.control.ControlFault.TheVariants.{ResourceNotFound, AlreadyExists, LimitExceeded, Validation, InUse, HasTargets, DefaultBus}
use Rattle.rule_table.specs.declared.control.ControlFault.TheVariants.{PolicyTooLong, NoMemory}
use Rattle.rule_table.specs.Control.{Control, bus_created, bus_deleted, rule_put, rule_deleted, state_put, targets_put, targets_removed, policy_put}
use Rattle.rule_table.specs.Control.{queue_created, queue_deleted, archive_created, archive_updated, archive_deleted}
use Rattle.archive_keep.specs.Archives.{most_archives}
use Rattle.rule_table.specs.RuleSet.{Archive, RuleSet, put_target, has_bus, has_rule, has_queue, has_archive, archive_at, archives_of, is_queue_used, rules_of, targets_of, applied}

-- The name of the queue, if one is named that does not exist.
-- Shown by: a_target_of_a_missing_queue_is_put.edit.
abbrev pub missing_in : RuleSet → Option (List ℕ) → Option (List ℕ)
missing_in set None = None
missing_in set (Some queue) = unless (has_queue queue set) queue

-- The conditions on a target, whatever targets its rule has: those on its members, then it has at most one input, then its queue and its
-- dead-letter queue exist.
-- Shown by: two_inputs_are_taken.edit; tables rule_table.rows: a_target_has_its_first_fault, a_target_has_one_input.
abbrev pub own_checks : RuleSet → AskedTarget → List (Option TargetFault)
own_checks set target =
    map (option_map fault.Member) (member_checks target)
    ++ unless (not (has_two_inputs target)) fault.TwoInputs
    ∷ option_map fault.NoQueue (missing_in set (queue_in target.arn))
    ∷ option_map fault.NoDeadLetterQueue (missing_in set (option_and_then queue_in target.dead_letter))
    ∷ []

-- The conditions on a target that is put to a rule with these targets: its own, then the rule has at most five targets with it.
-- Shown by: a_replaced_target_is_a_sixth.edit; tables rule_table.rows: a_target_has_its_first_fault, a_target_has_one_input.
abbrev pub target_checks : RuleSet → List Target → AskedTarget → List (Option TargetFault)
target_checks set targets target = own_checks set target ++ unless (nat_le (length (put_target (put_as target) targets)) 5) fault.Sixth ∷ []

-- The first fault of a target that is put to a rule with these targets.
-- Shown by: tables rule_table.rows: a_target_has_its_first_fault, a_target_has_one_input.
abbrev pub target_fault : RuleSet → List Target → AskedTarget → Option TargetFault
target_fault set targets target = first_fault (target_checks set targets target)

-- Each target of a list has no fault once those before it are put.
-- Shown by: table_tests test_rule_table.rt: each_refused_change_has_its_fault.
abbrev pub are_put : RuleSet → List Target → List Target → Bool
are_put set [] targets = true
are_put set (new ∷ news) targets = not (is_some (target_fault set targets (asked_of new))) && are_put set news (put_target new targets)

-- There is at least one target, and each has no fault once those before it are put.
-- Shown by: table_tests test_rule_table.rt: each_refused_change_has_its_fault.
abbrev pub are_some_put : RuleSet → List Target → List Target → Bool
are_some_put set news targets = nat_le 1 (length news) && are_put set news targets

-- Each of the ids is that of a target, and none comes twice.
-- Shown by: table_tests test_rule_table.rt: each_refused_change_has_its_fault.
abbrev pub are_removable : List (List ℕ) → List Target → Bool
are_removable [] targets = true
are_removable (id ∷ ids) targets =
    is_some (named (λ target. target.id) id targets) && are_removable ids (without (λ target. target.id) id targets)

-- There is at least one id, and each is that of a target, once.
-- Shown by: table_tests test_rule_table.rt: each_refused_change_has_its_fault.
abbrev pub are_some_removable : List (List ℕ) → List Target → Bool
are_some_removable ids targets = nat_le 1 (length ids) && are_removable ids targets

-- The policy, if there is one, has at most 10,240 bytes as it is stored.
-- Shown by: tables rule_table.rows: a_policy_has_at_most_10240_bytes.
abbrev pub is_short : Option (List ℕ) → Bool
is_short None = true
is_short (Some policy) = nat_le (length policy) 10240

-- the bus exists
abbrev pub bus_check : List ℕ → RuleSet → Option ControlFault
bus_check bus set = unless (has_bus bus set) (ResourceNotFound kind.EventBus)

-- the bus exists, and has the rule
abbrev pub rule_checks : List ℕ → List ℕ → RuleSet → List (Option ControlFault)
rule_checks bus name set = bus_check bus set ∷ unless (has_rule bus name set) (ResourceNotFound kind.Rule) ∷ []

-- the bus has no rule and no archive
abbrev pub is_bus_unused : List ℕ → RuleSet → Bool
is_bus_unused bus set = nat_le (length (rules_of bus set)) 0 && nat_le (length (archives_of bus set)) 0

-- there is a pattern, or the archive has none
abbrev pub keeps_pattern : Option (List ℕ) → Option Archive → Bool
keeps_pattern pattern None = true
keeps_pattern pattern (Some archive) = is_some pattern || not (is_some archive.pattern)

-- The conditions on a change, in the order in which their faults are reported. A bus that is created: it does not exist, and there are
-- fewer than 100. A bus that is deleted: it is not `default`, exists, and has no rule and no archive. A rule: its bus exists, and it exists
-- or the bus has fewer than 300. A rule that is deleted: its bus exists, it exists, and has no target. A state: the bus and the rule exist.
-- Targets: the bus and the rule exist, there is at least one target, and each has no fault after those before it. Targets that are removed:
-- the bus and the rule exist, there is at least one id, and each is that of a target, once. A policy: its bus exists, and it has at most
-- 10,240 bytes. A queue that is created: it does not exist, and there are fewer than 1,000. A queue that is deleted: it exists, and no
-- target names it. An archive that is created: its bus exists, it does not, and there are fewer than 100. An archive that is updated: it
-- exists, and does not lose a pattern. An archive that is deleted: it exists.
-- Shown by: tables rule_table.rows: each_removal_is_made_or_refused, each_bus_is_made_or_refused, each_policy_is_put_or_refused,
-- a_queue_in_use_stays; table_tests test_rule_table.rt: each_refused_change_has_its_fault.
abbrev pub checks : Control → RuleSet → List (Option ControlFault)
checks (bus_created name) set =
    unless (not (has_bus name set)) (AlreadyExists kind.EventBus) ∷ unless (nat_lt (length set.buses) 100) (LimitExceeded kind.EventBus) ∷ []
checks (bus_deleted name) set =
    unless (not (bytes_eq name default_bus)) DefaultBus ∷ bus_check name set ∷ unless (is_bus_unused name set) (InUse kind.EventBus) ∷ []
checks (rule_put bus name pattern enabled) set =
    bus_check bus set ∷ unless (has_rule bus name set || nat_lt (length (rules_of bus set)) 300) (LimitExceeded kind.Rule) ∷ []
checks (rule_deleted bus name) set = rule_checks bus name set ++ unless (nat_le (length (targets_of bus name set)) 0) HasTargets ∷ []
checks (state_put bus name enabled) set = rule_checks bus name set
checks (targets_put bus rule targets) set =
    rule_checks bus rule set ++ unless (are_some_put set targets (targets_of bus rule set)) (Validation member.Targets) ∷ []
checks (targets_removed bus rule ids) set =
    rule_checks bus rule set ++ unless (are_some_removable ids (targets_of bus rule set)) (Validation member.Ids) ∷ []
checks (policy_put bus policy) set = bus_check bus set ∷ unless (is_short policy) PolicyTooLong ∷ []
checks (queue_created name) set =
    unless (not (has_queue name set)) (AlreadyExists kind.Queue) ∷ unless (nat_lt (length set.queues) 1000) (LimitExceeded kind.Queue) ∷ []
checks (queue_deleted name) set =
    unless (has_queue name set) (ResourceNotFound kind.Queue) ∷ unless (not (is_queue_used name set)) (InUse kind.Queue) ∷ []
checks (archive_created name bus pattern days) set =
    bus_check bus set ∷ unless (not (has_archive name set)) (AlreadyExists kind.Archive)
    ∷ unless (nat_lt (length set.archives) most_archives) (LimitExceeded kind.Archive) ∷ []
checks (archive_updated name pattern days) set =
    unless (has_archive name set) (ResourceNotFound kind.Archive)
    ∷ unless (keeps_pattern pattern (archive_at name set)) (Validation member.EventPattern) ∷ []
checks (archive_deleted name) set = unless (has_archive name set) (ResourceNotFound kind.Archive) ∷ []

-- The first refusal of a change.
-- Shown by: tables rule_table.rows: each_removal_is_made_or_refused, each_bus_is_made_or_refused, each_policy_is_put_or_refused,
-- a_queue_in_use_stays; table_tests test_rule_table.rt: each_refused_change_has_its_fault.
abbrev pub refusal : Control → RuleSet → Option ControlFault
refusal control set = first_fault (checks control set)

-- The change has no refusal.
-- Shown by: a_bus_with_rules_is_deleted.edit; default_bus_is_deleted.edit; a_queue_in_use_is_deleted.edit.
abbrev pub IsAllowed : Control → RuleSet → Type 0
IsAllowed control set = refusal control set ≡ None

-- The answer to a change of a rule set: the rule set after the change, which is allowed, or its first refusal, or out of memory.
-- Shown by: tables rule_table.rows: each_change_is_made_or_refused.
abbrev pub IsChanged : Control → RuleSet → Result RuleSet ControlFault → Type 0
IsChanged control old result = MatchResult result
    (λ set. IsAllowed control old × (set ≡ applied control old))
    (λ found. (found ≡ NoMemory) ⊎ (refusal control old ≡ Some found))
