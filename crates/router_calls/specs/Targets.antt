-- What becomes of the targets of a PutTargets.
use Rattle.std.specs.Prelude.{ℕ, List, [], ◌∷◌, Option, Some, None}
use Rattle.rule_targets.specs.declared.target.AskedTarget.{AskedTarget}
use Rattle.rule_targets.specs.declared.target.Target.{Target}
use Rattle.rule_targets.specs.Target.{put_as}
use Rattle.rule_table.specs.declared.control.TargetFault.{TargetFault}
use Rattle.rule_table.specs.RuleSet.{RuleSet, put_target}
use Rattle.rule_table.specs.Refusal.{target_fault}
use Rattle.api_replies.specs.declared.cause.Cause.{Cause}
use Rattle.call_replies.specs.Causes.{target_cause}

-- the rule's targets after a target with this fault, or with none: without a fault it is put
abbrev pub having : Option TargetFault → AskedTarget → List Target → List Target
having None target have = put_target (put_as target) have
having (Some fault) target have = have

-- the target before these, unless it has a fault
abbrev pub accepted_first : Option TargetFault → AskedTarget → List Target → List Target
accepted_first None target accepted = put_as target ∷ accepted
accepted_first (Some fault) target accepted = accepted

-- the target's id and its refusal before these, if it has a fault
abbrev pub failed_first : Option TargetFault → AskedTarget → List (List ℕ × Cause) → List (List ℕ × Cause)
failed_first None target failed = failed
failed_first (Some fault) target failed = (target.id, target_cause fault) ∷ failed

-- The targets that are accepted, in their order. Each target is put to the rule's targets with the accepted ones before it, so one that
-- replaces another is no sixth.
-- Shown by: a_faulty_target_is_put.edit.
abbrev pub accepted_targets : RuleSet → List Target → List AskedTarget → List Target
accepted_targets set have [] = []
accepted_targets set have (target ∷ targets) =
    accepted_first (target_fault set have target) target (accepted_targets set (having (target_fault set have target) target have) targets)

-- The id and the refusal of each target that is not accepted, in their order.
-- Shown by: tables router_calls.rows: each_request_is_answered.
abbrev pub failed_targets : RuleSet → List Target → List AskedTarget → List (List ℕ × Cause)
failed_targets set have [] = []
failed_targets set have (target ∷ targets) =
    failed_first (target_fault set have target) target (failed_targets set (having (target_fault set have target) target have) targets)
