-- What becomes of the ids of a RemoveTargets.
use Rattle.std.specs.Prelude.{ℕ, Bool, if◌then◌else◌, List, [], ◌∷◌}
use Rattle.std.specs.List.{list_any}
use Rattle.std.specs.Str.{bytes_eq}
use Rattle.name_rows.specs.Rows.{without}
use Rattle.rule_targets.specs.declared.target.Target.{Target}
use Rattle.api_replies.specs.declared.kind.Kind.TheVariants as kind
use Rattle.api_replies.specs.declared.cause.Cause.{Cause}
use Rattle.api_replies.specs.declared.cause.Cause.TheVariants as cause

-- One of the targets has this id.
-- Shown by: tables router_calls.rows: each_change_is_answered.
abbrev pub has_target : List ℕ → List Target → Bool
has_target id targets = list_any (λ target. bytes_eq target.id id) targets

-- The targets without the one of this id.
-- Shown by: a_removed_id_is_removed_twice.edit.
abbrev pub without_target : List ℕ → List Target → List Target
without_target = without (λ target. target.id)

-- The ids that are removed: each id of a target that the ids before it leave. Of two equal ids only the first one is removed.
-- Shown by: a_removed_id_is_removed_twice.edit.
abbrev pub removed_ids : List (List ℕ) → List Target → List (List ℕ)
removed_ids [] targets = []
removed_ids (id ∷ ids) targets =
    if has_target id targets then id ∷ removed_ids ids (without_target id targets) else removed_ids ids targets

-- Each id that is not removed (`removed_ids`), with its refusal.
-- Shown by: tables router_calls.rows: each_change_is_answered.
abbrev pub failed_ids : List (List ℕ) → List Target → List (List ℕ × Cause)
failed_ids [] targets = []
failed_ids (id ∷ ids) targets =
    if has_target id targets then failed_ids ids (without_target id targets)
    else (id, cause.NotFound kind.Target id) ∷ failed_ids ids targets
