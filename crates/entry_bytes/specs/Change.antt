-- Configuration changes as bytes, and which changes have them. The first byte is the kind. This project's own format.
use Rattle.std.specs.Prelude.{ℕ, ◌^◌, ◌<◌, List, [], ◌∷◌, ◌++◌, Option, Some, None}
use Rattle.rule_targets.specs.declared.given.GivenInput.{GivenInput}
use Rattle.rule_targets.specs.declared.given.GivenInput.TheVariants.{Input, InputPath, InputTransformer}
use Rattle.rule_targets.specs.declared.target.RetryPolicy.{RetryPolicy}
use Rattle.rule_targets.specs.declared.target.Target.{Target}
use Rattle.rule_table.specs.Control.{Control, bus_created, bus_deleted, rule_put, rule_deleted, state_put, targets_put, targets_removed, policy_put}
use Rattle.rule_table.specs.Control.{queue_created, queue_deleted, archive_created, archive_updated, archive_deleted}
use Rattle.entry_bytes.specs.Fields.{two_bytes, four_bytes, text_bytes, flag_bytes, optional_bytes, list_bytes, IsText, IsOptional, IsList}

-- An entry of an InputPathsMap: its key, and the text of its path.
-- Shown by: table_tests test_duty_journal.rt: each_batch_has_its_bytes.
abbrev pub path_bytes : List ℕ × List ℕ → List ℕ
path_bytes entry = text_bytes entry.0 ++ text_bytes entry.1

-- The input of a target: 0 if it has none, else the input's kind and texts.
-- Shown by: table_tests test_duty_journal.rt: each_batch_has_its_bytes.
abbrev pub input_bytes : Option GivenInput → List ℕ
input_bytes None = 0 ∷ []
input_bytes (Some (Input t)) = 1 ∷ text_bytes t
input_bytes (Some (InputPath t)) = 2 ∷ text_bytes t
input_bytes (Some (InputTransformer t)) = 3 ∷ (list_bytes path_bytes t.paths ++ text_bytes t.template)

-- A retry policy: attempts in two bytes, seconds in four.
-- Shown by: table_tests test_duty_journal.rt: each_batch_has_its_bytes.
abbrev pub retry_bytes : RetryPolicy → List ℕ
retry_bytes policy = two_bytes policy.attempts ++ four_bytes policy.age

-- A target: its id, its ARN, its input, its retry policy and its dead-letter queue.
-- Shown by: table_tests test_duty_journal.rt: each_batch_has_its_bytes.
abbrev pub target_bytes : Target → List ℕ
target_bytes t =
    text_bytes t.id ++ (text_bytes t.arn ++ (input_bytes t.input ++ (optional_bytes retry_bytes t.retry ++ optional_bytes text_bytes t.dead_letter)))

-- A change: its kind, from 1 to 13, and its fields.
-- Shown by: table_tests test_duty_journal.rt: each_batch_has_its_bytes; a_deletion_has_the_kind_of_a_creation.edit.
abbrev pub change_bytes : Control → List ℕ
change_bytes (bus_created name) = 1 ∷ text_bytes name
change_bytes (bus_deleted name) = 2 ∷ text_bytes name
change_bytes (rule_put bus name pattern enabled) = 3 ∷ (text_bytes bus ++ (text_bytes name ++ (text_bytes pattern ++ flag_bytes enabled)))
change_bytes (rule_deleted bus name) = 4 ∷ (text_bytes bus ++ text_bytes name)
change_bytes (state_put bus name enabled) = 5 ∷ (text_bytes bus ++ (text_bytes name ++ flag_bytes enabled))
change_bytes (targets_put bus rule targets) = 6 ∷ (text_bytes bus ++ (text_bytes rule ++ list_bytes target_bytes targets))
change_bytes (targets_removed bus rule ids) = 7 ∷ (text_bytes bus ++ (text_bytes rule ++ list_bytes text_bytes ids))
change_bytes (policy_put bus policy) = 8 ∷ (text_bytes bus ++ optional_bytes text_bytes policy)
change_bytes (queue_created name) = 9 ∷ text_bytes name
change_bytes (queue_deleted name) = 10 ∷ text_bytes name
change_bytes (archive_created name bus pattern days) =
    11 ∷ (text_bytes name ++ (text_bytes bus ++ (optional_bytes text_bytes pattern ++ four_bytes days)))
change_bytes (archive_updated name pattern days) = 12 ∷ (text_bytes name ++ (optional_bytes text_bytes pattern ++ four_bytes days))
change_bytes (archive_deleted name) = 13 ∷ text_bytes name

-- both texts have bytes
abbrev pub IsPath : List ℕ × List ℕ → Type 0
IsPath entry = IsText entry.0 × IsText entry.1

-- The texts of the input have bytes.
-- Shown by: proofs alone.
abbrev pub IsInput : Option GivenInput → Type 0
IsInput None = Unit {0}
IsInput (Some (Input t)) = IsText t
IsInput (Some (InputPath t)) = IsText t
IsInput (Some (InputTransformer t)) = IsList IsPath t.paths × IsText t.template

-- the numbers fit in two and in four bytes
abbrev pub IsRetry : RetryPolicy → Type 0
IsRetry policy = (policy.attempts < 2 ^ 16) × (policy.age < 2 ^ 32)

-- Each member of the target has bytes.
-- Shown by: proofs alone.
abbrev pub IsTarget : Target → Type 0
IsTarget t = IsText t.id × (IsText t.arn × (IsInput t.input × (IsOptional IsRetry t.retry × IsOptional IsText t.dead_letter)))

-- Each field of the change has bytes.
-- Shown by: proofs alone.
abbrev pub IsChange : Control → Type 0
IsChange (bus_created name) = IsText name
IsChange (bus_deleted name) = IsText name
IsChange (rule_put bus name pattern enabled) = IsText bus × (IsText name × (IsText pattern × Unit {0}))
IsChange (rule_deleted bus name) = IsText bus × IsText name
IsChange (state_put bus name enabled) = IsText bus × (IsText name × Unit {0})
IsChange (targets_put bus rule targets) = IsText bus × (IsText rule × IsList IsTarget targets)
IsChange (targets_removed bus rule ids) = IsText bus × (IsText rule × IsList IsText ids)
IsChange (policy_put bus policy) = IsText bus × IsOptional IsText policy
IsChange (queue_created name) = IsText name
IsChange (queue_deleted name) = IsText name
IsChange (archive_created name bus pattern days) = IsText name × (IsText bus × (IsOptional IsText pattern × (days < 2 ^ 32)))
IsChange (archive_updated name pattern days) = IsText name × (IsOptional IsText pattern × (days < 2 ^ 32))
IsChange (archive_deleted name) = IsText name
