-- Duties and outcomes of attempts as bytes, and which have them. This project's own format.
use Rattle.std.specs.Prelude.{◌≡◌, ℕ, ◌^◌, ◌<◌, List, ◌∷◌, ◌++◌}
use Rattle.input_transform.specs.Names.{after_slash}
use Rattle.delivery_duties.specs.declared.duty.NewDuty.{NewDuty}
use Rattle.delivery_duties.specs.declared.outcome.Outcome.{Outcome}
use Rattle.delivery_duties.specs.declared.outcome.Outcome.TheVariants.{Accepted, Code, NoAnswer, NoQueue, TooOld}
use Rattle.entry_bytes.specs.Fields.{two_bytes, four_bytes, text_bytes, flag_bytes, optional_bytes, IsText, IsOptional}

-- A duty: the rule's ARN, the target's id, the endpoint, the text, the retry attempts in two bytes, the age in four, the dead-letter queue,
-- and whether the text was too long. The rule's name is the end of its ARN.
-- Shown by: table_tests test_duty_journal.rt: each_batch_has_its_bytes.
abbrev pub duty_bytes : NewDuty → List ℕ
duty_bytes d =
    text_bytes d.target.rule_arn ++ (text_bytes d.target.target_id ++ (text_bytes d.target.endpoint ++ (text_bytes d.text
    ++ (two_bytes d.target.attempts ++ (four_bytes d.target.age ++ (optional_bytes text_bytes d.target.dead_letter ++ flag_bytes d.too_long))))))

-- An outcome: its kind, from 0 to 4, and the code in two bytes, which is 0 if there is none.
-- Shown by: table_tests test_duty_journal.rt: each_batch_has_its_bytes; an_outcome_without_a_code_has_any.edit.
abbrev pub outcome_bytes : Outcome → List ℕ
outcome_bytes Accepted = 0 ∷ two_bytes 0
outcome_bytes (Code code) = 1 ∷ two_bytes code
outcome_bytes NoAnswer = 2 ∷ two_bytes 0
outcome_bytes NoQueue = 3 ∷ two_bytes 0
outcome_bytes TooOld = 4 ∷ two_bytes 0

-- Each field of the duty has bytes.
-- Shown by: proofs alone.
abbrev pub IsDuty : NewDuty → Type 0
IsDuty d =
    IsText d.target.rule_arn × (IsText d.target.target_id × (IsText d.target.endpoint × (IsText d.text
    × ((d.target.attempts < 2 ^ 16) × ((d.target.age < 2 ^ 32) × (IsOptional IsText d.target.dead_letter × Unit {0}))))))

-- The name of the duty's rule is the end of the rule's ARN: what follows the last `/`.
-- Shown by: table_tests test_duty_journal.rt: each_batch_has_its_bytes.
abbrev pub IsNamed : NewDuty → Type 0
IsNamed d = d.target.rule_name ≡ after_slash d.target.rule_arn

-- The code of the outcome, if it has one, fits in two bytes.
-- Shown by: proofs alone.
abbrev pub IsOutcome : Outcome → Type 0
IsOutcome (Code code) = code < 2 ^ 16
IsOutcome _ = Unit {0}
