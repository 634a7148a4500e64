-- Duties and outcomes at the front of bytes.
use Rattle.std.specs.Prelude.{ℕ, Bool, List, [], ◌∷◌, Option, Some, None, ◌==◌, if◌then◌else◌}
use Rattle.input_transform.specs.Names.{after_slash}
use Rattle.delivery_duties.specs.declared.duty.NewDuty.{NewDuty}
use Rattle.delivery_duties.specs.declared.outcome.Outcome.{Outcome}
use Rattle.delivery_duties.specs.declared.outcome.Outcome.TheVariants.{Accepted, Code, NoAnswer, NoQueue, TooOld}
use Rattle.entry_bytes.specs.Reading.{◌>>=◌, pair_at, made_at, choice_at, byte_at, two_at, four_at, text_at, flag_at, optional_at}

abbrev pub duty_of : List ℕ × (List ℕ × (List ℕ × (List ℕ × (ℕ × (ℕ × (Option (List ℕ) × Bool)))))) → NewDuty
duty_of p = record {
  target = record {
    rule_arn = p.0;
    rule_name = after_slash p.0;
    target_id = p.1.0;
    endpoint = p.1.1.0;
    dead_letter = p.1.1.1.1.1.1.0;
    attempts = p.1.1.1.1.0;
    age = p.1.1.1.1.1.0;
  };
  text = p.1.1.1.0;
  too_long = p.1.1.1.1.1.1.1;
}

-- The duty at the front. The name of its rule is the end of the rule's ARN.
-- Shown by: law a_duty_is_read_as_it_is_spelled.
unfoldable pub duty_at : List ℕ → Option (NewDuty × List ℕ)
duty_at = made_at duty_of (pair_at text_at (pair_at text_at (pair_at text_at (pair_at text_at (pair_at two_at (pair_at four_at (pair_at (optional_at text_at) flag_at)))))))

-- an outcome without a code, which is 0
abbrev pub uncoded_at : Outcome → List ℕ → Option (Outcome × List ℕ)
uncoded_at outcome bytes = two_at bytes >>= λ code. if code.0 == 0 then Some (outcome, code.1) else None

abbrev pub outcome_rows : List (ℕ × (List ℕ → Option (Outcome × List ℕ)))
outcome_rows =
    (0, uncoded_at Accepted) ∷ (1, made_at Code two_at) ∷ (2, uncoded_at NoAnswer) ∷ (3, uncoded_at NoQueue) ∷ (4, uncoded_at TooOld) ∷ []

-- The outcome at the front: its kind, and its code, which is 0 if the kind has none.
-- Shown by: law an_outcome_is_read_as_it_is_spelled; an_outcome_without_a_code_has_any.edit.
unfoldable pub outcome_at : List ℕ → Option (Outcome × List ℕ)
outcome_at bytes = byte_at bytes >>= λ k. choice_at outcome_rows k.0 k.1
