-- Changes at the front of bytes.
use Rattle.std.specs.Prelude.{ℕ, Bool, List, [], ◌∷◌, Option, Some, None}
use Rattle.rule_targets.specs.Given.{Transformer}
use Rattle.rule_targets.specs.declared.given.GivenInput.{GivenInput}
use Rattle.rule_targets.specs.declared.given.GivenInput.TheVariants.{Input, InputPath, InputTransformer}
use Rattle.rule_targets.specs.declared.target.RetryPolicy.{RetryPolicy}
use Rattle.rule_targets.specs.declared.target.Target.{Target}
use Rattle.rule_table.specs.Control.{Control, bus_created, bus_deleted, rule_put, rule_deleted, state_put, targets_put, targets_removed, policy_put}
use Rattle.rule_table.specs.Control.{queue_created, queue_deleted, archive_created, archive_updated, archive_deleted}
use Rattle.entry_bytes.specs.Reading.{◌>>=◌, pair_at, made_at, nothing_at, choice_at, byte_at, two_at, four_at, text_at, flag_at, optional_at, list_at}

abbrev pub path_at : List ℕ → Option ((List ℕ × List ℕ) × List ℕ)
path_at = pair_at text_at text_at

abbrev pub some_input : List ℕ → Option GivenInput
some_input t = Some (Input t)

abbrev pub some_path : List ℕ → Option GivenInput
some_path t = Some (InputPath t)

abbrev pub transformer_of : List (List ℕ × List ℕ) × List ℕ → Transformer
transformer_of p = record { paths = p.0; template = p.1 }

abbrev pub some_transformer : List (List ℕ × List ℕ) × List ℕ → Option GivenInput
some_transformer p = Some (InputTransformer (transformer_of p))

abbrev pub transformer_at : List ℕ → Option ((List (List ℕ × List ℕ) × List ℕ) × List ℕ)
transformer_at = pair_at (list_at path_at) text_at

abbrev pub input_rows : List (ℕ × (List ℕ → Option (Option GivenInput × List ℕ)))
input_rows = (0, nothing_at None) ∷ (1, made_at some_input text_at) ∷ (2, made_at some_path text_at) ∷ (3, made_at some_transformer transformer_at) ∷ []

unfoldable pub input_at : List ℕ → Option (Option GivenInput × List ℕ)
input_at bytes = byte_at bytes >>= λ k. choice_at input_rows k.0 k.1

abbrev pub retry_of : ℕ × ℕ → RetryPolicy
retry_of p = record { attempts = p.0; age = p.1 }

unfoldable pub retry_at : List ℕ → Option (RetryPolicy × List ℕ)
retry_at = made_at retry_of (pair_at two_at four_at)

abbrev pub target_of : List ℕ × (List ℕ × (Option GivenInput × (Option RetryPolicy × Option (List ℕ)))) → Target
target_of p = record { id = p.0; arn = p.1.0; input = p.1.1.0; retry = p.1.1.1.0; dead_letter = p.1.1.1.1 }

unfoldable pub target_at : List ℕ → Option (Target × List ℕ)
target_at = made_at target_of (pair_at text_at (pair_at text_at (pair_at input_at (pair_at (optional_at retry_at) (optional_at text_at)))))

abbrev pub rule_put_of : List ℕ × (List ℕ × (List ℕ × Bool)) → Control
rule_put_of p = rule_put p.0 p.1.0 p.1.1.0 p.1.1.1

unfoldable pub rule_put_at : List ℕ → Option (Control × List ℕ)
rule_put_at = made_at rule_put_of (pair_at text_at (pair_at text_at (pair_at text_at flag_at)))

abbrev pub rule_deleted_of : List ℕ × List ℕ → Control
rule_deleted_of p = rule_deleted p.0 p.1

abbrev pub state_put_of : List ℕ × (List ℕ × Bool) → Control
state_put_of p = state_put p.0 p.1.0 p.1.1

abbrev pub targets_put_of : List ℕ × (List ℕ × List Target) → Control
targets_put_of p = targets_put p.0 p.1.0 p.1.1

unfoldable pub targets_put_at : List ℕ → Option (Control × List ℕ)
targets_put_at = made_at targets_put_of (pair_at text_at (pair_at text_at (list_at target_at)))

abbrev pub targets_removed_of : List ℕ × (List ℕ × List (List ℕ)) → Control
targets_removed_of p = targets_removed p.0 p.1.0 p.1.1

abbrev pub policy_put_of : List ℕ × Option (List ℕ) → Control
policy_put_of p = policy_put p.0 p.1

unfoldable pub policy_put_at : List ℕ → Option (Control × List ℕ)
policy_put_at = made_at policy_put_of (pair_at text_at (optional_at text_at))

abbrev pub archive_created_of : List ℕ × (List ℕ × (Option (List ℕ) × ℕ)) → Control
archive_created_of p = archive_created p.0 p.1.0 p.1.1.0 p.1.1.1

unfoldable pub archive_created_at : List ℕ → Option (Control × List ℕ)
archive_created_at = made_at archive_created_of (pair_at text_at (pair_at text_at (pair_at (optional_at text_at) four_at)))

abbrev pub archive_updated_of : List ℕ × (Option (List ℕ) × ℕ) → Control
archive_updated_of p = archive_updated p.0 p.1.0 p.1.1

unfoldable pub archive_updated_at : List ℕ → Option (Control × List ℕ)
archive_updated_at = made_at archive_updated_of (pair_at text_at (pair_at (optional_at text_at) four_at))

-- the changes whose texts are of any kind
abbrev pub plain_rows : List (ℕ × (List ℕ → Option (Control × List ℕ)))
plain_rows =
    (1, made_at bus_created text_at)
    ∷ (2, made_at bus_deleted text_at)
    ∷ (4, made_at rule_deleted_of (pair_at text_at text_at))
    ∷ (5, made_at state_put_of (pair_at text_at (pair_at text_at flag_at)))
    ∷ (7, made_at targets_removed_of (pair_at text_at (pair_at text_at (list_at text_at))))
    ∷ (9, made_at queue_created text_at)
    ∷ (10, made_at queue_deleted text_at)
    ∷ (13, made_at archive_deleted text_at)
    ∷ []

unfoldable pub plain_at : ℕ → List ℕ → Option (Control × List ℕ)
plain_at k bytes = choice_at plain_rows k bytes

-- the change of this kind, whose texts have to be valid for five kinds
unfoldable pub kind_at : ℕ → List ℕ → Option (Control × List ℕ)
kind_at k bytes =
    choice_at ((3, rule_put_at) ∷ (6, targets_put_at) ∷ (8, policy_put_at) ∷ (11, archive_created_at) ∷ (12, archive_updated_at) ∷ plain_rows) k bytes

-- The change at the front: its kind, and what the kind has.
-- Shown by: law a_change_is_read_as_it_is_spelled; a_queue_is_created_by_kind_20.edit.
unfoldable pub change_at : List ℕ → Option (Control × List ℕ)
change_at bytes = byte_at bytes >>= λ k. kind_at k.0 k.1
