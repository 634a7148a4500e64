-- Changes, with their targets and inputs, are read as they are spelled.
use Rattle.std.proofs.Common.{◌≡◌, ℕ, List, [], ◌∷◌, ◌++◌, Option, Some, None, refl}
use Rattle.rule_targets.specs.declared.given.GivenInput.{GivenInput}
use Rattle.rule_targets.specs.declared.given.GivenInput.TheVariants.{Input, InputPath, InputTransformer}
use Rattle.rule_table.specs.Control.{Control, bus_created, bus_deleted, rule_put, rule_deleted, state_put, targets_put, targets_removed, policy_put}
use Rattle.rule_table.specs.Control.{queue_created, queue_deleted, archive_created, archive_updated, archive_deleted}
use Rattle.entry_bytes.specs.Fields.{text_bytes, list_bytes, IsText, IsList}
use Rattle.entry_bytes.specs.Change.{path_bytes, input_bytes, retry_bytes, target_bytes, change_bytes, IsPath, IsInput, IsRetry, IsTarget, IsChange}
use Rattle.entry_bytes.specs.Reading.{IsBytes, Takes, IsReadAs}
use Rattle.entry_bytes.specs.ChangeReading.{path_at, some_input, some_path, some_transformer, transformer_at, input_rows, input_at, retry_of, retry_at, target_of, target_at, rule_put_of, rule_put_at, rule_deleted_of, state_put_of, targets_put_of, targets_put_at, targets_removed_of, policy_put_of, policy_put_at, archive_created_of, archive_created_at, archive_updated_of, archive_updated_at, plain_rows, kind_at, change_at}
use Rattle.entry_bytes.proofs.Formats.{IsBytes-rest, two_format, four_format, text_format, flag_format, pair_format, made_format, optional_format, list_format, row_of, nothing_row, choice_takes, made_again}

path_format : IsReadAs path_bytes path_at IsPath
path_format = pair_format text_format text_format

transformer_format : IsReadAs (λ p. list_bytes path_bytes p.0 ++ text_bytes p.1) transformer_at (λ p. IsList IsPath p.0 × IsText p.1)
transformer_format = pair_format (list_format path_format) text_format

input_takes : (bytes : List ℕ) (x : Option GivenInput) (rest : List ℕ) → IsBytes bytes → input_at bytes ≡ Some (x, rest) → Takes bytes (input_bytes x) rest × IsInput x
unfolding input_at
input_takes [] x rest fits e = absurd cc
input_takes (b ∷ bytes) x rest fits e = choice_takes input_bytes IsInput input_rows b bytes x rest (
  nothing_row input_bytes IsInput 0 None refl tt,
  (
    row_of text_format input_bytes IsInput 1 some_input (λ t. refl) (λ t f. f),
    (
      row_of text_format input_bytes IsInput 2 some_path (λ t. refl) (λ t f. f),
      (
        row_of transformer_format input_bytes IsInput 3 some_transformer (λ t. refl) (λ t f. f),
        tt,
      ),
    ),
  ),
) (IsBytes-rest b bytes fits) e

input_again : (x : Option GivenInput) (rest : List ℕ) → IsInput x → input_at (input_bytes x ++ rest) ≡ Some (x, rest)
unfolding input_at
input_again None rest fits = refl
input_again (Some (Input t)) rest fits = made_again text_format some_input t rest fits
input_again (Some (InputPath t)) rest fits = made_again text_format some_path t rest fits
input_again (Some (InputTransformer t)) rest fits = made_again transformer_format some_transformer (t.paths, t.template) rest fits

input_format : IsReadAs input_bytes input_at IsInput
input_format = record { takes = input_takes; again = input_again }

retry_format : IsReadAs retry_bytes retry_at IsRetry
unfolding retry_at
retry_format = made_format retry_of (λ r. (r.attempts, r.age)) (λ p. refl) (λ r. refl) (pair_format two_format four_format)

target_format : IsReadAs target_bytes target_at IsTarget
unfolding target_at
target_format = made_format target_of (λ t. (t.id, (t.arn, (t.input, (t.retry, t.dead_letter))))) (λ p. refl) (λ t. refl)
    (pair_format text_format (pair_format text_format (pair_format input_format (pair_format (optional_format retry_format) (optional_format text_format)))))

change_takes : (bytes : List ℕ) (x : Control) (rest : List ℕ) → IsBytes bytes → change_at bytes ≡ Some (x, rest) → Takes bytes (change_bytes x) rest × IsChange x
unfolding rule_put_at targets_put_at policy_put_at archive_created_at archive_updated_at kind_at change_at
change_takes [] x rest fits e = absurd cc
change_takes (b ∷ bytes) x rest fits e = choice_takes change_bytes IsChange ((3, rule_put_at) ∷ (6, targets_put_at) ∷ (8, policy_put_at) ∷ (11, archive_created_at) ∷ (12, archive_updated_at) ∷ plain_rows) b bytes x rest (
  row_of (pair_format text_format (pair_format text_format (pair_format text_format flag_format))) change_bytes IsChange 3 rule_put_of (λ p. refl) (λ p f. f),
  (
    row_of (pair_format text_format (pair_format text_format (list_format target_format))) change_bytes IsChange 6 targets_put_of (λ p. refl) (λ p f. f),
    (
      row_of (pair_format text_format (optional_format text_format)) change_bytes IsChange 8 policy_put_of (λ p. refl) (λ p f. f),
      (
        row_of (pair_format text_format (pair_format text_format (pair_format (optional_format text_format) four_format))) change_bytes IsChange 11 archive_created_of (λ p. refl) (λ p f. f),
        (
          row_of (pair_format text_format (pair_format (optional_format text_format) four_format)) change_bytes IsChange 12 archive_updated_of (λ p. refl) (λ p f. f),
          (
            row_of text_format change_bytes IsChange 1 bus_created (λ p. refl) (λ p f. f),
            (
              row_of text_format change_bytes IsChange 2 bus_deleted (λ p. refl) (λ p f. f),
              (
                row_of (pair_format text_format text_format) change_bytes IsChange 4 rule_deleted_of (λ p. refl) (λ p f. f),
                (
                  row_of (pair_format text_format (pair_format text_format flag_format)) change_bytes IsChange 5 state_put_of (λ p. refl) (λ p f. f),
                  (
                    row_of (pair_format text_format (pair_format text_format (list_format text_format))) change_bytes IsChange 7 targets_removed_of (λ p. refl) (λ p f. f),
                    (
                      row_of text_format change_bytes IsChange 9 queue_created (λ p. refl) (λ p f. f),
                      (
                        row_of text_format change_bytes IsChange 10 queue_deleted (λ p. refl) (λ p f. f),
                        (
                          row_of text_format change_bytes IsChange 13 archive_deleted (λ p. refl) (λ p f. f),
                          tt,
                        ),
                      ),
                    ),
                  ),
                ),
              ),
            ),
          ),
        ),
      ),
    ),
  ),
) (IsBytes-rest b bytes fits) e

change_again : (x : Control) (rest : List ℕ) → IsChange x → change_at (change_bytes x ++ rest) ≡ Some (x, rest)
unfolding rule_put_at targets_put_at policy_put_at archive_created_at archive_updated_at kind_at change_at
change_again (bus_created name) rest fits = made_again text_format bus_created name rest fits
change_again (bus_deleted name) rest fits = made_again text_format bus_deleted name rest fits
change_again (rule_put bus name pattern enabled) rest fits =
    made_again (pair_format text_format (pair_format text_format (pair_format text_format flag_format))) rule_put_of (bus, (name, (pattern, enabled))) rest fits
change_again (rule_deleted bus name) rest fits = made_again (pair_format text_format text_format) rule_deleted_of (bus, name) rest fits
change_again (state_put bus name enabled) rest fits =
    made_again (pair_format text_format (pair_format text_format flag_format)) state_put_of (bus, (name, enabled)) rest fits
change_again (targets_put bus rule targets) rest fits =
    made_again (pair_format text_format (pair_format text_format (list_format target_format))) targets_put_of (bus, (rule, targets)) rest fits
change_again (targets_removed bus rule ids) rest fits =
    made_again (pair_format text_format (pair_format text_format (list_format text_format))) targets_removed_of (bus, (rule, ids)) rest fits
change_again (policy_put bus policy) rest fits = made_again (pair_format text_format (optional_format text_format)) policy_put_of (bus, policy) rest fits
change_again (queue_created name) rest fits = made_again text_format queue_created name rest fits
change_again (queue_deleted name) rest fits = made_again text_format queue_deleted name rest fits
change_again (archive_created name bus pattern days) rest fits =
    made_again (pair_format text_format (pair_format text_format (pair_format (optional_format text_format) four_format))) archive_created_of
    (name, (bus, (pattern, days))) rest fits
change_again (archive_updated name pattern days) rest fits =
    made_again (pair_format text_format (pair_format (optional_format text_format) four_format)) archive_updated_of (name, (pattern, days)) rest fits
change_again (archive_deleted name) rest fits = made_again text_format archive_deleted name rest fits

pub change_format : IsReadAs change_bytes change_at IsChange
change_format = record { takes = change_takes; again = change_again }
