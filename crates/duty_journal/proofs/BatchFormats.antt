-- Operations and batches are read as they are spelled.
use Rattle.std.proofs.Common.{◌≡◌, ℕ, ◌^◌, ◌<◌, ◌≤◌, ◌++◌, List, [], ◌∷◌, length, false, cond, eqb, leb, Some, None, refl, sym, ap, subst, ◌∙◌, arith, append_assoc, inl, inr}
use Rattle.std.specs.List.{flat_map, AllByRecursion}
use Rattle.std.proofs.lemmas.Bool.Decides.{nat_tests}
use Rattle.delivery_duties.specs.declared.duty.NewDuty.{NewDuty}
use Rattle.rule_table.specs.Control.{Control, bus_created, bus_deleted, rule_put, rule_deleted, state_put, targets_put, targets_removed, policy_put}
use Rattle.rule_table.specs.Control.{queue_created, queue_deleted, archive_created, archive_updated, archive_deleted}
use Rattle.router_requests.specs.Batch.{Entry, control, accepted, attempt, replay_started, replay_stepped, replay_cancelled, messages_deleted}
use Rattle.entry_bytes.specs.Fields.{two_bytes}
use Rattle.entry_bytes.specs.Change.{change_bytes, IsChange}
use Rattle.entry_bytes.specs.Duty.{IsDuty, IsNamed}
use Rattle.entry_bytes.specs.Reading.{IsBytes, Takes, IsReadAs, made_at, two_at, items_at}
use Rattle.entry_bytes.specs.ChangeReading.{change_at}
use Rattle.entry_bytes.proofs.Formats.{IsBytes-rest, bind_some, some_is, guard_some, cond_is, Takes-then, two_format, eight_format, text_format, pair_format, made_format, optional_format, list_format, items_take, items_again, row_of, choice_takes, made_again}
use Rattle.entry_bytes.proofs.ChangeFormats.{change_format}
use Rattle.entry_bytes.proofs.DutyFormats.{duty_format, outcome_format}
use Rattle.duty_journal.specs.Batch.{accepted_bytes, started_bytes, stepped_bytes, operation_bytes, batch_bytes, IsAccepted, IsStarted, IsStepped, IsOperation}
use Rattle.duty_journal.specs.Reading.{event_of, event_at, started_of, started_at, stepped_of, stepped_at, attempt_of, deleted_of, other_rows, other_at, operation_at, operations_at, made_batch, batch_at}

-- a duty with bytes, whose rule is named by its ARN
abbrev pub IsReadDuty : NewDuty → Type 0
IsReadDuty d = IsDuty d × IsNamed d

event_format : IsReadAs accepted_bytes event_at (IsAccepted IsReadDuty)
event_format = made_format event_of (λ e. (e.number, (e.bus, (e.k, (e.time, (e.text, (e.archives, e.duties))))))) (λ p. refl) (λ e. refl)
    (pair_format eight_format (pair_format text_format (pair_format eight_format (pair_format eight_format (pair_format text_format
    (pair_format (list_format text_format) (list_format duty_format)))))))

started_format : IsReadAs started_bytes started_at IsStarted
started_format = made_format started_of (λ s. (s.name, (s.archive, (s.range.start, (s.range.end, s.rules))))) (λ p. refl) (λ s. refl)
    (pair_format text_format (pair_format text_format (pair_format eight_format (pair_format eight_format (optional_format (list_format text_format))))))

stepped_format : IsReadAs stepped_bytes stepped_at (IsStepped IsReadDuty)
stepped_format = made_format stepped_of (λ s. (s.name, (s.event, s.duties))) (λ p. refl) (λ s. refl)
    (pair_format text_format (pair_format eight_format (list_format duty_format)))

abbrev Spelled : List ℕ → Entry → List ℕ → Type 0
Spelled bytes x rest = Takes bytes (operation_bytes x) rest × IsOperation IsReadDuty x

changed_takes : (bytes : List ℕ) (x : Entry) (rest : List ℕ) → IsBytes bytes → made_at control change_at bytes ≡ Some (x, rest) → Spelled bytes x rest
changed_takes bytes x rest fits e =
    let c = bind_some (change_at bytes) (λ (c : Control × List ℕ). Some (control c.0, c.1)) (x, rest) e in
    let first = change_format.takes bytes c.0.0 c.0.1 fits c.1 in
    subst (λ (q : Entry × List ℕ). Spelled bytes q.0 q.1) (some_is (control c.0.0, c.0.1) (x, rest) c.2) first

other_takes : (b : ℕ) (bytes : List ℕ) (x : Entry) (rest : List ℕ) → IsBytes bytes → other_at b bytes ≡ Some (x, rest) → Spelled (b ∷ bytes) x rest
unfolding other_at
other_takes b bytes x rest fits e = choice_takes operation_bytes (IsOperation IsReadDuty) other_rows b bytes x rest (
  row_of event_format operation_bytes (IsOperation IsReadDuty) 14 accepted (λ v. refl) (λ v f. f),
  (
    row_of (pair_format eight_format outcome_format) operation_bytes (IsOperation IsReadDuty) 15 attempt_of (λ p. refl) (λ p f. f),
    (
      row_of started_format operation_bytes (IsOperation IsReadDuty) 16 replay_started (λ v. refl) (λ v f. f),
      (
        row_of stepped_format operation_bytes (IsOperation IsReadDuty) 17 replay_stepped (λ v. refl) (λ v f. f),
        (
          row_of text_format operation_bytes (IsOperation IsReadDuty) 18 replay_cancelled (λ v. refl) (λ v f. f),
          (
            row_of (pair_format text_format eight_format) operation_bytes (IsOperation IsReadDuty) 19 deleted_of (λ p. refl) (λ p f. f),
            tt,
          ),
        ),
      ),
    ),
  ),
) fits e

operation_takes : (bytes : List ℕ) (x : Entry) (rest : List ℕ) → IsBytes bytes → operation_at bytes ≡ Some (x, rest) → Spelled bytes x rest
unfolding operation_at
operation_takes [] x rest fits e = absurd cc
operation_takes (b ∷ bytes) x rest fits e =
    elim (cond_is (leb b 13) (made_at control change_at (b ∷ bytes)) (other_at b bytes) (Some (x, rest)) e) [
      | inl h ↦ changed_takes (b ∷ bytes) x rest fits h.1
      | inr h ↦ other_takes b bytes x rest (IsBytes-rest b bytes fits) h.1
    ]

changed_again : (c : Control) (rest : List ℕ) → IsChange c → operation_at (change_bytes c ++ rest) ≡ Some (control c, rest)
unfolding operation_at
changed_again (bus_created name) rest fits = made_again change_format control (bus_created name) rest fits
changed_again (bus_deleted name) rest fits = made_again change_format control (bus_deleted name) rest fits
changed_again (rule_put bus name pattern enabled) rest fits = made_again change_format control (rule_put bus name pattern enabled) rest fits
changed_again (rule_deleted bus name) rest fits = made_again change_format control (rule_deleted bus name) rest fits
changed_again (state_put bus name enabled) rest fits = made_again change_format control (state_put bus name enabled) rest fits
changed_again (targets_put bus rule targets) rest fits = made_again change_format control (targets_put bus rule targets) rest fits
changed_again (targets_removed bus rule ids) rest fits = made_again change_format control (targets_removed bus rule ids) rest fits
changed_again (policy_put bus policy) rest fits = made_again change_format control (policy_put bus policy) rest fits
changed_again (queue_created name) rest fits = made_again change_format control (queue_created name) rest fits
changed_again (queue_deleted name) rest fits = made_again change_format control (queue_deleted name) rest fits
changed_again (archive_created name bus pattern days) rest fits = made_again change_format control (archive_created name bus pattern days) rest fits
changed_again (archive_updated name pattern days) rest fits = made_again change_format control (archive_updated name pattern days) rest fits
changed_again (archive_deleted name) rest fits = made_again change_format control (archive_deleted name) rest fits

operation_again : (x : Entry) (rest : List ℕ) → IsOperation IsReadDuty x → operation_at (operation_bytes x ++ rest) ≡ Some (x, rest)
unfolding operation_at other_at
operation_again (control c) rest fits = changed_again c rest fits
operation_again (accepted e) rest fits = made_again event_format accepted e rest fits
operation_again (attempt duty outcome) rest fits = made_again (pair_format eight_format outcome_format) attempt_of (duty, outcome) rest fits
operation_again (replay_started s) rest fits = made_again started_format replay_started s rest fits
operation_again (replay_stepped s) rest fits = made_again stepped_format replay_stepped s rest fits
operation_again (replay_cancelled name) rest fits = made_again text_format replay_cancelled name rest fits
operation_again (messages_deleted queue through) rest fits = made_again (pair_format text_format eight_format) deleted_of (queue, through) rest fits

operation_format : IsReadAs operation_bytes operation_at (IsOperation IsReadDuty)
operation_format = record { takes = operation_takes; again = operation_again }

abbrev pub HasOperations : List Entry → Type 0
HasOperations es = (1 ≤ length es) × ((length es < 2 ^ 16) × AllByRecursion (IsOperation IsReadDuty) es)

some_counted : (n : ℕ) → eqb n 0 ≡ false → 1 ≤ n
some_counted n e = grind (arith, nat_tests)

counted_some : (n : ℕ) → 1 ≤ n → eqb n 0 ≡ false
counted_some n h = grind (arith, nat_tests)

operations_format : IsReadAs (λ es. two_bytes (length es) ++ flat_map operation_bytes es) operations_at HasOperations
unfolding operations_at
operations_format = record {
  takes = λ bytes xs rest fits e.
      let n = bind_some (two_at bytes) (λ (n : ℕ × List ℕ). cond (eqb n.0 0) None (items_at operation_at n.0 n.1)) (xs, rest) e in
      let g = guard_some (eqb n.0.0 0) (items_at operation_at n.0.0 n.0.1) (xs, rest) n.2 in
      let first = two_format.takes bytes n.0.0 n.0.1 fits n.1 in
      let second = items_take operation_format n.0.0 n.0.1 xs rest first.0.rest_fits g.1 in
      let both = Takes-then bytes (two_bytes n.0.0) n.0.1 (flat_map operation_bytes xs) rest first.0 second.0 in
      let some : 1 ≤ n.0.0 = some_counted n.0.0 g.0 in (
        subst (λ (k : ℕ). Takes bytes (two_bytes k ++ flat_map operation_bytes xs) rest) (sym second.1) both,
        (omega (arith, second.1, some), (omega (arith, second.1, first.1), second.2)),
      );
  again = λ xs rest fits. ap operations_at (append_assoc (two_bytes (length xs)) (flat_map operation_bytes xs) rest)
      ∙ rw (two_format.again (length xs) (flat_map operation_bytes xs ++ rest) fits.1.0, counted_some (length xs) fits.0) (items_again operation_format xs rest fits.1.1);
}

pub batch_format : IsReadAs batch_bytes batch_at (λ b. (b.moment < 2 ^ 64) × HasOperations b.entries)
unfolding batch_at
batch_format = made_format made_batch (λ b. (b.moment, b.entries)) (λ p. refl) (λ b. refl) (pair_format eight_format operations_format)
