-- The record of an attempt, byte by byte.
use Rattle.std.proofs.Common.{◌≡◌, ℕ, List, [], ◌∷◌, ◌++◌, get_or, sym, ap, ◌∙◌}
use Rattle.std.specs.List.{flat_map}
use Rattle.std.specs.Int.{w16, w64, to_be_bytes}
use Rattle.std.proofs.lemmas.List.{append-nil}
use Rattle.std.proofs.lemmas.List.Concat.{flat_map-cons}
use Rattle.record_file.specs.Records.{length_bytes, laid}
use Rattle.delivery_duties.specs.declared.outcome.Outcome.{Outcome}
use Rattle.router_requests.specs.Batch.{Entry, attempt, Batch}
use Rattle.entry_bytes.specs.Fields.{two_bytes, eight_bytes}
use Rattle.entry_bytes.specs.Duty.{outcome_bytes}
use Rattle.duty_journal.specs.Batch.{operation_bytes, batch_bytes}

abbrev pub attempt_batch : ℕ → ℕ → Outcome → Batch
attempt_batch moment duty outcome = record { moment = moment; entries = attempt duty outcome ∷ [] }

only_operation : (x : Entry) → flat_map operation_bytes (x ∷ []) ≡ operation_bytes x
only_operation x = flat_map-cons operation_bytes x [] ∙ append-nil (operation_bytes x)

payload_is : (moment duty kind code : ℕ) (outcome : Outcome) → outcome_bytes outcome ≡ kind ∷ two_bytes code
    → batch_bytes (attempt_batch moment duty outcome) ≡ eight_bytes moment ++ (two_bytes 1 ++ (15 ∷ (eight_bytes duty ++ kind ∷ two_bytes code)))
payload_is moment duty kind code outcome e =
    ap (λ t. eight_bytes moment ++ (two_bytes 1 ++ t)) (only_operation (attempt duty outcome) ∙ ap (λ t. 15 ∷ (eight_bytes duty ++ t)) e)

pub record_is : (moment duty kind code : ℕ) (outcome : Outcome) (m d c : List ℕ) → outcome_bytes outcome ≡ kind ∷ two_bytes code
    → m ≡ to_be_bytes w64 moment → d ≡ to_be_bytes w64 duty → c ≡ to_be_bytes w16 code
    → 0 ∷ 0 ∷ 0 ∷ 0 ∷ 0 ∷ 0 ∷ 0 ∷ 22 ∷ get_or m 0 0 ∷ get_or m 1 0 ∷ get_or m 2 0 ∷ get_or m 3 0 ∷ get_or m 4 0 ∷ get_or m 5 0 ∷ get_or m 6 0 ∷ get_or m 7 0
    ∷ 0 ∷ 1 ∷ 15 ∷ get_or d 0 0 ∷ get_or d 1 0 ∷ get_or d 2 0 ∷ get_or d 3 0 ∷ get_or d 4 0 ∷ get_or d 5 0 ∷ get_or d 6 0 ∷ get_or d 7 0
    ∷ kind ∷ get_or c 0 0 ∷ get_or c 1 0 ∷ 0 ∷ []
    ≡ laid (batch_bytes (attempt_batch moment duty outcome) ∷ [])
unfolding length_bytes two_bytes eight_bytes
record_is moment duty kind code outcome m d c e em ed ec =
    rw (em, ed, ec) (sym (ap (λ p. laid (p ∷ [])) (payload_is moment duty kind code outcome e)))
