-- One delivery step: a duty is claimed, and the outcome of its attempt is recorded or its claim released.
use Rattle.std.specs.Prelude.{◌≡◌, ℕ, ◌≤◌, ◌⊎◌, true, false, List, [], ◌∷◌, Some}
use Rattle.event_shape.specs.Names.{IsQueueArn}
use Rattle.delivery_duties.specs.declared.duty.DutyRow.{DutyRow}
use Rattle.delivery_duties.specs.declared.outcome.Outcome.{Outcome}
use Rattle.delivery_duties.specs.declared.outcome.Outcome.TheVariants.{Accepted, NoQueue}
use Rattle.delivery_duties.specs.declared.outcome.Fate.{Fate}
use Rattle.delivery_queues.specs.Queues.{Queue, has_queue}
use Rattle.delivery_duties.specs.Retry.{after_attempt, waits, fate_of}
use Rattle.delivery_duties.specs.Duties.{pending_row, claimed, unclaimed, has_dead_letter_queue, IsNext}
use Rattle.router_requests.specs.Batch.{attempt, Batch}
use Rattle.router_core.specs.Tables.{Tables}
use Rattle.router_core.specs.declared.errand.Errand.{Errand}

-- The tables with the duty claimed. No batch records it.
-- Shown by: .ci/checks/endpoints.sh.
abbrev pub claiming : ℕ → Tables → Tables
claiming duty t = record t { duties = claimed duty t.duties }

-- The tables with the claim released. No batch records it.
-- Shown by: proofs alone.
abbrev pub putting_back : ℕ → Tables → Tables
putting_back duty t = record t { duties = unclaimed duty t.duties }

-- The errand is that of a claimed duty of these tables, which was due when it was claimed.
-- Shown by: program_tests program.rt: an_endpoint_is_sent_the_event_once.
pub record IsErrandOf (t : Tables) (e : Errand) : Type 0 where
  pub row : DutyRow
  pub pending : pending_row e.claim.number t.duties ≡ Some row
  pub claimed : row.claimed ≡ true
  pub due : row.due ≤ e.moment
  pub endpoint : e.target.endpoint ≡ row.duty.target.endpoint

-- The duty that is due first was claimed, and its errand has its target, its text and the moment at which it was made.
-- Shown by: program_tests program.rt: an_endpoint_is_sent_the_event_once.
pub record IsClaimed (old : Tables) (moment : ℕ) (e : Errand) (new : Tables) : Type 0 where
  pub next : IsNext old.duties moment e.claim.number
  pub at : e.moment ≡ moment
  pub tables : new ≡ claiming e.claim.number old
  pub errand : IsErrandOf new e
  pub row : DutyRow
  pub pending : pending_row e.claim.number old.duties ≡ Some row
  pub target : e.target ≡ row.duty.target
  pub text : e.text ≡ row.duty.text
  pub accepted : e.accepted ≡ row.accepted

-- The outcome that is recorded: the one that is given, but a text for a queue that does not exist was not accepted.
-- Shown by: a_missing_queue_accepts.edit.
abbrev pub IsRecordedAs : List Queue → List ℕ → Outcome → Outcome → Type 0
IsRecordedAs queues endpoint ended recorded =
    ((recorded ≡ ended) × (ended ≡ Accepted → (queue : List ℕ) → IsQueueArn endpoint queue → has_queue queue queues ≡ true))
    ⊎ ((ended ≡ Accepted) × (recorded ≡ NoQueue) × ((queue : List ℕ) × IsQueueArn endpoint queue × (has_queue queue queues ≡ false)))

-- The batch that records the outcome of an attempt.
-- Shown by: first-run.
abbrev pub record_of : ℕ → ℕ → Outcome → Batch
record_of moment duty outcome = record { moment = moment; entries = attempt duty outcome ∷ [] }

-- The fate of a duty after an attempt, with these queues.
-- Shown by: dead-letters.
abbrev pub fate_after : List Queue → ℕ → DutyRow → Outcome → Fate
fate_after queues moment row outcome = fate_of (after_attempt (waits row)
    (record { moment = moment; outcome = outcome; has_dead_letter_queue = has_dead_letter_queue row.duty.target queues }))
