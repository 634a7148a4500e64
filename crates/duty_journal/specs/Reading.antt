-- For private clauses alone: operations and batches at the front of bytes.
use Rattle.std.specs.Prelude.{ℕ, nat_le, ◌==◌, List, [], ◌∷◌, Option, None, if◌then◌else◌}
use Rattle.delivery_duties.specs.declared.duty.NewDuty.{NewDuty}
use Rattle.delivery_duties.specs.declared.outcome.Outcome.{Outcome}
use Rattle.router_requests.specs.declared.batch.StartedReplay.{StartedReplay}
use Rattle.router_requests.specs.Batch.{Accepted, Stepped, Entry, control, accepted, attempt, replay_started, replay_stepped, replay_cancelled, messages_deleted, Batch}
use Rattle.entry_bytes.specs.Reading.{◌>>=◌, pair_at, made_at, choice_at, byte_at, two_at, eight_at, text_at, items_at, list_at, optional_at}
use Rattle.entry_bytes.specs.ChangeReading.{change_at}
use Rattle.entry_bytes.specs.DutyReading.{duty_at, outcome_at}

abbrev pub event_of : ℕ × (List ℕ × (ℕ × (ℕ × (List ℕ × (List (List ℕ) × List NewDuty))))) → Accepted
event_of p =
    record { number = p.0; bus = p.1.0; k = p.1.1.0; time = p.1.1.1.0; text = p.1.1.1.1.0; archives = p.1.1.1.1.1.0; duties = p.1.1.1.1.1.1 }

abbrev pub event_at : List ℕ → Option (Accepted × List ℕ)
event_at = made_at event_of (pair_at eight_at (pair_at text_at (pair_at eight_at (pair_at eight_at (pair_at text_at (pair_at (list_at text_at)
    (list_at duty_at)))))))

abbrev pub attempt_of : ℕ × Outcome → Entry
attempt_of p = attempt p.0 p.1

abbrev pub started_of : List ℕ × (List ℕ × (ℕ × (ℕ × Option (List (List ℕ))))) → StartedReplay
started_of p = record { name = p.0; archive = p.1.0; range = record { start = p.1.1.0; end = p.1.1.1.0 }; rules = p.1.1.1.1 }

abbrev pub started_at : List ℕ → Option (StartedReplay × List ℕ)
started_at = made_at started_of (pair_at text_at (pair_at text_at (pair_at eight_at (pair_at eight_at (optional_at (list_at text_at))))))

abbrev pub stepped_of : List ℕ × (ℕ × List NewDuty) → Stepped
stepped_of p = record { name = p.0; event = p.1.0; duties = p.1.1 }

abbrev pub stepped_at : List ℕ → Option (Stepped × List ℕ)
stepped_at = made_at stepped_of (pair_at text_at (pair_at eight_at (list_at duty_at)))

abbrev pub deleted_of : List ℕ × ℕ → Entry
deleted_of p = messages_deleted p.0 p.1

abbrev pub other_rows : List (ℕ × (List ℕ → Option (Entry × List ℕ)))
other_rows =
    (14, made_at accepted event_at)
    ∷ (15, made_at attempt_of (pair_at eight_at outcome_at))
    ∷ (16, made_at replay_started started_at)
    ∷ (17, made_at replay_stepped stepped_at)
    ∷ (18, made_at replay_cancelled text_at)
    ∷ (19, made_at deleted_of (pair_at text_at eight_at))
    ∷ []

-- an operation that is no change
unfoldable pub other_at : ℕ → List ℕ → Option (Entry × List ℕ)
other_at k bytes = choice_at other_rows k bytes

unfoldable pub operation_at : List ℕ → Option (Entry × List ℕ)
operation_at bytes = byte_at bytes >>= λ k. if nat_le k.0 13 then made_at control change_at bytes else other_at k.0 k.1

-- at least one operation, after their number
unfoldable pub operations_at : List ℕ → Option (List Entry × List ℕ)
operations_at bytes = two_at bytes >>= λ n. if n.0 == 0 then None else items_at operation_at n.0 n.1

abbrev pub made_batch : ℕ × List Entry → Batch
made_batch p = record { moment = p.0; entries = p.1 }

unfoldable pub batch_at : List ℕ → Option (Batch × List ℕ)
batch_at = made_at made_batch (pair_at eight_at operations_at)
