-- Batches: the changes of one turn of the router, as a journal records them.
use Rattle.std.specs.Prelude.{ℕ, List}
use Rattle.delivery_duties.specs.declared.duty.NewDuty.{NewDuty}
use Rattle.delivery_duties.specs.declared.outcome.Outcome.{Outcome}
use Rattle.rule_table.specs.Control.{Control}
use Rattle.router_requests.specs.declared.batch.StartedReplay.{StartedReplay}

-- An accepted event: its number, its bus, the configuration version `k` that it was matched on, the moment of its `time`, its text, the
-- names of the archives that keep it, and its duties.
-- Shown by: first-run.
pub record Accepted : Type 0 where
  pub number : ℕ
  pub bus : List ℕ
  pub k : ℕ
  pub time : ℕ
  pub text : List ℕ
  pub archives : List (List ℕ)
  pub duties : List NewDuty

-- A step of the replay of this name: the number of the event that it repeats, and the duties of the event.
-- Shown by: proofs alone.
pub record Stepped : Type 0 where
  pub name : List ℕ
  pub event : ℕ
  pub duties : List NewDuty

-- One operation of a batch: a configuration change, an accepted event, the outcome of an attempt of a duty, the start, a step or the
-- cancellation of a replay, or the deletion of a queue's messages with numbers up to one.
-- Shown by: first-run; empty-a-queue.
pub data Entry : Type 0 where
  control : Control → Entry
  accepted : Accepted → Entry
  attempt : (duty : ℕ) (outcome : Outcome) → Entry
  replay_started : StartedReplay → Entry
  replay_stepped : Stepped → Entry
  replay_cancelled : (name : List ℕ) → Entry
  messages_deleted : (queue : List ℕ) (through : ℕ) → Entry

-- What one turn changes, as a journal records it: a moment, and operations (`Entry`) in their order.
-- Shown by: a_change_is_made_at_moment_0.edit.
pub record Batch : Type 0 where
  pub moment : ℕ
  pub entries : List Entry
