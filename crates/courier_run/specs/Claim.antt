-- A claim: what an attempt sees of a duty that a book gave out. Ages and moments are in seconds.
use Rattle.std.specs.Prelude.{ℕ, ◌+◌, ◌<◌, ◌≤◌, List, min}
use Rattle.event_shape.specs.Names.{IsQueueArn}
use Rattle.delivery_duties.specs.declared.outcome.Outcome.{Outcome}
use Rattle.delivery_duties.specs.declared.outcome.Outcome.TheVariants.{Accepted, Code, NoAnswer, TooOld}
use Rattle.courier_run.specs.declared.held.Way.{Way}
use Rattle.courier_run.specs.declared.held.Way.TheVariants.{Queue, Http}

-- What an attempt sees of a duty: its number, endpoint, text, accepted moment and age, the moment that was handed to the claim, and the
-- claim's own moment.
-- Shown by: outside_tests test_courier_run.rt: each_claim_has_a_reading_of_its_own.
pub record Claim : Type 0 where
  -- the number of the duty
  pub number : ℕ
  pub endpoint : List ℕ
  pub text : List ℕ
  -- the moment at which the duty was made, and the greatest age at which it is attempted
  pub accepted : ℕ
  pub age : ℕ
  -- the moment that was handed to the claim, and the claim's own
  pub reading : ℕ
  pub moment : ℕ

-- The claim's moment is above the accepted moment plus the age. A duty of 1000 with age 60 is attempted at 1060 and too old at 1061.
-- Shown by: outside_tests test_courier_run.rt: only_a_young_duty_of_an_endpoint_is_sent.
abbrev pub IsTooOld : Claim → Type 0
IsTooOld c = c.accepted + c.age < c.moment

-- The claim's endpoint is the ARN of a queue.
-- Shown by: outside_tests test_courier_run.rt: only_a_young_duty_of_an_endpoint_is_sent.
abbrev pub IsForQueue : Claim → Type 0
IsForQueue c = (queue : List ℕ) × IsQueueArn c.endpoint queue

-- How the text reaches its target: `Queue` if the endpoint is the ARN of a queue, and else `Http`.
-- Shown by: outside_tests test_courier_run.rt: only_a_young_duty_of_an_endpoint_is_sent.
abbrev pub IsWayOf : Claim → Way → Type 0
IsWayOf c Queue = IsForQueue c
IsWayOf c Http = ¬ IsForQueue c

-- The link is to send the duty's text: its endpoint is no queue, and it is not too old.
-- Shown by: outside_tests test_courier_run.rt: only_a_young_duty_of_an_endpoint_is_sent.
abbrev pub NeedsSend : Claim → Type 0
NeedsSend c = (¬ IsForQueue c) × (¬ IsTooOld c)

-- the codes that accept a text (this project's own rule)
abbrev pub IsSuccess : ℕ → Type 0
IsSuccess code = (200 ≤ code) × (code ≤ 299)

-- An outcome that an attempt of the claim may have, before its record: `TooOld` only above its age; else `Accepted` for a queue, and
-- `Accepted`, `Code` or `NoAnswer` for any other endpoint. `NoQueue` is no such outcome: only the record finds that a queue is missing.
-- Shown by: a_queue_is_called_missing.edit.
pub data FitsClaim (c : Claim) : Outcome → Type 0 where
  above_age : IsTooOld c → FitsClaim c TooOld
  for_queue : ¬ IsTooOld c → IsForQueue c → FitsClaim c Accepted
  accepted : NeedsSend c → FitsClaim c Accepted
  refused : NeedsSend c → (code : ℕ) → ¬ IsSuccess code → FitsClaim c (Code code)
  unanswered : NeedsSend c → FitsClaim c NoAnswer

-- The moment of a reading of the clock: at most the last moment, 250,000,000,000.
-- Shown by: outside_tests test_courier_run.rt: each_claim_has_a_reading_of_its_own.
abbrev pub moment_of : ℕ → ℕ
moment_of reading = min reading 250000000000
