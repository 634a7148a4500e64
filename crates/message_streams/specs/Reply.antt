-- What is written for one message.
use Rattle.std.specs.Prelude.{◌≡◌, ℕ, Bool, List, Result, Ok, Err, codes}
use Rattle.json_text.specs.declared.base.NoMemory.{NoMemory}
use Rattle.router_requests.specs.Request.{Action, deliver_due, step_replays}
use Rattle.api_replies.specs.Reply.{Reply, Counts, counted, stepped, limit_reply, no_memory, refused, refusal}
use Rattle.api_replies.specs.Written.{reply_text}
use Rattle.api_members.specs.declared.fault.CallFault.{CallFault}
use Rattle.api_members.specs.declared.fault.CallFault.TheVariants as faults
use Rattle.courier_run.specs.declared.turned.Turned.{Turned}
use Rattle.courier_run.specs.declared.stepped.Stop.{Stop}
use Rattle.courier_run.specs.declared.stepped.Stop.TheVariants as stops
use Rattle.step_run.specs.declared.fault.StepFault.{StepFault}
use Rattle.step_run.specs.declared.fault.StepFault.TheVariants as step_faults
use Rattle.step_run.specs.declared.fault.StepsFault.{StepsFault}
use Rattle.message_streams.specs.declared.delivery.StepsAsked.{StepsAsked}
use Rattle.message_streams.specs.declared.delivery.StepsAsked.TheVariants.{Deliveries, Replays}

-- The bytes, or the reply `out of memory`.
-- Shown by: the_reply_is_not_written.edit.
abbrev pub text_or : Result (List ℕ) NoMemory → Bool → List ℕ
text_or (Ok bytes) close = bytes
text_or (Err refused) close = reply_text no_memory close

-- The bytes are those of the reply to a message that is refused.
-- Shown by: refusals.
abbrev pub IsFaultText : CallFault → Bool → List ℕ → Type 0
IsFaultText (faults.Refused c) close bytes = bytes ≡ reply_text (refused c) close
IsFaultText faults.NoMemory close bytes = ⊥

-- The book is broken, since the journal failed: 500, `InternalFailure`, `The journal failed.` (RFC 9110, section 15.6.1).
-- Shown by: a_broken_book_is_reported_as_the_limit.edit.
abbrev pub journal_failed : Reply
journal_failed = refusal 500 (codes "InternalFailure") (codes "The journal failed.")

-- The counts of a DeliverDue's reply, from those of the delivery steps.
-- Shown by: dead-letters.
abbrev pub counts_of : Turned → Counts
counts_of turned = record { attempts = turned.attempts; delivered = turned.delivered; dead_lettered = turned.dead; dropped = turned.dropped }

-- The reply to a DeliverDue, by why its steps ended: the counts, `limit_reply`, `journal_failed`, or `no_memory`.
-- Shown by: first-run; out_of_memory_is_reported_as_the_limit.edit.
abbrev pub steps_reply : Turned → Stop → Reply
steps_reply turned stops.Spent = counted (counts_of turned)
steps_reply turned stops.Idle = counted (counts_of turned)
steps_reply turned stops.Full = limit_reply
steps_reply turned stops.Broken = journal_failed
steps_reply turned stops.NoMemory = no_memory

-- The action asks for these steps, within this budget.
-- Shown by: the_default_budget_is_the_limit.edit.
abbrev pub IsAskedBy : Action → StepsAsked → Type 0
IsAskedBy action (Deliveries budget) = action ≡ deliver_due budget
IsAskedBy action (Replays budget) = action ≡ step_replays budget

-- the reply to steps of replays that this fault stopped
abbrev pub fault_reply : StepFault → Reply
fault_reply step_faults.NumberLimit = limit_reply
fault_reply step_faults.Broken = journal_failed
fault_reply step_faults.NoMemory = no_memory

-- The reply to a StepReplays, by what its steps returned: their number, or `limit_reply`, `journal_failed` or `no_memory`, however many were made
-- before.
-- Shown by: replays.
abbrev pub replays_reply : Result ℕ StepsFault → Reply
replays_reply (Ok steps) = stepped steps
replays_reply (Err stopped) = fault_reply stopped.fault
