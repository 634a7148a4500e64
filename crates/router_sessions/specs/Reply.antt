-- What is written for one message.
use Rattle.std.specs.Prelude.{◌≡◌, ◌⊎◌, ℕ, Bool, true, List, [], ◌∷◌, ◌++◌, Result, MatchResult}
use Rattle.router_disk.specs.declared.fault.Failed.{Failed}
use Rattle.router_requests.specs.Request.{Request}
use Rattle.api_replies.specs.Reply.{Reply, no_memory}
use Rattle.api_replies.specs.Written.{reply_text}
use Rattle.api_messages.specs.declared.message.Message.{Message}
use Rattle.api_messages.specs.Fields.{is_post}
use Rattle.api_wire.specs.Call.{IsAsked}
use Rattle.courier_run.specs.Act.{ticks, writes}
use Rattle.courier_run.specs.Claim.{moment_of}
use Rattle.courier_run.specs.declared.turned.Turned.{Turned}
use Rattle.courier_run.specs.declared.stepped.Stop.{Stop}
use Rattle.step_run.specs.declared.fault.StepsFault.{StepsFault}
use Rattle.message_streams.specs.Reply.{replays_reply, steps_reply}
use Rattle.router_history.specs.declared.book.Seat.{Seat}
use Rattle.router_history.specs.Acts.{Act, Steps, Repeating, World, Does}
use Rattle.router_history.specs.Session.{Answers, sent_text}

-- these acts were done, and then the text was written; if the write failed, a first part of it
abbrev pub DoesAndWrites : Seat → List Act → List ℕ → World → World → Result (Unit {0}) Failed → Type 0
DoesAndWrites seat acts text old new result = MatchResult result
    (λ _. Does seat (acts ++ writes text ∷ []) old new)
    (λ _. (part rest : List ℕ) × (text ≡ part ++ rest) × Does seat (acts ++ writes part ∷ []) old new)

-- one message was answered
pub record HasAnswered (seat : Seat) (m : Message) (close : Bool) (old new : World) (result : Result (Unit {0}) Failed) : Type 0 where
  pub done : List Act
  pub reply : Reply
  pub answers : Answers m done reply
  pub does : DoesAndWrites seat done (sent_text m.method reply close) old new result

-- the steps of a DeliverDue, and its reply
abbrev pub IsDelivery : ℕ → List Act → Reply → Type 0
IsDelivery budget acts reply = (turned : Turned) × (stop : Stop) × Steps budget acts turned stop × (reply ≡ steps_reply turned stop)

-- the steps of a StepReplays, and its reply
abbrev pub IsRepetition : ℕ → List Act → Reply → Type 0
IsRepetition budget acts reply = (made : Result ℕ StepsFault) × Repeating budget acts made × (reply ≡ replays_reply made)

-- these acts and this reply answer each message that asks for the request
abbrev pub IsAnswerTo : Request → List Act → Reply → Type 0
IsAnswerTo request acts reply = (m : Message) (reading : ℕ) → is_post m.method ≡ true → IsAsked m (moment_of reading) request
    → Answers m (ticks reading ∷ acts) reply

-- a request was carried out, and then its reply was written: these acts were done for it, or there was no memory before the first
pub record HasReplied (IsDone : List Act → Reply → Type 0) (seat : Seat) (close : Bool) (old new : World) (result : Result (Unit {0}) Failed) : Type 0 where
  pub done : List Act
  pub reply : Reply
  pub carried_out : IsDone done reply ⊎ ((done ≡ []) × (reply ≡ no_memory))
  pub does : DoesAndWrites seat done (reply_text reply close) old new result
