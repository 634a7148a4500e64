-- What one turn of a seat adds to a history.
use Rattle.std.specs.Prelude.{◌≡◌, ◌⊎◌, ℕ, Bool, List, [], ◌∷◌, ◌++◌, map, Option, None, IfSome}
use Rattle.api_replies.specs.View.{reply_of}
use Rattle.api_replies.specs.Reply.{Reply}
use Rattle.api_replies.specs.Written.{IsServedStatus, reply_text}
use Rattle.delivery_duties.specs.declared.outcome.Outcome.{Outcome}
use Rattle.delivery_duties.specs.declared.outcome.Fate.{Fate}
use Rattle.router_requests.specs.Batch.{Batch}
use Rattle.router_requests.specs.Request.{Request}
use Rattle.router_core.specs.Tables.{Tables}
use Rattle.router_core.specs.Ready.{IsReadyFor}
use Rattle.router_core.specs.declared.ready.Ready.{Ready}
use Rattle.api_replies.specs.declared.reply.Reply.{Reply as CodeReply}
use Rattle.router_calls.specs.View.{answer_of}
use Rattle.router_calls.specs.Answer.{IsAnswer}
use Rattle.courier_run.specs.Claim.{Claim}
use Rattle.courier_run.specs.declared.book.BookFault.{BookFault}
use Rattle.courier_run.specs.Act.{looks, makes}
use Rattle.courier_run.specs.Book.{stop_of}
use Rattle.courier_run.specs.Steps.{Why}
use Rattle.step_run.specs.Step.{IsRefusal}
use Rattle.step_run.specs.declared.fault.StepFault.{StepFault}
use Rattle.router_history.specs.declared.book.Seat.{Seat}
use Rattle.router_history.specs.declared.book.TurnReply.{TurnReply}
use Rattle.router_history.specs.declared.book.TurnReply.TheVariants.{Rendered, Unrendered}
use Rattle.router_history.specs.History.{Turn, Placed, Ask, breaks, state_of, IsLatest}
use Rattle.router_history.specs.Book.{Holds}
use Rattle.router_history.specs.Acts.{Act, Claims, Records, PutsBack, IsUnrecorded, Makes}
use Rattle.router_history.specs.Acts.{StepAct, act_of, Repeats, BreaksRepeat, IsNoneRunning, IsRepeatFull, IsRepeatBroken}
use Rattle.router_history.specs.Session.{Replies, Fails, IsFailed}

-- The bytes of a turn's reply, made already or to be made.
-- Shown by: the_reply_is_not_written.edit.
abbrev pub turn_text : TurnReply → Bool → List ℕ
turn_text (Rendered bytes) close = bytes
turn_text (Unrendered reply) close = reply_text (reply_of reply) close

-- The bytes of the reply are not made yet.
-- Shown by: proofs alone.
abbrev pub IsUnrendered : TurnReply → Type 0
IsUnrendered (Rendered bytes) = ⊥
IsUnrendered (Unrendered reply) = Unit {0}

-- The bytes of the reply are made, or its status is one that is written from a value.
-- Shown by: proofs alone.
abbrev pub IsRenderable : TurnReply → Type 0
IsRenderable (Rendered bytes) = Unit {0}
IsRenderable (Unrendered reply) = IsServedStatus reply.status

-- One turn from a seat answers the request, and the bytes are those of its reply. They were made before the turn exactly if it wrote a
-- batch.
-- Shown by: the_history_lacks_a_turn_without_a_batch.edit.
pub record IsAnswered (seat : Seat) (old new : List Turn) (request : Request) (close : Bool) (reply : TurnReply) : Type 0 where
  pub placed : Placed
  pub makes : Makes seat (makes placed ∷ []) old new
  pub replied : Reply
  pub replies : Replies placed request replied
  pub text : turn_text reply close ≡ reply_text replied close
  pub unwritten : IsUnrendered reply → placed.turn.batch ≡ None
  pub written : placed.turn.batch ≡ None → IsUnrendered reply

-- One turn from a seat claims a duty at this moment of the clock, and the claim is the pass's one open claim.
-- Shown by: proofs alone.
pub record IsClaimed (seat : Seat) (moment : ℕ) (old new : List Turn) (c : Claim) : Type 0 where
  pub placed : Placed
  pub makes : Makes seat (makes placed ∷ []) old new
  pub claims : Claims placed c moment
  pub holds : Holds seat.pass new c

-- One turn from a seat records the attempt of a claim, which had this outcome, and gave the duty this fate.
-- Shown by: a_step_is_recorded_twice.edit.
pub record IsRecorded (seat : Seat) (c : Claim) (had : Outcome) (fate : Fate) (old new : List Turn) : Type 0 where
  pub placed : Placed
  pub makes : Makes seat (makes placed ∷ []) old new
  pub records : Records placed (record { claim = c; outcome = had; fate = fate })

-- for private clauses: one turn more, which was made for this, and wrote this
abbrev pub IsAdded : Ask → Option Batch → List Turn → List Turn → Type 0
IsAdded ask batch old new = (turn : Turn) × (turn.ask ≡ ask) × (turn.batch ≡ batch) × (new ≡ old ++ turn ∷ [])

-- for private clauses: one turn from a seat breaks the book, since this batch could not be appended
pub record IsBroken (seat : Seat) (b : Batch) (old new : List Turn) : Type 0 where
  pub placed : Placed
  pub makes : Makes seat (makes placed ∷ []) old new
  pub before : placed.before ≡ state_of old
  pub latest : IsLatest placed.before placed.turn
  pub breaking : placed.turn.ask ≡ breaks (b ∷ [])

-- The request is not carried out: one turn from a seat breaks the book by its batch, or the book was broken before, and no turn was made.
-- Shown by: proofs alone.
abbrev pub IsUnanswered : Seat → List Turn → List Turn → Request → Type 0
IsUnanswered seat old new request =
    ((p : Placed) × Makes seat (makes p ∷ []) old new × Fails p request)
    ⊎ (Makes seat (looks (state_of new) ∷ []) old new × IsFailed (state_of new) request)

-- Turns from a seat end the attempt of a claim, which had this outcome, without a record, by the fault (`IsUnrecorded`).
-- Shown by: put_back_without_a_reason.edit.
pub record IsUnrecordedBy (seat : Seat) (c : Claim) (had : Outcome) (fault : BookFault) (old new : List Turn) : Type 0 where
  pub acts : List Act
  pub makes : Makes seat acts old new
  pub ends : IsUnrecorded c had acts (stop_of fault)

-- One turn from a seat puts a claim back.
-- Shown by: put_back_without_a_reason.edit.
pub record IsPutBack (seat : Seat) (c : Claim) (why : Why) (old new : List Turn) : Type 0 where
  pub placed : Placed
  pub makes : Makes seat (makes placed ∷ []) old new
  pub puts_back : PutsBack placed c why

-- One turn from a seat makes the next step of the replays, at this moment of the clock.
-- Shown by: a_step_without_its_turn.edit.
pub record IsRepeated (seat : Seat) (moment : ℕ) (old new : List Turn) : Type 0 where
  pub placed : Placed
  pub makes : Makes seat (makes placed ∷ []) old new
  pub repeats : Repeats placed moment

-- A look shows that no replay is running.
-- Shown by: replays.
abbrev pub HasNoRepeat : Seat → ℕ → List Turn → List Turn → Type 0
HasNoRepeat seat moment old new = Makes seat (looks (state_of new) ∷ []) old new × IsNoneRunning (state_of new) moment

-- No step of the replays is made at this moment of the clock, by the fault (`IsRefusal` of step_run).
-- Shown by: proofs alone.
pub record IsUnrepeated (seat : Seat) (moment : ℕ) (fault : StepFault) (old new : List Turn) : Type 0 where
  pub acts : List StepAct
  pub makes : Makes seat (map act_of acts) old new
  pub refused : IsRefusal (λ p. BreaksRepeat p moment) (λ s. IsRepeatFull s moment) (λ s. IsRepeatBroken s moment) acts fault

-- for private clauses: the batch that a request writes on the tables, if any, and the reply, by the tables' own rule set
pub record IsDecided (t : Tables) (request : Request) (p : Option Ready × CodeReply) : Type 0 where
  pub answer : IsAnswer t request t.set.count t.set (answer_of p)
  pub ready : IfSome p.0 (λ r. IsReadyFor t r)
  pub status : IsServedStatus p.1.status
