-- Two sessions that begin alike. The law `one_session` is about them.
use Rattle.std.specs.Prelude.{◌≡◌, ℕ, ◌+◌, ◌⊎◌, Bool, true, List, [], ◌∷◌, ◌++◌, Some, None, All, Contains, flat_map}
use Rattle.std.specs.List.{concat}
use Rattle.httparse.specs.Grammar.{EndsInTarget}
use Rattle.delivery_duties.specs.declared.outcome.Outcome.{Outcome}
use Rattle.api_replies.specs.Reply.{Reply, no_memory}
use Rattle.api_replies.specs.Written.{reply_text}
use Rattle.api_messages.specs.declared.message.Refusal.{Refusal}
use Rattle.api_messages.specs.declared.method.Method.{Method}
use Rattle.api_messages.specs.Messages.{first_bytes}
use Rattle.courier_run.specs.Claim.{NeedsSend}
use Rattle.courier_run.specs.Act.{Try, reads, makes, writes, pieces_in, readings_in, tries_in, bytes_in}
use Rattle.router_history.specs.declared.book.Seat.{Seat}
use Rattle.message_streams.specs.declared.farewell.SessionEnd.{SessionEnd}
use Rattle.message_streams.specs.declared.farewell.SessionEnd.TheVariants.{Closed, Cut, Refused, Long, ReadFault, WriteFault, NoMemory}
use Rattle.router_history.specs.History.{State, Turn, AreTurnsFrom, state_of}
use Rattle.router_history.specs.Acts.{Act, World}
use Rattle.message_streams.specs.Farewell.{refusal_reply}
use Rattle.message_streams.specs.Reply.{journal_failed}
use Rattle.router_history.specs.Session.{sent_text, Serving, IsSession}

-- The same tables, and the same configuration, at the start and in its changes. The open claims may be those of other passes.
-- Shown by: law one_session.
pub record IsSameState (s t : State) : Type 0 where
  pub start : t.start ≡ s.start
  pub tables : t.tables ≡ s.tables
  pub controls : t.controls ≡ s.controls

-- A turn without the pass and the connection that it names.
-- Shown by: law one_session.
abbrev pub unnamed : Turn → Turn
unnamed turn = record turn { pass = None; connection = None }

abbrev pub unnamed_of : Act → List Turn
unnamed_of (makes p) = unnamed p.turn ∷ []
unnamed_of _ = []

-- The turns of acts, in order, without the pass and the connection that they name.
-- Shown by: law one_session.
abbrev pub unnamed_in : List Act → List Turn
unnamed_in = flat_map unnamed_of

-- The same acts, but for the looks and for two things that may differ: the turns may name another pass and connection, and the reads may cut
-- the bytes in another way. So the turns have the same asks, versions and batches, the attempts the same claims and outcomes, the writes the
-- same bytes.
-- Shown by: law one_session.
pub record DoSame (xs ys : List Act) : Type 0 where
  pub turns : unnamed_in ys ≡ unnamed_in xs
  pub readings : readings_in ys ≡ readings_in xs
  pub tries : tries_in ys ≡ tries_in xs
  pub bytes : bytes_in ys ≡ bytes_in xs

-- The end is no fault of a stream and not `NoMemory`.
-- Shown by: law one_session.
abbrev pub IsUndisturbed : SessionEnd → Type 0
IsUndisturbed Closed = Unit {0}
IsUndisturbed Cut = Unit {0}
IsUndisturbed Refused = Unit {0}
IsUndisturbed Long = Unit {0}
IsUndisturbed ReadFault = ⊥
IsUndisturbed WriteFault = ⊥
IsUndisturbed NoMemory = ⊥

-- The reply says that memory ran out, or that the journal failed.
-- Shown by: law one_session.
abbrev pub IsFailureReply : Reply → Type 0
IsFailureReply reply = (reply ≡ no_memory) ⊎ (reply ≡ journal_failed)

-- Such a reply to a message of some method.
-- Shown by: law one_session.
abbrev pub SaysFailure : List ℕ → Type 0
SaysFailure text = (method : Method) × (close : Bool) × (reply : Reply) × IsFailureReply reply × (text ≡ sent_text method reply close)

-- No reply of these acts says that memory ran out, or that the journal failed.
-- Shown by: law one_session.
abbrev pub IsAmple : List Act → Type 0
IsAmple acts = (text : List ℕ) → Contains acts (writes text) → ¬ SaysFailure text

-- A session that nothing around it disturbed: the turns added may be made after the old ones, no stream and no journal failed, and memory did
-- not run out.
-- Shown by: law one_session.
pub record IsPlain (old added : List Turn) (end : SessionEnd) (acts : List Act) : Type 0 where
  pub legal : AreTurnsFrom (state_of old) added
  pub undisturbed : IsUndisturbed end
  pub ample : IsAmple acts

-- The pass of a seat made all these turns.
-- Shown by: law one_session.
abbrev pub IsAlone : Seat → List Turn → Type 0
IsAlone seat turns = All (λ t. t.pass ≡ Some seat.pass) turns

-- The bytes that reads gave.
-- Shown by: law one_session.
abbrev pub read_in : List Act → List ℕ
read_in acts = concat (pieces_in acts)

-- Each element agrees with what a sequence gives at its place.
-- Shown by: law one_session.
abbrev pub Follows : {X Y : Type 0} → (X → Y → Type 0) → (ℕ → X) → List Y → Type 0
Follows Agrees given [] = Unit {0}
Follows Agrees given (y ∷ ys) = Agrees (given 0) y × Follows Agrees (λ k. given (k + 1)) ys

-- These readings are the first ones of a clock.
-- Shown by: law one_session.
abbrev pub IsClock : (ℕ → ℕ) → List ℕ → Type 0
IsClock clock readings = Follows (λ given reading. reading ≡ given) clock readings

-- Each attempt whose text is sent has the outcome that a link gives at its place.
-- Shown by: law one_session.
abbrev pub IsLink : (ℕ → Outcome) → List Try → Type 0
IsLink link attempts = Follows (λ given t. NeedsSend t.claim → t.outcome ≡ given) link attempts

-- Two plain sessions, each alone with its history (`IsAlone`), from the same tables and configuration, with the same bytes read, the same
-- clock, and a link that answered both alike.
-- Shown by: law one_session.
pub record BeginAlike (seat other_seat : Seat) (old new other other_new : World) (end other_end : SessionEnd)
    (one : IsSession seat old new end) (two : IsSession other_seat other other_new other_end) : Type 0 where
  pub alone : IsAlone seat one.2.makes.added
  pub other_alone : IsAlone other_seat two.2.makes.added
  pub state : IsSameState (state_of old.turns) (state_of other.turns)
  pub read : read_in two.0 ≡ read_in one.0
  pub clock : ℕ → ℕ
  pub readings : IsClock clock (readings_in one.0)
  pub other_readings : IsClock clock (readings_in two.0)
  pub link : ℕ → Outcome
  pub answers : IsLink link (tries_in one.0)
  pub other_answers : IsLink link (tries_in two.0)
  pub plain : IsPlain old.turns one.2.makes.added end one.0
  pub other_plain : IsPlain other.turns two.2.makes.added other_end two.0

-- The bytes, or their first 16,384, end inside a request target that cannot become UTF-8.
-- Shown by: law one_session.
abbrev pub IsUndecided : List ℕ → Type 0
IsUndecided bytes = EndsInTarget bytes ⊎ EndsInTarget (first_bytes bytes)

-- An act after the last answer: the end of the input, or the reply to bytes with which no message begins.
-- Shown by: law one_session.
pub data IsFarewellAct : Act → Type 0 where
  at_end : IsFarewellAct (reads [])
  at_refusal : (why : Refusal) → IsFarewellAct (writes (reply_text (refusal_reply why) true))

-- The two sessions did the same and ended alike. Or the bytes that both hold after the same number of answers are undecided: then they did the
-- same before their last act, by which one may refuse what the other awaits.
-- Shown by: law one_session.
pub data EndedAlike (xs ys : List Act) (end other_end : SessionEnd) : Type 0 where
  alike : DoSame xs ys → other_end ≡ end → EndedAlike xs ys end other_end
  undecided : (n : ℕ) (held : List ℕ) (before other_before : List Act) (last other_last : Act) → xs ≡ before ++ last ∷ []
      → ys ≡ other_before ++ other_last ∷ [] → Serving n held before → Serving n held other_before → DoSame before other_before
      → IsFarewellAct last → IsFarewellAct other_last → IsUndecided held → EndedAlike xs ys end other_end

-- What follows for two sessions that begin alike: what they did and how they ended (`EndedAlike`), and the same tables and configuration after them.
-- Shown by: law one_session.
pub record EndAlike (seat other_seat : Seat) (old new other other_new : World) (end other_end : SessionEnd)
    (one : IsSession seat old new end) (two : IsSession other_seat other other_new other_end) : Type 0 where
  pub acts : EndedAlike one.0 two.0 end other_end
  pub state : IsSameState (state_of new.turns) (state_of other_new.turns)
