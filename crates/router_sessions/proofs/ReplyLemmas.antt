-- One message, from what was written for it. Other files cite `unposted_answer`, `fault_answer`, `request_answer`, `replied_as`, `turn_replied`, `failed_replied`,
-- `unreplied`, `delivery_answers`, `was_delivered`, `answered_rests`, `failed_rests`, `one_rests`, `look_rests` and `broken_claims`.
use Rattle.std.proofs.Common.{◌≡◌, ◌⊎◌, ℕ, inl, inr, Bool, false, List, [], ◌∷◌, Result, Ok, Err, refl, sym, ap, ◌∙◌, subst}
use Rattle.std.specs.Prelude.{IfOk, OnErr}
use Rattle.json_text.specs.declared.base.NoMemory.{NoMemory}
use Rattle.router_disk.specs.Sink.{AddsBytes}
use Rattle.router_disk.specs.Link.{Exchange}
use Rattle.router_disk.specs.declared.fault.Failed.{Failed}
use Rattle.router_requests.specs.Batch.{Batch}
use Rattle.router_requests.specs.Request.{deliver_due, Request}
use Rattle.api_replies.specs.Reply.{Reply, refused as refusal_of, no_memory, not_post}
use Rattle.api_replies.specs.Written.{reply_text}
use Rattle.api_messages.specs.declared.message.Message.{Message}
use Rattle.api_messages.specs.declared.method.Method.{Method}
use Rattle.api_messages.specs.declared.method.Method.TheVariants.{Post}
use Rattle.api_messages.specs.Fields.{is_post}
use Rattle.api_members.specs.declared.fault.CallFault.{CallFault}
use Rattle.api_members.specs.declared.fault.CallFault.TheVariants as call
use Rattle.api_wire.specs.Call.{IsAsked}
use Rattle.api_wire.specs.CallAnswers.{IsFault}
use Rattle.courier_run.specs.Claim.{moment_of}
use Rattle.courier_run.specs.Act.{ticks, looks, makes}
use Rattle.courier_run.specs.Link.{outside}
use Rattle.courier_run.specs.declared.stepped.Stepped.{Stepped}
use Rattle.router_history.specs.declared.book.Seat.{Seat}
use Rattle.router_history.specs.declared.book.TurnReply.{TurnReply}
use Rattle.router_history.specs.History.{Turn, State, Ask, Placed, asked, breaks, state_of, state_after, after_ask, after_turn, turns_by, claims_of}
use Rattle.router_history.specs.Book.{IsBook, Rests}
use Rattle.router_history.specs.Acts.{Act, Makes, World, world, Does}
use Rattle.router_history.specs.Answered.{turn_text, IsUnrendered, IsAnswered, IsUnanswered}
use Rattle.message_streams.specs.Reply.{text_or, IsFaultText, journal_failed, steps_reply}
use Rattle.router_history.specs.Session.{Answers, unposted, refused, out_of_memory, served, unrendered, failed, failed_before, stepped, sent_text}
use Rattle.router_sessions.specs.Delivery.{Delivers}
use Rattle.router_sessions.specs.Reply.{DoesAndWrites, IsAnswerTo, IsDelivery, HasAnswered, HasReplied}
use Rattle.router_history.proofs.TurnLemmas.{none_append, none_of_mine, open_written}
use Rattle.router_history.proofs.ActLemmas.{state_longer, state_here}
use Rattle.router_sessions.proofs.DoesLemmas.{does_acts, does_made, writes_then, after_acts, steps_quiet}

-- the text that is sent to a POST
pub post_text : (m : Message) (reply : Reply) (close : Bool) → m.method ≡ Post → reply_text reply close ≡ sent_text m.method reply close
post_text m reply close post = ap (λ (x : Method). sent_text x reply close) (sym post)

-- what a message that is no POST is answered
pub unposted_answer : (seat : Seat) (m : Message) (close : Bool) (old : World) (turns : List Turn) (gave : List (List ℕ)) (written written_new readings : List ℕ)
    (answered : List Exchange) (faults reading : ℕ) (result : Result (Unit {0}) Failed) → is_post m.method ≡ false → IsBook old.turns → IsBook turns
    → Does seat (ticks reading ∷ []) old (world turns gave written readings answered faults)
    → AddsBytes written written_new result (sent_text m.method not_post close)
    → HasAnswered seat m close old (world turns gave written_new readings answered faults) result
unposted_answer seat m close old turns gave written written_new readings answered faults reading result other h h_new done wrote = record {
  done = ticks reading ∷ [];
  reply = not_post;
  answers = unposted reading other;
  does = writes_then seat (ticks reading ∷ []) (sent_text m.method not_post close) old turns gave written written_new readings answered faults result h h_new done wrote;
}

-- a POST gets this reply after these acts
post_answer : (seat : Seat) (m : Message) (close : Bool) (old : World) (turns : List Turn) (gave : List (List ℕ)) (written written_new readings : List ℕ)
    (answered : List Exchange) (faults : ℕ) (result : Result (Unit {0}) Failed) (done : List Act) (reply : Reply) → m.method ≡ Post → IsBook old.turns → IsBook turns
    → Answers m done reply → Does seat done old (world turns gave written readings answered faults)
    → AddsBytes written written_new result (reply_text reply close)
    → HasAnswered seat m close old (world turns gave written_new readings answered faults) result
post_answer seat m close old turns gave written written_new readings answered faults result done reply post h h_new answers did wrote = record {
  done = done;
  reply = reply;
  answers = answers;
  does = writes_then seat done (sent_text m.method reply close) old turns gave written written_new readings answered faults result h h_new did
      (subst (λ (text : List ℕ). AddsBytes written written_new result text) (post_text m reply close post) wrote);
}

-- the message is refused, or out of memory while it was read
pub fault_answer : (seat : Seat) (m : Message) (close : Bool) (old : World) (turns : List Turn) (gave : List (List ℕ)) (written written_new readings : List ℕ)
    (answered : List Exchange) (faults reading : ℕ) (result : Result (Unit {0}) Failed) (fault : CallFault) (bytes : Result (List ℕ) NoMemory) → m.method ≡ Post
    → IsBook old.turns → IsBook turns → Does seat (ticks reading ∷ []) old (world turns gave written readings answered faults)
    → IsFault m fault → IfOk bytes (λ b. IsFaultText fault close b) → AddsBytes written written_new result (text_or bytes close)
    → HasAnswered seat m close old (world turns gave written_new readings answered faults) result
fault_answer seat m close old turns gave written written_new readings answered faults reading result fault (Err none) post h h_new done is ok wrote =
    post_answer seat m close old turns gave written written_new readings answered faults result (ticks reading ∷ []) no_memory post h h_new
    (out_of_memory reading (ap is_post post)) done wrote
fault_answer seat m close old turns gave written written_new readings answered faults reading result (call.Refused c) (Ok bytes) post h h_new done is ok wrote =
    post_answer seat m close old turns gave written written_new readings answered faults result (ticks reading ∷ []) (refusal_of c) post h h_new
    (refused reading c (ap is_post post) is) done (subst (λ (text : List ℕ). AddsBytes written written_new result text) ok wrote)
fault_answer seat m close old turns gave written written_new readings answered faults reading result call.NoMemory (Ok bytes) post h h_new done is ok wrote = absurd ok

-- a message that asks for a request that was carried out
pub request_answer : (seat : Seat) (m : Message) (close : Bool) (old mid new : World) (reading : ℕ) (result : Result (Unit {0}) Failed) (request : Request)
    → m.method ≡ Post → IsBook old.turns → IsBook mid.turns → Does seat (ticks reading ∷ []) old mid → IsAsked m (moment_of reading) request
    → HasReplied (IsAnswerTo request) seat close mid new result → HasAnswered seat m close old new result
request_answer seat m close old mid new reading result request post h h_mid done is_asked d = record {
  done = ticks reading ∷ d.done;
  reply = d.reply;
  answers = answered d.carried_out;
  does = subst (λ (text : List ℕ). DoesAndWrites seat (ticks reading ∷ d.done) text old new result) (post_text m d.reply close post)
      (after_acts seat (ticks reading ∷ []) d.done (reply_text d.reply close) old mid new result h h_mid done d.does);
}
  where
    answered : IsAnswerTo request d.done d.reply ⊎ ((d.done ≡ []) × (d.reply ≡ no_memory)) → Answers m (ticks reading ∷ d.done) d.reply
    answered (inl is) = is m reading (ap is_post post) is_asked
    answered (inr (none, reply_is)) =
        subst (λ (acts : List Act). Answers m (ticks reading ∷ acts) d.reply) (sym none)
        (subst (λ (r : Reply). Answers m (ticks reading ∷ []) r) (sym reply_is) (out_of_memory reading (ap is_post post)))

-- what was done carries out another request too
pub replied_as : (P Q : List Act → Reply → Type 0) (seat : Seat) (close : Bool) (old new : World) (result : Result (Unit {0}) Failed)
    → ((acts : List Act) (reply : Reply) → P acts reply → Q acts reply) → HasReplied P seat close old new result → HasReplied Q seat close old new result
replied_as P Q seat close old new result f d = record { done = d.done; reply = d.reply; carried_out = by d.carried_out; does = d.does }
  where
    by : P d.done d.reply ⊎ ((d.done ≡ []) × (d.reply ≡ no_memory)) → Q d.done d.reply ⊎ ((d.done ≡ []) × (d.reply ≡ no_memory))
    by (inl is) = inl (f d.done d.reply is)
    by (inr none) = inr none

-- the turn of a request
pub turn_replied : (seat : Seat) (close : Bool) (turns turns_new : List Turn) (gave : List (List ℕ)) (written written_new readings : List ℕ)
    (answered : List Exchange) (faults : ℕ) (result : Result (Unit {0}) Failed) (request : Request) (reply : TurnReply) (bytes : Result (List ℕ) NoMemory)
    → IsBook turns → IsBook turns_new → IsAnswered seat turns turns_new request close reply → IfOk bytes (λ b. b ≡ turn_text reply close)
    → OnErr bytes (IsUnrendered reply) → AddsBytes written written_new result (text_or bytes close)
    → HasReplied (IsAnswerTo request) seat close (world turns gave written readings answered faults) (world turns_new gave written_new readings answered faults) result
turn_replied seat close turns turns_new gave written written_new readings answered faults result request reply (Ok bytes) h h_new a ok err wrote = record {
  done = makes a.placed ∷ [];
  reply = a.replied;
  carried_out = inl (λ m reading post is_asked. served reading request a.placed a.replied post is_asked a.replies);
  does = writes_then seat (makes a.placed ∷ []) (reply_text a.replied close) (world turns gave written readings answered faults) turns_new gave written written_new
      readings answered faults result h h_new
      (does_made seat (makes a.placed ∷ []) turns turns_new gave written readings answered faults refl refl refl refl a.makes)
      (subst (λ (text : List ℕ). AddsBytes written written_new result text) (ok ∙ a.text) wrote);
}
turn_replied seat close turns turns_new gave written written_new readings answered faults result request reply (Err none) h h_new a ok err wrote = record {
  done = makes a.placed ∷ [];
  reply = no_memory;
  carried_out = inl (λ m reading post is_asked. unrendered reading request a.placed a.replied post is_asked a.replies (a.unwritten err));
  does = writes_then seat (makes a.placed ∷ []) (reply_text no_memory close) (world turns gave written readings answered faults) turns_new gave written written_new
      readings answered faults result h h_new
      (does_made seat (makes a.placed ∷ []) turns turns_new gave written readings answered faults refl refl refl refl a.makes) wrote;
}

-- the request is not carried out, since the book is broken
pub failed_replied : (seat : Seat) (close : Bool) (turns turns_new : List Turn) (gave : List (List ℕ)) (written written_new readings : List ℕ)
    (answered : List Exchange) (faults : ℕ) (result : Result (Unit {0}) Failed) (request : Request) → IsBook turns → IsBook turns_new
    → IsUnanswered seat turns turns_new request → AddsBytes written written_new result (reply_text journal_failed close)
    → HasReplied (IsAnswerTo request) seat close (world turns gave written readings answered faults) (world turns_new gave written_new readings answered faults) result
failed_replied seat close turns turns_new gave written written_new readings answered faults result request h h_new (inl (p, made, fails)) wrote = record {
  done = makes p ∷ [];
  reply = journal_failed;
  carried_out = inl (λ m reading post is_asked. failed reading request p post is_asked fails);
  does = writes_then seat (makes p ∷ []) (reply_text journal_failed close) (world turns gave written readings answered faults) turns_new gave written written_new
      readings answered faults result h h_new
      (does_made seat (makes p ∷ []) turns turns_new gave written readings answered faults refl refl refl refl made) wrote;
}
failed_replied seat close turns turns_new gave written written_new readings answered faults result request h h_new (inr (made, broken)) wrote = record {
  done = looks (state_of turns_new) ∷ [];
  reply = journal_failed;
  carried_out = inl (λ m reading post is_asked. failed_before reading request (state_of turns_new) post is_asked broken);
  does = writes_then seat (looks (state_of turns_new) ∷ []) (reply_text journal_failed close) (world turns gave written readings answered faults) turns_new gave written
      written_new readings answered faults result h h_new
      (does_made seat (looks (state_of turns_new) ∷ []) turns turns_new gave written readings answered faults refl refl refl refl made) wrote;
}

-- out of memory, and nothing was done; others may have made turns
pub unreplied : (IsDone : List Act → Reply → Type 0) (seat : Seat) (close : Bool) (turns turns_new : List Turn) (gave : List (List ℕ))
    (written written_new readings : List ℕ) (answered : List Exchange) (faults : ℕ) (result : Result (Unit {0}) Failed) → IsBook turns → IsBook turns_new
    → Makes seat [] turns turns_new → AddsBytes written written_new result (reply_text no_memory close)
    → HasReplied IsDone seat close (world turns gave written readings answered faults) (world turns_new gave written_new readings answered faults) result
unreplied IsDone seat close turns turns_new gave written written_new readings answered faults result h h_new made wrote = record {
  done = [];
  reply = no_memory;
  carried_out = inr (refl, refl);
  does = writes_then seat [] (reply_text no_memory close) (world turns gave written readings answered faults) turns_new gave written written_new readings answered
      faults result h h_new (does_made seat [] turns turns_new gave written readings answered faults refl refl refl refl made) wrote;
}

-- a DeliverDue
pub delivery_answers : (request : Request) (budget : ℕ) → request.action ≡ deliver_due budget → (acts : List Act) (reply : Reply) → IsDelivery budget acts reply
    → IsAnswerTo request acts reply
delivery_answers request budget due acts reply (turned, stop, steps, is) = λ m reading post is_asked.
    subst (λ (r : Reply). Answers m (ticks reading ∷ acts) r) (sym is) (stepped reading request budget acts turned stop post is_asked due steps)

-- the steps of a DeliverDue were made
pub was_delivered : (seat : Seat) (budget : ℕ) (close : Bool) (turns turns_new : List Turn) (gave : List (List ℕ)) (written written_new readings readings_new : List ℕ)
    (answered answered_new : List Exchange) (faults faults_new : ℕ) (made : Stepped) (result : Result (Unit {0}) Failed) → IsBook turns → IsBook turns_new
    → Delivers seat budget turns turns_new (outside readings answered faults) (outside readings_new answered_new faults_new) made
    → AddsBytes written written_new result (reply_text (steps_reply made.turned made.stop) close)
    → HasReplied (IsDelivery budget) seat close (world turns gave written readings answered faults) (world turns_new gave written_new readings_new answered_new faults_new) result
was_delivered seat budget close turns turns_new gave written written_new readings readings_new answered answered_new faults faults_new made result h h_new d wrote =
    let quiet = steps_quiet budget d.acts made.turned made.stop d.steps in
    record {
      done = d.acts;
      reply = steps_reply made.turned made.stop;
      carried_out = inl (made.turned, made.stop, d.steps, refl);
      does = writes_then seat d.acts (reply_text (steps_reply made.turned made.stop) close) (world turns gave written readings answered faults) turns_new gave written
          written_new readings_new answered_new faults_new result h h_new
          (does_acts seat d.acts turns turns_new gave written readings readings_new answered answered_new faults faults_new quiet.0 quiet.1 d.makes d.goes) wrote;
    }

-- the turn of a request leaves the claims as they are
asked_claims : (n : ℕ) (turn : Turn) (ask : Ask) (s : State) (request : Request) → ask ≡ asked request → claims_of n s.open_claims ≡ []
    → claims_of n (after_ask turn ask s).open_claims ≡ []
asked_claims n turn ask s request is none =
    ap (λ (a : Ask). claims_of n (after_ask turn a s).open_claims) is ∙ ap (claims_of n) (open_written turn.batch s) ∙ none

-- one turn that leaves its pass without a claim
pub one_rests : (seat : Seat) (old new : List Turn) (p : Placed) → Makes seat (makes p ∷ []) old new
    → (claims_of seat.pass p.before.open_claims ≡ [] → claims_of seat.pass (after_turn p.turn p.before).open_claims ≡ []) → Rests seat.pass old → Rests seat.pass new
one_rests seat old new p m stays rests =
    let (others, rest, is, other, pass, before, known, after) = m.happens in
    let n = seat.pass in
    let state : state_of new ≡ state_after rest (after_turn p.turn p.before) =
    state_longer old m.added new m.turns ∙ ap (λ (ts : List Turn). state_after ts (state_of old)) is ∙ state_here (state_of old) others rest p before in
    let first : claims_of n p.before.open_claims ≡ [] =
    ap (λ (s : State). claims_of n s.open_claims) before ∙ none_of_mine n others (state_of old) other rests in
    ap (λ (s : State). claims_of n s.open_claims) state ∙ none_of_mine n rest (after_turn p.turn p.before) after (stays first)

pub answered_rests : (seat : Seat) (old new : List Turn) (request : Request) (close : Bool) (reply : TurnReply) → IsAnswered seat old new request close reply
    → Rests seat.pass old → Rests seat.pass new
answered_rests seat old new request close reply a rests =
    one_rests seat old new a.placed a.makes (asked_claims seat.pass a.placed.turn a.placed.turn.ask a.placed.before request a.replies.0) rests

-- so does the turn that breaks the book
pub broken_claims : (n : ℕ) (turn : Turn) (ask : Ask) (s : State) (b : Batch) → ask ≡ breaks (b ∷ []) → claims_of n s.open_claims ≡ []
    → claims_of n (after_ask turn ask s).open_claims ≡ []
broken_claims n turn ask s b is none = ap (λ (a : Ask). claims_of n (after_ask turn a s).open_claims) is ∙ none

-- a look leaves them too
pub look_rests : (seat : Seat) (old new : List Turn) (seen : State) → Makes seat (looks seen ∷ []) old new → Rests seat.pass old → Rests seat.pass new
look_rests seat old new seen m rests =
    let (others, rest, is, other, shown, after) = m.happens in
    ap (λ (s : State). claims_of seat.pass s.open_claims) (state_longer old m.added new m.turns)
    ∙ none_of_mine seat.pass m.added (state_of old)
    (ap (λ (ts : List Turn). turns_by seat.pass ts) is ∙ none_append seat.pass others rest other after) rests

pub failed_rests : (seat : Seat) (old new : List Turn) (request : Request) → IsUnanswered seat old new request → Rests seat.pass old → Rests seat.pass new
failed_rests seat old new request (inl (p, m, fails)) rests =
    one_rests seat old new p m (broken_claims seat.pass p.turn p.turn.ask p.before fails.0 fails.1) rests
failed_rests seat old new request (inr (m, broken)) rests = look_rests seat old new (state_of new) m rests
