-- A session, act by act. Other files cite `IsRunning`, `running_start`, `read_on`, `IsServed`, `served_by`, `goes_on`, `long_end`, `closed_end`, `write_end`, `lack_end`,
-- `answered_at`, `session_looked`.
use Rattle.std.proofs.Common.{◌≡◌, ℕ, ◌+◌, ◌<◌, ◌⊎◌, inl, inr, Bool, true, false, List, [], ◌∷◌, ◌++◌, Option, Result, Ok, Err, refl, sym, ap, ◌∙◌, subst, arith}
use Rattle.std.proofs.Common.{append-nil, append_assoc}
use Rattle.std.specs.Prelude.{◌==◌, ◌||◌}
use Rattle.std.proofs.lemmas.Bool.{ne_eqb}
use Rattle.std.proofs.lemmas.List.Elements.{All-nil, All-cons}
use Rattle.turn_book.specs.Passes.{IsSamePass}
use Rattle.router_disk.specs.Link.{Exchange}
use Rattle.router_disk.specs.declared.fault.Failed.{Failed}
use Rattle.api_replies.specs.Reply.{Reply, no_memory}
use Rattle.api_replies.specs.Written.{reply_text}
use Rattle.api_messages.specs.declared.message.Message.{Message}
use Rattle.api_messages.specs.Messages.{HoldsMessage}
use Rattle.courier_run.specs.Act.{reads, looks, writes}
use Rattle.router_history.specs.declared.book.Seat.{Seat}
use Rattle.message_streams.specs.declared.farewell.SessionEnd.{SessionEnd}
use Rattle.message_streams.specs.declared.farewell.SessionEnd.TheVariants as ends
use Rattle.message_streams.specs.declared.incoming.Incoming.TheVariants as incoming
use Rattle.message_streams.specs.declared.incoming.Lack.{Lack}
use Rattle.message_streams.specs.declared.incoming.Lack.TheVariants as lacks
use Rattle.router_history.specs.History.{Turn, State, state_of, turns_by}
use Rattle.router_history.specs.Book.{IsBook}
use Rattle.router_history.specs.Acts.{Act, Makes, IsNamed, World, world, Does}
use Rattle.router_history.specs.Session.{Answers, sent_text, request_limit, closes, Serving, begun, reads_on, answers, IsLast, IsFarewell, refused, starved}
use Rattle.router_history.specs.Session.{Ended, closed_by_end, cut, closed_by_message, long, farewell, starved_early, read_fault, unwritten, farewell_unwritten, IsSession}
use Rattle.router_sessions.specs.Desk.{Known, seat_of}
use Rattle.message_streams.specs.Incoming.{AreRead, none, one_more, NextOf}
use Rattle.message_streams.specs.Farewell.{refusal_reply, IsFinish}
use Rattle.router_sessions.specs.Reply.{DoesAndWrites, HasAnswered}
use Rattle.router_sessions.specs.Conversing.{HasEnded}
use Rattle.router_history.proofs.TurnLemmas.{none_append}
use Rattle.router_history.proofs.ActLemmas.{state_longer}
use Rattle.router_sessions.proofs.DeskLemmas.{same_seat}
use Rattle.router_sessions.proofs.DoesLemmas.{does_none, does_append, does_wrote, does_read, read_acts, read_more, after_acts}

-- the acts so far, after the first look: `served` messages were answered, and these bytes are buffered
pub record IsRunning (seat : Seat) (old now : World) (held : List ℕ) (served : ℕ) : Type 0 where
  pub acts : List Act
  pub serving : Serving served held (looks (state_of old.turns) ∷ acts)
  pub does : Does seat acts old now

pub running_start : (seat : Seat) (old : World) (held : List ℕ) → held ≡ [] → IsRunning seat old old held 0
running_start seat old held is = record {
  acts = [];
  serving = subst (λ (bytes : List ℕ). Serving 0 bytes (looks (state_of old.turns) ∷ [])) (sym is) (begun (state_of old.turns));
  does = does_none seat old;
}

serving_reads : (n : ℕ) (first held : List ℕ) (pieces : List (List ℕ)) (acts : List Act) → Serving n first acts → AreRead first pieces held
    → Serving n held (acts ++ read_acts pieces)
serving_reads n first _ _ acts serving none = subst (Serving n first) (sym (append-nil acts)) serving
serving_reads n first _ _ acts serving (one_more pieces held piece read awaited some) =
    subst (Serving n (held ++ piece))
    (append_assoc acts (read_acts pieces) (reads piece ∷ []) ∙ ap (λ (more : List Act). acts ++ more) (sym (read_more pieces (piece ∷ []))))
    (reads_on n held piece (acts ++ read_acts pieces) (serving_reads n first held pieces acts serving read) awaited some)

-- pieces were read
pub read_on : (seat : Seat) (old : World) (turns : List Turn) (gave gave_new pieces : List (List ℕ)) (written readings : List ℕ) (answered : List Exchange) (faults : ℕ)
    (first held : List ℕ) (n : ℕ) → IsBook old.turns → IsBook turns → gave_new ≡ gave ++ pieces → AreRead first pieces held
    → IsRunning seat old (world turns gave written readings answered faults) first n
    → IsRunning seat old (world turns gave_new written readings answered faults) held n
read_on seat old turns gave gave_new pieces written readings answered faults first held n h h_new is read r = record {
  acts = r.acts ++ read_acts pieces;
  serving = serving_reads n first held pieces (looks (state_of old.turns) ∷ r.acts) r.serving read;
  does = does_append seat r.acts (read_acts pieces) old (world turns gave written readings answered faults) (world turns gave_new written readings answered faults) h h_new
      r.does (does_read seat turns gave gave_new pieces written readings answered faults is);
}

-- `n` messages were answered before, and then this one, with its acts and its reply
pub record IsServed (seat : Seat) (m : Message) (close : Bool) (old new : World) (rest : List ℕ) (n : ℕ) (result : Result (Unit {0}) Failed) : Type 0 where
  pub held : List ℕ
  pub before : List Act
  pub done : List Act
  pub reply : Reply
  pub serving : Serving n held (looks (state_of old.turns) ∷ before)
  pub whole : HoldsMessage held m rest
  pub answered : Answers m done reply
  pub does : DoesAndWrites seat (before ++ done) (sent_text m.method reply close) old new result

pub served_by : (seat : Seat) (m : Message) (close : Bool) (old mid new : World) (held rest : List ℕ) (n : ℕ) (result : Result (Unit {0}) Failed) → IsBook old.turns
    → IsBook mid.turns → IsRunning seat old mid held n → HoldsMessage held m rest → HasAnswered seat m close mid new result → IsServed seat m close old new rest n result
served_by seat m close old mid new held rest n result h h_mid r whole a = record {
  held = held;
  before = r.acts;
  done = a.done;
  reply = a.reply;
  serving = r.serving;
  whole = whole;
  answered = a.answers;
  does = after_acts seat r.acts a.done (sent_text m.method a.reply close) old mid new result h h_mid r.does a.does;
}

closes_not : (n : ℕ) (m : Message) → m.close ≡ false → n < request_limit → closes n m ≡ false
closes_not n m goes below =
    ap (λ b. b || (n == request_limit)) goes ∙ ne_eqb n request_limit (λ e. absurd (omega (arith, below, e)))

-- the session goes on
pub goes_on : (seat : Seat) (m : Message) (close : Bool) (old new : World) (rest : List ℕ) (n : ℕ) → close ≡ closes (n + 1) m → m.close ≡ false → n + 1 < request_limit
    → IsServed seat m close old new rest n (Ok tt) → IsRunning seat old new rest (n + 1)
goes_on seat m close old new rest n is goes below s =
    let not_last : closes (n + 1) m ≡ false = closes_not (n + 1) m goes below in
    record {
      acts = s.before ++ (s.done ++ writes (sent_text m.method s.reply false) ∷ []);
      serving = answers n s.held rest (looks (state_of old.turns) ∷ s.before) s.done m s.reply s.serving s.whole s.answered not_last;
      does = subst (λ (acts : List Act). Does seat acts old new) (append_assoc s.before s.done (writes (sent_text m.method s.reply false) ∷ []))
          (subst (λ b. Does seat ((s.before ++ s.done) ++ writes (sent_text m.method s.reply b) ∷ []) old new) (is ∙ not_last) s.does);
    }

last_one : (seat : Seat) (m : Message) (close : Bool) (old new : World) (rest : List ℕ) (n : ℕ) (result : Result (Unit {0}) Failed) (text : List ℕ)
    → close ≡ closes (n + 1) m → (s : IsServed seat m close old new rest n result) → text ≡ sent_text m.method s.reply close
    → IsLast n m (looks (state_of old.turns) ∷ (s.before ++ s.done)) text
last_one seat m close old new rest n result text is s text_is = record {
  held = s.held;
  rest = rest;
  before = looks (state_of old.turns) ∷ s.before;
  done = s.done;
  reply = s.reply;
  serving = s.serving;
  whole = s.whole;
  answers = s.answered;
  acts_are = refl;
  text_is = text_is ∙ ap (λ b. sent_text m.method s.reply b) is;
}

-- the last message that a session serves
pub long_end : (seat : Seat) (m : Message) (close : Bool) (old new : World) (rest : List ℕ) (n : ℕ) → close ≡ closes (n + 1) m → n + 1 ≡ request_limit
    → IsServed seat m close old new rest n (Ok tt) → HasEnded seat old new ends.Long
long_end seat m close old new rest n is last s =
    let text = sent_text m.method s.reply close in (
      (s.before ++ s.done) ++ writes text ∷ [],
      long n m (looks (state_of old.turns) ∷ (s.before ++ s.done)) text (last_one seat m close old new rest n (Ok tt) text is s refl) last,
      s.does,
    )

-- a message that asked to close
pub closed_end : (seat : Seat) (m : Message) (close : Bool) (old new : World) (rest : List ℕ) (n : ℕ) → close ≡ closes (n + 1) m → m.close ≡ true → n + 1 < request_limit
    → IsServed seat m close old new rest n (Ok tt) → HasEnded seat old new ends.Closed
closed_end seat m close old new rest n is asks below s =
    let text = sent_text m.method s.reply close in (
      (s.before ++ s.done) ++ writes text ∷ [],
      closed_by_message n m (looks (state_of old.turns) ∷ (s.before ++ s.done)) text (last_one seat m close old new rest n (Ok tt) text is s refl) asks
          (λ e. absurd (omega (arith, below, e))),
      s.does,
    )

-- the write of a reply failed
pub write_end : (seat : Seat) (m : Message) (close : Bool) (old new : World) (rest : List ℕ) (n : ℕ) (e : Failed) → close ≡ closes (n + 1) m
    → IsServed seat m close old new rest n (Err e) → HasEnded seat old new ends.WriteFault
write_end seat m close old new rest n e is s =
    let (part, after, text_is, does) = s.does in (
      (s.before ++ s.done) ++ writes part ∷ [],
      unwritten n m (looks (state_of old.turns) ∷ (s.before ++ s.done)) part after (last_one seat m close old new rest n (Err e) (part ++ after) is s (sym text_is)),
      does,
    )

-- a text was written at the end, or a first part of it
farewell_end : (seat : Seat) (old : World) (turns : List Turn) (gave : List (List ℕ)) (written written_new readings : List ℕ) (answered : List Exchange) (faults : ℕ)
    (held text : List ℕ) (n : ℕ) (said end : SessionEnd) → IsBook old.turns → IsBook turns → IsRunning seat old (world turns gave written readings answered faults) held n
    → IsFarewell held text said
    → ((end ≡ said) × (written_new ≡ written ++ text)) ⊎ ((end ≡ ends.WriteFault) × ((part rest : List ℕ) × (text ≡ part ++ rest) × (written_new ≡ written ++ part)))
    → HasEnded seat old (world turns gave written_new readings answered faults) end
farewell_end seat old turns gave written written_new readings answered faults held text n said end h h_new r says (inl (is, wrote)) = (
  r.acts ++ writes text ∷ [],
  subst (λ (e : SessionEnd). Ended e (looks (state_of old.turns) ∷ (r.acts ++ writes text ∷ []))) (sym is)
      (farewell n held (looks (state_of old.turns) ∷ r.acts) text said r.serving says),
  does_append seat r.acts (writes text ∷ []) old (world turns gave written readings answered faults) (world turns gave written_new readings answered faults) h h_new r.does
      (does_wrote seat turns gave written written_new readings answered faults text wrote),
)
farewell_end seat old turns gave written written_new readings answered faults held text n said end h h_new r says (inr (is, (part, rest, text_is, wrote))) = (
  r.acts ++ writes part ∷ [],
  subst (λ (e : SessionEnd). Ended e (looks (state_of old.turns) ∷ (r.acts ++ writes part ∷ []))) (sym is)
      (farewell_unwritten n held (looks (state_of old.turns) ∷ r.acts) part rest said r.serving (subst (λ (t : List ℕ). IsFarewell held t said) text_is says)),
  does_append seat r.acts (writes part ∷ []) old (world turns gave written readings answered faults) (world turns gave written_new readings answered faults) h h_new r.does
      (does_wrote seat turns gave written written_new readings answered faults part wrote),
)

-- nothing was written at the end
silent_end : (seat : Seat) (old : World) (turns : List Turn) (gave : List (List ℕ)) (written written_new readings : List ℕ) (answered : List Exchange) (faults : ℕ)
    (acts : List Act) (said end : SessionEnd) → Ended said (looks (state_of old.turns) ∷ acts) → Does seat acts old (world turns gave written readings answered faults)
    → (end ≡ said) × (written_new ≡ written) → HasEnded seat old (world turns gave written_new readings answered faults) end
silent_end seat old turns gave written written_new readings answered faults acts said end ended does (is, same) = (
  acts,
  subst (λ (e : SessionEnd). Ended e (looks (state_of old.turns) ∷ acts)) (sym is) ended,
  subst (λ (w : List ℕ). Does seat acts old (world turns gave w readings answered faults)) (sym same) does,
)

-- the last read gave the end of the input
end_read : (seat : Seat) (old : World) (turns : List Turn) (gave gave_new : List (List ℕ)) (written readings : List ℕ) (answered : List Exchange) (faults : ℕ)
    (acts : List Act) → IsBook old.turns → IsBook turns → gave_new ≡ gave ++ [] ∷ [] → Does seat acts old (world turns gave written readings answered faults)
    → Does seat (acts ++ reads [] ∷ []) old (world turns gave_new written readings answered faults)
end_read seat old turns gave gave_new written readings answered faults acts h h_new is does =
    does_append seat acts (reads [] ∷ []) old (world turns gave written readings answered faults) (world turns gave_new written readings answered faults) h h_new does
    (does_read seat turns gave gave_new ([] ∷ []) written readings answered faults is)

-- what is read last
longer_by : (gave gave_new pieces more : List (List ℕ)) → gave_new ≡ gave ++ (pieces ++ more) → gave_new ≡ (gave ++ pieces) ++ more
longer_by gave gave_new pieces more is = is ∙ sym (append_assoc gave pieces more)

no_more : (gave gave_new pieces : List (List ℕ)) → gave_new ≡ gave ++ (pieces ++ []) → gave_new ≡ gave ++ pieces
no_more gave gave_new pieces is = is ∙ ap (λ (p : List (List ℕ)). gave ++ p) (append-nil pieces)

-- there is no further message
pub lack_end : (seat : Seat) (old : World) (turns : List Turn) (gave gave_new : List (List ℕ)) (written written_new readings : List ℕ) (answered : List Exchange) (faults : ℕ)
    (first rest : List ℕ) (n : ℕ) (lack : Lack) (end : SessionEnd) → IsBook old.turns → IsBook turns
    → IsRunning seat old (world turns gave written readings answered faults) first n → NextOf gave gave_new first rest (incoming.Lack lack)
    → IsFinish lack written written_new end → HasEnded seat old (world turns gave_new written_new readings answered faults) end
lack_end seat old turns gave gave_new written written_new readings answered faults first rest n lacks.Closed end h h_new r (pieces, held, is, read, (lines, awaited)) finish =
    let run = read_on seat old turns gave (gave ++ pieces) pieces written readings answered faults first held n h h_new refl read r in
    silent_end seat old turns gave_new written written_new readings answered faults (run.acts ++ reads [] ∷ []) ends.Closed end
    (closed_by_end n held (looks (state_of old.turns) ∷ run.acts) run.serving lines awaited)
    (end_read seat old turns (gave ++ pieces) gave_new written readings answered faults run.acts h h_new (longer_by gave gave_new pieces ([] ∷ []) is) run.does) finish
lack_end seat old turns gave gave_new written written_new readings answered faults first rest n lacks.Cut end h h_new r (pieces, held, is, read, (awaited, some)) finish =
    let run = read_on seat old turns gave (gave ++ pieces) pieces written readings answered faults first held n h h_new refl read r in
    silent_end seat old turns gave_new written written_new readings answered faults (run.acts ++ reads [] ∷ []) ends.Cut end
    (cut n held (looks (state_of old.turns) ∷ run.acts) run.serving some awaited)
    (end_read seat old turns (gave ++ pieces) gave_new written readings answered faults run.acts h h_new (longer_by gave gave_new pieces ([] ∷ []) is) run.does) finish
lack_end seat old turns gave gave_new written written_new readings answered faults first rest n (lacks.Refused why) end h h_new r (pieces, held, is, read, is_refused) finish =
    let run = read_on seat old turns gave gave_new pieces written readings answered faults first held n h h_new (no_more gave gave_new pieces is) read r in
    farewell_end seat old turns gave_new written written_new readings answered faults held (reply_text (refusal_reply why) true) n ends.Refused end h h_new run
    (refused why is_refused) finish
lack_end seat old turns gave gave_new written written_new readings answered faults first rest n lacks.ReadFault end h h_new r (pieces, held, is, read, awaited) finish =
    let run = read_on seat old turns gave gave_new pieces written readings answered faults first held n h h_new (no_more gave gave_new pieces is) read r in
    silent_end seat old turns gave_new written written_new readings answered faults run.acts ends.ReadFault end
    (read_fault n held (looks (state_of old.turns) ∷ run.acts) run.serving awaited) run.does finish
lack_end seat old turns gave gave_new written written_new readings answered faults first rest n (lacks.NoMemory true) end h h_new r (pieces, held, is, read, (which, head)) finish =
    let run = read_on seat old turns gave gave_new pieces written readings answered faults first held n h h_new (no_more gave gave_new pieces is) read r in
    farewell_end seat old turns gave_new written written_new readings answered faults held (reply_text no_memory true) n ends.NoMemory end h h_new run
    (starved which head) finish
lack_end seat old turns gave gave_new written written_new readings answered faults first rest n (lacks.NoMemory false) end h h_new r (pieces, held, is, read, (awaited, headless)) finish =
    let run = read_on seat old turns gave gave_new pieces written readings answered faults first held n h h_new (no_more gave gave_new pieces is) read r in
    silent_end seat old turns gave_new written written_new readings answered faults run.acts ends.NoMemory end
    (starved_early n held (looks (state_of old.turns) ∷ run.acts) run.serving awaited headless) run.does finish

-- the seat of the pass is the same throughout
pub answered_at : {V : Type 0} (connection : Option ℕ) (first now : Known V) (m : Message) (close : Bool) (old new : World) (result : Result (Unit {0}) Failed) → IsSamePass first now
    → HasAnswered (seat_of connection now) m close old new result → HasAnswered (seat_of connection first) m close old new result
answered_at connection first now m close old new result same a = subst (λ (s : Seat). HasAnswered s m close old new result) (same_seat connection first now same) a

-- what others made, without the look after it
pub unlooked : (seat : Seat) (old new : List Turn) (s : State) → Makes seat (looks s ∷ []) old new → Makes seat [] old new
unlooked seat old new s m =
    let (others, rest, is, other, shows, after) = m.happens in
    record {
      added = m.added;
      turns = m.turns;
      happens = ap (turns_by seat.pass) is ∙ none_append seat.pass others rest other after;
      named = All-nil (IsNamed seat.connection);
    }

-- what others made comes before the first look
pub makes_looked : (seat : Seat) (acts : List Act) (old mid new : List Turn) → Makes seat [] old mid → Makes seat acts mid new
    → Makes seat (looks (state_of mid) ∷ acts) old new
makes_looked seat acts old mid new one two = record {
  added = one.added ++ two.added;
  turns = two.turns ∙ ap (λ (ts : List Turn). ts ++ two.added) one.turns ∙ append_assoc old one.added two.added;
  happens = (one.added, two.added, refl, one.happens, state_longer old one.added mid one.turns, two.happens);
  named = All-cons (IsNamed seat.connection) (looks (state_of mid)) acts tt two.named;
}

-- a session begins with a look
pub session_looked : (seat : Seat) (old mid new : List Turn) (gave gave_new : List (List ℕ)) (written written_new readings readings_new : List ℕ)
    (answered answered_new : List Exchange) (faults faults_new : ℕ) (end : SessionEnd) → Makes seat [] old mid
    → HasEnded seat (world mid gave written readings answered faults) (world new gave_new written_new readings_new answered_new faults_new) end
    → IsSession seat (world old gave written readings answered faults) (world new gave_new written_new readings_new answered_new faults_new) end
session_looked seat old mid new gave gave_new written written_new readings readings_new answered answered_new faults faults_new end m (acts, ended, does) = (
  looks (state_of mid) ∷ acts,
  ended,
  record {
    makes = makes_looked seat acts old mid new m does.makes;
    gave = does.gave;
    written = does.written;
    goes = record { readings = does.goes.readings; answers = does.goes.answers; answered = does.goes.answered; tried = does.goes.tried };
  },
)

pub ended_at : {V : Type 0} (connection : Option ℕ) (first now : Known V) (old new : World) (end : SessionEnd) → IsSamePass first now
    → HasEnded (seat_of connection now) old new end → HasEnded (seat_of connection first) old new end
ended_at connection first now old new end same e = subst (λ (s : Seat). HasEnded s old new end) (same_seat connection first now same) e
