-- Acts of a worker from the beginning of a history. What a worker did, and then a session: `done_session`; delivery steps: `done_steps`; steps of replays: `done_repeats`; a look:
-- `done_looked`; a reading: `done_read`. Several of these: `goes_again`, `goes_beside`, `stays_beside`. A look, as the hall shows it:
-- `look_learns`, `stops_if`.
use Rattle.std.proofs.Common.{◌≡◌, ℕ, ◌≤◌, List, [], ◌∷◌, ◌++◌, Some, None, refl, sym, ap, ◌∙◌, map, subst, arith, append_assoc, append-nil}
use Rattle.std.specs.Prelude.{Bool, true, false, not, MatchBool, Result}
use Rattle.std.proofs.lemmas.Bool.{true≢false}
use Rattle.router_core.specs.Tables.{first_tables}
use Rattle.courier_run.specs.Act.{reads, ticks, looks, makes, tries, writes}
use Rattle.router_history.specs.History.{Turn, State, last_version, begun, after_turn, state_after, state_of, turns_by, AreTurnsFrom}
use Rattle.router_history.specs.Book.{opening_on, IsBook}
use Rattle.router_history.specs.Acts.{Act, Happens, IsNamed, world}
use Rattle.router_history.proofs.TurnLemmas.{state_append, turns_back, versions_grow}
use Rattle.router_history.proofs.BookLemmas.{opened_state, legal_later}
use Rattle.router_history.specs.History.{HasMark}
use Rattle.router_history.proofs.MarkLemmas.{marked, breaks_so}
use Rattle.router_history.proofs.ActLemmas.{happens_others, happens_append}
use Rattle.courier_run.specs.Link.{Outside, outside, Goes}
use Rattle.courier_run.proofs.ActLemmas.{Goes-append}
use Rattle.router_history.specs.declared.book.Seat.{Seat}
use Rattle.router_history.specs.declared.history.Turn.{Turn as CodeTurn}
use Rattle.router_history.specs.Book.{turn_of}
use Rattle.router_history.specs.Acts.{Makes}
use Rattle.door_workers.specs.Serving.{Session}
use Rattle.session_workers.specs.Jobs.{maker, session_by, Jobs, serves, steps, repeats, looks_on, reads_clock, HasDone, ServesOne, GoesOn, jobs_later}
use Rattle.std.proofs.lemmas.List.{map-append, append_cancel_left}
use Rattle.std.proofs.lemmas.List.Elements.{filter-append, All-nil, All-cons}
use Rattle.turn_book.specs.Rule as book
use Rattle.turn_book.specs.Rule.{is_number, Learns}
use Rattle.turn_book.specs.Passes.{view}
use Rattle.router_disk.specs.Link.{Exchange}
use Rattle.courier_run.specs.declared.stepped.Stepped.{Stepped}
use Rattle.message_streams.specs.declared.farewell.SessionEnd.{SessionEnd}
use Rattle.router_sessions.specs.Desk.{Known, seen_by, turns_seen, number_of, seat_of, SeesMore}
use Rattle.router_sessions.specs.Delivery.{Delivers}
use Rattle.router_sessions.specs.Repeating.{RepeatsFrom}
use Rattle.step_run.specs.declared.fault.StepsFault.{StepsFault}
use Rattle.router_sessions.proofs.RepeatLemmas.{repeats_go}
use Rattle.router_history.specs.Session.{IsSession}
use Rattle.router_history.specs.Visit.{is_cut}
use Rattle.router_sessions.proofs.SessionLemmas.{unlooked}
use Rattle.router_sessions.proofs.DeskLemmas.{own_turns}

-- acts from before the turn that opens a book, which no pass made, and then later ones
opened_append : (n : ℕ) (s : State) (o : Turn) (xs ys : List Turn) (first second : List Act) → o.pass ≡ None → AreTurnsFrom (after_turn o s) xs
    → last_version s ≤ last_version (after_turn o s) → Happens n s (o ∷ xs) first → Happens n (state_after xs (after_turn o s)) ys second
    → Happens n s (o ∷ (xs ++ ys)) (first ++ second)
opened_append n s o xs ys [] second none legal grow h later =
    let grows = versions_grow xs (after_turn o s) legal in happens_others n s (o ∷ xs) ys second (omega (arith, grow, grows)) h later
opened_append n s o xs ys (makes p ∷ first) second none legal grow ([], rest, is, other, pass, before, known, h) later =
    let e : o ≡ p.turn = cc (is) in absurd (cc (pass, none, e))
opened_append n s o xs ys (makes p ∷ first) second none legal grow (t ∷ others, rest, is, other, pass, before, known, h) later =
    let e : o ≡ t = cc (is) in let tail : xs ≡ others ++ p.turn ∷ rest = cc (is) in
    let at : p.before ≡ state_after others (after_turn o s) = before ∙ ap (λ (u : Turn). state_after others (after_turn u s)) (sym e) in
    let there : AreTurnsFrom (after_turn p.turn p.before) rest =
    subst (λ (u : State). AreTurnsFrom (after_turn p.turn u) rest) (sym at) (turns_back (after_turn o s) others (p.turn ∷ rest) (subst (AreTurnsFrom (after_turn o s)) tail legal)).1.1 in
    let state : state_after xs (after_turn o s) ≡ state_after rest (after_turn p.turn p.before) =
    ap (λ (ts : List Turn). state_after ts (after_turn o s)) tail ∙ state_append (after_turn o s) others (p.turn ∷ rest)
    ∙ ap (λ (u : State). state_after rest (after_turn p.turn u)) (sym at) in (
      t ∷ others,
      rest ++ ys,
      ap (λ (ts : List Turn). ts ++ ys) is ∙ append_assoc (t ∷ others) (p.turn ∷ rest) ys,
      other,
      pass,
      before,
      known,
      happens_append n (after_turn p.turn p.before) rest ys first second there h (subst (λ (u : State). Happens n u ys second) state later),
    )
opened_append n s o xs ys (looks state ∷ first) second none legal grow ([], rest, is, other, shows, h) later = (
  [],
  o ∷ (xs ++ ys),
  refl,
  refl,
  shows,
  subst (λ (u : State). Happens n u (o ∷ (xs ++ ys)) (first ++ second)) (sym shows)
      (opened_append n s o xs ys first second none legal grow
      (subst (λ (u : State). Happens n u (o ∷ xs) first) shows (subst (λ (ts : List Turn). Happens n state ts first) (sym is) h)) later),
)
opened_append n s o xs ys (looks state ∷ first) second none legal grow (t ∷ others, rest, is, other, shows, h) later =
    let e : o ≡ t = cc (is) in let tail : xs ≡ others ++ rest = cc (is) in
    let at : state ≡ state_after others (after_turn o s) = shows ∙ ap (λ (u : Turn). state_after others (after_turn u s)) (sym e) in
    let there : AreTurnsFrom state rest =
    subst (λ (u : State). AreTurnsFrom u rest) (sym at) (turns_back (after_turn o s) others rest (subst (AreTurnsFrom (after_turn o s)) tail legal)).1 in
    let now : state_after xs (after_turn o s) ≡ state_after rest state =
    ap (λ (ts : List Turn). state_after ts (after_turn o s)) tail ∙ state_append (after_turn o s) others rest ∙ ap (state_after rest) (sym at) in (
      t ∷ others,
      rest ++ ys,
      ap (λ (ts : List Turn). ts ++ ys) is ∙ append_assoc (t ∷ others) rest ys,
      other,
      shows,
      happens_append n state rest ys first second there h (subst (λ (u : State). Happens n u ys second) now later),
    )
opened_append n s o xs ys (reads piece ∷ first) second none legal grow h later = opened_append n s o xs ys first second none legal grow h later
opened_append n s o xs ys (ticks reading ∷ first) second none legal grow h later = opened_append n s o xs ys first second none legal grow h later
opened_append n s o xs ys (tries claim outcome ∷ first) second none legal grow h later = opened_append n s o xs ys first second none legal grow h later
opened_append n s o xs ys (writes bytes ∷ first) second none legal grow h later = opened_append n s o xs ys first second none legal grow h later

-- acts, and then later ones, from the beginning of a history that is legal
pub happens_joined : (n : ℕ) (xs ys : List Turn) (first second : List Act) → IsBook (xs ++ ys) → Happens n (begun first_tables) xs first
    → Happens n (state_of xs) ys second → Happens n (begun first_tables) (xs ++ ys) (first ++ second)
happens_joined n [] ys first second h one two = happens_append n (begun first_tables) [] ys first second tt one two
happens_joined n (o ∷ xs) ys first second h one two =
    let is : o ≡ opening_on h.found h.disk = cc (h.opened) in let tail : xs ++ ys ≡ h.later = cc (h.opened) in
    let start : after_turn o (begun first_tables) ≡ opened_state h.found h.disk = ap (λ (t : Turn). after_turn t (begun first_tables)) is in
    let all : AreTurnsFrom (after_turn o (begun first_tables)) (xs ++ ys) =
    subst (λ (s : State). AreTurnsFrom s (xs ++ ys)) (sym start) (subst (AreTurnsFrom (opened_state h.found h.disk)) (sym tail) (legal_later (o ∷ (xs ++ ys)) h)) in
    opened_append n (begun first_tables) o xs ys first second (ap (λ (t : Turn). t.pass) is) (turns_back (after_turn o (begun first_tables)) xs ys all).0 (omega arith) one two

module _ {I O : Type 0} (gave : I → List (List ℕ)) (wrote : O → List ℕ) where
  -- what a worker did, and then a job
  pub done_joined : (seat : Seat) (lent was now : Outside) (sessions sessions_new : List (Session I O CodeTurn)) (seen turns : List CodeTurn) (job : List Act)
      → HasDone gave wrote seat.pass lent was sessions seen → IsBook (map turn_of turns) → Makes seat job (map turn_of seen) (map turn_of turns) → Goes job was now
      → ((acts : List Act) → Jobs gave wrote (map turn_of turns) seat.pass acts sessions → Jobs gave wrote (map turn_of turns) seat.pass (acts ++ job) sessions_new)
      → HasDone gave wrote seat.pass lent now sessions_new turns
  done_joined seat lent was now sessions sessions_new seen turns job w h m goes more = record {
    acts = w.acts ++ job;
    happens = subst (λ (ts : List Turn). Happens seat.pass (begun first_tables) ts (w.acts ++ job)) (sym m.turns)
        (happens_joined seat.pass (map turn_of seen) m.added w.acts job (subst IsBook m.turns h) w.happens m.happens);
    jobs = more w.acts (jobs_later gave wrote (map turn_of seen) (map turn_of turns) seat.pass w.acts sessions (m.added, sym m.turns) w.jobs);
    goes = Goes-append w.acts job lent was now w.goes goes;
  }

  -- and then the session of a connection
  pub done_session : {V : Type 0} (n : ℕ) (came went : I × O) (old new : Known V) (end : SessionEnd) (readings readings_new : List ℕ) (answered answered_new : List Exchange)
      (faults faults_new : ℕ) → IsBook (turns_seen new)
      → IsSession (seat_of (Some n) old) (world (turns_seen old) (gave came.0) (wrote came.1) readings answered faults)
      (world (turns_seen new) (gave went.0) (wrote went.1) readings_new answered_new faults_new) end
      → ServesOne gave wrote (number_of old) (session_by n (number_of old) came went (is_cut end) (seen_by old)) (outside readings answered faults)
      (outside readings_new answered_new faults_new) (seen_by old) (seen_by new)
  done_session n came went old new end readings readings_new answered answered_new faults faults_new h (acts, ended, does) = λ lent sessions w.
      done_joined (seat_of (Some n) old) lent (outside readings answered faults) (outside readings_new answered_new faults_new) sessions
      (sessions ++ session_by n (number_of old) came went (is_cut end) (seen_by old) ∷ []) (seen_by old) (seen_by new) acts w h does.makes does.goes
      (λ before jobs. serves before acts sessions (session_by n (number_of old) came went (is_cut end) (seen_by old)) jobs record {
        pass_is = refl;
        end = end;
        cut_is = refl;
        ended = ended;
        turns = turns_seen new;
        real = ([], append-nil (turns_seen new));
        readings = readings;
        readings_new = readings_new;
        answered = answered;
        answered_new = answered_new;
        faults = faults;
        faults_new = faults_new;
        does = does;
      })

  -- and then delivery steps
  pub done_steps : {V : Type 0} (old new : Known V) (budget : ℕ) (before after : Outside) (made : Stepped) → IsBook (turns_seen new)
      → Delivers (seat_of None old) budget (turns_seen old) (turns_seen new) before after made
      → GoesOn gave wrote (number_of old) before after (seen_by old) (seen_by new)
  done_steps old new budget before after made h d = λ lent sessions w.
      done_joined (seat_of None old) lent before after sessions sessions (seen_by old) (seen_by new) d.acts w h d.makes d.goes
      (λ acts jobs. steps acts d.acts sessions budget made.turned made.stop jobs d.steps d.makes.named)

  -- and then steps of replays, during which the link does nothing
  pub done_repeats : {V : Type 0} (old new : Known V) (budget : ℕ) (gave_old gave_new : List ℕ) (answered : List Exchange) (faults : ℕ)
      (result : Result ℕ StepsFault) → IsBook (turns_seen new)
      → RepeatsFrom (seat_of None old) budget (turns_seen old) (turns_seen new) gave_old gave_new result
      → GoesOn gave wrote (number_of old) (outside gave_old answered faults) (outside gave_new answered faults) (seen_by old) (seen_by new)
  done_repeats old new budget gave_old gave_new answered faults result h d = λ lent sessions w.
      done_joined (seat_of None old) lent (outside gave_old answered faults) (outside gave_new answered faults) sessions sessions (seen_by old) (seen_by new)
      d.acts w h d.makes (repeats_go budget d.acts result gave_old gave_new answered faults d.steps d.readings)
      (λ acts jobs. repeats acts d.acts sessions budget result jobs d.steps d.makes.named)

  -- and then a look
  pub done_looked : {V : Type 0} (old new : Known V) (s : State) (shown : Outside) → IsBook (turns_seen new)
      → Makes (seat_of None old) (looks s ∷ []) (turns_seen old) (turns_seen new) → GoesOn gave wrote (number_of old) shown shown (seen_by old) (seen_by new)
  done_looked old new s shown h made = λ lent sessions w.
      done_joined (seat_of None old) lent shown shown sessions sessions (seen_by old) (seen_by new) (looks s ∷ []) w h made
      (record { readings = sym (append-nil shown.readings); answers = []; answered = sym (append-nil shown.answered); tried = (refl, refl) })
      (λ acts jobs. looks_on acts sessions s jobs)

  -- and then a reading of the clock
  pub done_read : (n : ℕ) (turns : List CodeTurn) (readings readings_new : List ℕ) (answered : List Exchange) (faults reading : ℕ) → IsBook (map turn_of turns)
      → readings_new ≡ readings ++ reading ∷ []
      → GoesOn gave wrote n (outside readings answered faults) (outside readings_new answered faults) turns turns
  done_read n turns readings readings_new answered faults reading h is = λ lent sessions w.
      done_joined (record { pass = n; connection = None }) lent (outside readings answered faults) (outside readings_new answered faults) sessions sessions
      turns turns (ticks reading ∷ []) w h
      (record {
        added = [];
        turns = sym (append-nil (map turn_of turns));
        happens = refl;
        named = All-cons (IsNamed None) (ticks reading) [] tt (All-nil (IsNamed None));
      })
      (record { readings = is; answers = []; answered = sym (append-nil answered); tried = (refl, refl) })
      (λ acts jobs. reads_clock acts sessions reading jobs)

  -- without a session, and then again
  pub goes_again : (n m : ℕ) (a b c : Outside) (first mid last : List CodeTurn) → m ≡ n → GoesOn gave wrote n a b first mid → GoesOn gave wrote m b c mid last
      → GoesOn gave wrote n a c first last
  goes_again n m a b c first mid last same one two = λ lent sessions w.
      subst (λ (k : ℕ). HasDone gave wrote k lent c sessions last) same (two lent sessions (subst (λ (k : ℕ). HasDone gave wrote k lent b sessions mid) (sym same) (one lent sessions w)))

  -- without a session, and a link that shows the same before and after
  pub goes_beside : (n : ℕ) (r r' : List ℕ) (x x1 x2 x3 : List Exchange) (f f1 f2 f3 : ℕ) (first last : List CodeTurn) → x1 ≡ x → f1 ≡ f → x3 ≡ x2 → f3 ≡ f2
      → GoesOn gave wrote n (outside r x1 f1) (outside r' x2 f2) first last → GoesOn gave wrote n (outside r x f) (outside r' x3 f3) first last
  goes_beside n r r' x x1 x2 x3 f f1 f2 f3 first last sx sf tx tf goes = λ lent sessions w.
      subst (λ (e : List Exchange). HasDone gave wrote n lent (outside r' e f3) sessions last) (sym tx)
      (subst (λ (k : ℕ). HasDone gave wrote n lent (outside r' x2 k) sessions last) (sym tf)
      (goes lent sessions (subst (λ (e : List Exchange). HasDone gave wrote n lent (outside r e f1) sessions first) (sym sx)
      (subst (λ (k : ℕ). HasDone gave wrote n lent (outside r x k) sessions first) (sym sf) w))))

  pub stays_beside : (n : ℕ) (r : List ℕ) (x x1 : List Exchange) (f f1 : ℕ) (seen : List CodeTurn) → x1 ≡ x → f1 ≡ f
      → GoesOn gave wrote n (outside r x f) (outside r x1 f1) seen seen
  stays_beside n r x x1 f f1 seen sx sf = λ lent sessions w.
      subst (λ (e : List Exchange). HasDone gave wrote n lent (outside r e f1) sessions seen) (sym sx)
      (subst (λ (k : ℕ). HasDone gave wrote n lent (outside r x k) sessions seen) (sym sf) w)

no_image : {A B : Type 0} (f : A → B) (xs : List A) → map f xs ≡ [] → xs ≡ []
no_image f [] none = refl
no_image f (x ∷ xs) none = cc (none)

-- a pass that looked has learned the history
pub look_learns : {V : Type 0} (old new : Known V) (s : State) → SeesMore old new → Makes (seat_of None old) (looks s ∷ []) (turns_seen old) (turns_seen new)
    → Learns maker (view old) (seen_by new)
look_learns old new s (more, is) looked =
    let m = unlooked (seat_of None old) (turns_seen old) (turns_seen new) s looked in
    let added : map turn_of more ≡ m.added = append_cancel_left (turns_seen old) (map turn_of more) m.added
    (sym (map-append turn_of (seen_by old) more) ∙ ap (map turn_of) (sym is) ∙ m.turns) in
    let none : book.turns_by maker (number_of old) more ≡ [] = no_image turn_of (book.turns_by maker (number_of old) more)
    (sym (own_turns (number_of old) more) ∙ ap (turns_by (number_of old)) added ∙ m.happens) in (
      (more, sym is),
      ap (book.turns_by maker (number_of old)) is ∙ filter-append (λ (t : CodeTurn). is_number t.pass (number_of old)) (seen_by old) more
          ∙ ap (λ (ts : List CodeTurn). book.turns_by maker (number_of old) (seen_by old) ++ ts) none ∙ append-nil (book.turns_by maker (number_of old) (seen_by old)),
    )

-- whether the book is broken, as its history has it
pub stops_if : (broken : Bool) (turns : List Turn) → IsBook turns → broken ≡ (state_of turns).broken → MatchBool (not broken) (¬ HasMark turns) (HasMark turns)
stops_if true turns h is = marked turns h.legal (sym is)
stops_if false turns h is = λ mark. true≢false (sym (breaks_so turns h.legal mark) ∙ sym is)
