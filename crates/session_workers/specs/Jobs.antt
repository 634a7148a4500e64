-- What a worker of a door did, as one list of acts.
use Rattle.std.specs.Prelude.{◌≡◌, ℕ, Bool, List, [], ◌∷◌, ◌++◌, map, All, Option, Some, None, Result}
use Rattle.std.proofs.Common.{refl, sym, ap, ◌∙◌, subst, append-nil, append_assoc, cond, true, false}
use Rattle.std.proofs.lemmas.List.{map-append, append_cancel_left}
use Rattle.std.proofs.lemmas.List.Elements.{filter-append}
use mathlib.Core.List.{IsPrefix}
use Rattle.door_workers.specs.Serving.{Session}
use Rattle.turn_book.specs.Rule as book
use Rattle.turn_book.specs.Rule.{is_number}
use Rattle.router_disk.specs.Link.{Exchange}
use Rattle.router_core.specs.Tables.{first_tables}
use Rattle.courier_run.specs.Act.{reads, ticks, looks, makes, tries, writes}
use Rattle.courier_run.specs.Link.{Outside, outside, Goes}
use Rattle.courier_run.specs.declared.turned.Turned.{Turned}
use Rattle.courier_run.specs.declared.stepped.Stop.{Stop}
use Rattle.step_run.specs.declared.fault.StepsFault.{StepsFault}
use Rattle.router_history.specs.declared.history.Turn.{Turn}
use Rattle.message_streams.specs.declared.farewell.SessionEnd.{SessionEnd}
use Rattle.router_history.specs.declared.book.Seat.{Seat}
use Rattle.router_history.specs.History as history
use Rattle.router_history.specs.History.{State, Placed, begun, turns_by, state_of}
use Rattle.router_history.specs.Book.{turn_of, IsBook}
use Rattle.router_history.specs.Acts.{Act, Steps, Repeating, Happens, IsNamed, Makes, world, Does}
use Rattle.router_history.specs.Session.{Ended}
use Rattle.router_history.specs.Visit.{is_cut}

-- The pass that made a turn.
-- Shown by: proofs alone.
abbrev pub maker : Turn → Option ℕ
maker t = t.pass

-- What a worker's link and clock show.
-- Shown by: program_tests serve.rt: a_lent_clock_gives_the_moments_of_its_workers_turns.
abbrev pub outside_of : {L C : Type 0} → (C → List ℕ) → (L → List Exchange) → (L → ℕ) → L × C → Outside
outside_of gave exchanges faults own = outside (gave own.1) (exchanges own.0) (faults own.0)

-- The session of a connection, by a pass.
-- Shown by: program_tests serve.rt: two_workers_serve_the_first_run.
abbrev pub session_by : {I O : Type 0} → ℕ → ℕ → I × O → I × O → Bool → List Turn → Session I O Turn
session_by n pass came went cut before = record { number = n; pass = pass; came = came; went = went; cut = cut; before = before }

module _ {I O : Type 0} (gave : I → List (List ℕ)) (wrote : O → List ℕ) where
  -- These acts of the pass with this number are the session: they end as it did, and do what its streams show. `known` has the turns that
  -- the pass has seen in the end; the session's are in their places there.
  -- Shown by: each_request_is_made_twice.edit.
  pub record IsJob (known : List history.Turn) (n : ℕ) (s : Session I O Turn) (acts : List Act) : Type 0 where
    pub pass_is : s.pass ≡ n
    pub end : SessionEnd
    pub cut_is : s.cut ≡ is_cut end
    pub ended : Ended end acts
    pub turns : List history.Turn
    pub real : IsPrefix turns known
    pub readings : List ℕ
    pub readings_new : List ℕ
    pub answered : List Exchange
    pub answered_new : List Exchange
    pub faults : ℕ
    pub faults_new : ℕ
    pub does : Does (record { pass = n; connection = Some s.number }) acts
        (world (map turn_of s.before) (gave s.came.0) (wrote s.came.1) readings answered faults)
        (world turns (gave s.went.0) (wrote s.went.1) readings_new answered_new faults_new)

  -- What a worker does, in the order of time: sessions; steps of deliveries and of replays, whose turns name no connection; a look or a reading
  -- between.
  -- Shown by: quiet_makes_a_request.edit.
  pub data Jobs (known : List history.Turn) (n : ℕ) : List Act → List (Session I O Turn) → Type 0 where
    nothing : Jobs known n [] []
    serves : (acts job : List Act) (sessions : List (Session I O Turn)) (s : Session I O Turn) → Jobs known n acts sessions → IsJob known n s job
        → Jobs known n (acts ++ job) (sessions ++ s ∷ [])
    steps : (acts job : List Act) (sessions : List (Session I O Turn)) (budget : ℕ) (turned : Turned) (stop : Stop) → Jobs known n acts sessions
        → Steps budget job turned stop → All (IsNamed None) job → Jobs known n (acts ++ job) sessions
    repeats : (acts job : List Act) (sessions : List (Session I O Turn)) (budget : ℕ) (result : Result ℕ StepsFault) → Jobs known n acts sessions
        → Repeating budget job result → All (IsNamed None) job → Jobs known n (acts ++ job) sessions
    looks_on : (acts : List Act) (sessions : List (Session I O Turn)) (s : State) → Jobs known n acts sessions → Jobs known n (acts ++ looks s ∷ []) sessions
    reads_clock : (acts : List Act) (sessions : List (Session I O Turn)) (reading : ℕ) → Jobs known n acts sessions → Jobs known n (acts ++ ticks reading ∷ []) sessions

  -- What a worker did through the pass with this number, which has seen these turns now: these sessions in order, and steps of deliveries and
  -- of replays between, are all turns of its pass, and all that its clock and link did since they were lent.
  -- Shown by: program_tests serve.rt: two_workers_serve_the_first_run; delivers_by_its_own_link.edit.
  pub record HasDone (n : ℕ) (lent now : Outside) (sessions : List (Session I O Turn)) (turns : List Turn) : Type 0 where
    pub acts : List Act
    pub happens : Happens n (begun first_tables) (map turn_of turns) acts
    pub jobs : Jobs (map turn_of turns) n acts sessions
    pub goes : Goes acts lent now

-- What a worker did, by what its streams, its clock and its link show.
-- Shown by: program_tests serve.rt: two_workers_serve_the_first_run.
abbrev pub did_by : {L C I O : Type 0} → (I → List (List ℕ)) → (O → List ℕ) → (C → List ℕ) → (L → List Exchange) → (L → ℕ) → ℕ → L × C → L × C
    → List (Session I O Turn) → List Turn → Type 0
did_by gave wrote readings exchanges faults n lent now =
    HasDone gave wrote n (outside_of readings exchanges faults lent) (outside_of readings exchanges faults now)

-- none of a pass's turns among code turns, as contracts see them
pub none_seen : (n : ℕ) (turns : List Turn) → book.turns_by maker n turns ≡ [] → turns_by n (map turn_of turns) ≡ []
none_seen n turns none = own n turns ∙ ap (map turn_of) none where
  own : (n : ℕ) (ts : List Turn) → turns_by n (map turn_of ts) ≡ map turn_of (book.turns_by maker n ts)
  own n [] = refl
  own n (t ∷ ts) =
      elim (is_number t.pass n) as (λ b. cond b (turn_of t ∷ turns_by n (map turn_of ts)) (turns_by n (map turn_of ts))
      ≡ map turn_of (cond b (t ∷ book.turns_by maker n ts) (book.turns_by maker n ts))) [
        | true ↦ ap (λ (us : List history.Turn). turn_of t ∷ us) (own n ts)
        | false ↦ own n ts
      ]

-- turns of others come last
pub happens_then : (n : ℕ) (s : State) (xs ys : List history.Turn) (acts : List Act) → turns_by n ys ≡ [] → Happens n s xs acts → Happens n s (xs ++ ys) acts
happens_then n s xs ys [] none h = filter-append (λ (t : history.Turn). is_number t.pass n) xs ys ∙ ap (λ (l : List history.Turn). l ++ turns_by n ys) h ∙ none
happens_then n s xs ys (makes p ∷ acts) none (others, rest, is, other, pass, before, known, h) = (
  others,
  rest ++ ys,
  ap (λ (ts : List history.Turn). ts ++ ys) is ∙ append_assoc others (p.turn ∷ rest) ys,
  other,
  pass,
  before,
  known,
  happens_then n (history.after_turn p.turn p.before) rest ys acts none h,
)
happens_then n s xs ys (looks state ∷ acts) none (others, rest, is, other, shows, h) =
    (others, rest ++ ys, ap (λ (ts : List history.Turn). ts ++ ys) is ∙ append_assoc others rest ys, other, shows, happens_then n state rest ys acts none h)
happens_then n s xs ys (reads piece ∷ acts) none h = happens_then n s xs ys acts none h
happens_then n s xs ys (ticks reading ∷ acts) none h = happens_then n s xs ys acts none h
happens_then n s xs ys (tries claim outcome ∷ acts) none h = happens_then n s xs ys acts none h
happens_then n s xs ys (writes bytes ∷ acts) none h = happens_then n s xs ys acts none h

-- a longer history
abbrev longer_still : {X : Type 0} (xs ys zs : List X) → IsPrefix xs ys → IsPrefix ys zs → IsPrefix xs zs
longer_still xs ys zs (more, one) (rest, two) = (more ++ rest, sym (append_assoc xs more rest) ∙ ap (λ l. l ++ rest) one ∙ two)

module _ {I O : Type 0} (gave : I → List (List ℕ)) (wrote : O → List ℕ) where
  pub jobs_later : (seen turns : List history.Turn) (n : ℕ) (acts : List Act) (sessions : List (Session I O Turn)) → IsPrefix seen turns
      → Jobs gave wrote seen n acts sessions → Jobs gave wrote turns n acts sessions
  jobs_later seen turns n _ _ more nothing = nothing
  jobs_later seen turns n _ _ more (serves acts job sessions s jobs is) = serves acts job sessions s (jobs_later seen turns n acts sessions more jobs) record {
    pass_is = is.pass_is;
    end = is.end;
    cut_is = is.cut_is;
    ended = is.ended;
    turns = is.turns;
    real = longer_still is.turns seen turns is.real more;
    readings = is.readings;
    readings_new = is.readings_new;
    answered = is.answered;
    answered_new = is.answered_new;
    faults = is.faults;
    faults_new = is.faults_new;
    does = is.does;
  }
  jobs_later seen turns n _ _ more (steps acts job sessions budget turned stop jobs is named) =
      steps acts job sessions budget turned stop (jobs_later seen turns n acts sessions more jobs) is named
  jobs_later seen turns n _ _ more (repeats acts job sessions budget result jobs is named) =
      repeats acts job sessions budget result (jobs_later seen turns n acts sessions more jobs) is named
  jobs_later seen turns n _ _ more (looks_on acts sessions s jobs) = looks_on acts sessions s (jobs_later seen turns n acts sessions more jobs)
  jobs_later seen turns n _ _ more (reads_clock acts sessions reading jobs) = reads_clock acts sessions reading (jobs_later seen turns n acts sessions more jobs)

left_out : {X : Type 0} (xs ys : List X) → xs ++ ys ≡ xs → ys ≡ []
left_out xs ys e = append_cancel_left xs ys [] (e ∙ sym (append-nil xs))

module _ {I O : Type 0} (gave : I → List (List ℕ)) (wrote : O → List ℕ) where
  -- for private clauses: whatever a worker had done, it then has served this session too
  abbrev pub ServesOne : ℕ → Session I O Turn → Outside → Outside → List Turn → List Turn → Type 0
  ServesOne n s was now seen turns = (lent : Outside) (sessions : List (Session I O Turn)) → HasDone gave wrote n lent was sessions seen
      → HasDone gave wrote n lent now (sessions ++ s ∷ []) turns

  -- for private clauses: whatever a worker had done, it then has served no more sessions
  abbrev pub GoesOn : ℕ → Outside → Outside → List Turn → List Turn → Type 0
  GoesOn n was now seen turns = (lent : Outside) (sessions : List (Session I O Turn)) → HasDone gave wrote n lent was sessions seen
      → HasDone gave wrote n lent now sessions turns

  -- a pass that made no turn did nothing
  pub done_none : (n : ℕ) (lent : Outside) (turns : List Turn) → book.turns_by maker n turns ≡ [] → HasDone gave wrote n lent lent [] turns
  done_none n lent turns none = record {
    acts = [];
    happens = none_seen n turns none;
    jobs = nothing;
    goes = record { readings = sym (append-nil lent.readings); answers = []; answered = sym (append-nil lent.answered); tried = (refl, refl) };
  }

  -- a longer history without more turns of the pass
  pub done_later : (n : ℕ) (lent now : Outside) (sessions : List (Session I O Turn)) (seen turns : List Turn) → IsPrefix seen turns
      → book.turns_by maker n turns ≡ book.turns_by maker n seen → HasDone gave wrote n lent now sessions seen → HasDone gave wrote n lent now sessions turns
  done_later n lent now sessions seen turns (more, is) same w = record {
    acts = w.acts;
    happens = subst (λ (ts : List history.Turn). Happens n (begun first_tables) ts w.acts) (sym (map-append turn_of seen more) ∙ ap (map turn_of) is)
        (happens_then n (begun first_tables) (map turn_of seen) (map turn_of more) w.acts (none_seen n more no_more) w.happens);
    jobs = jobs_later gave wrote (map turn_of seen) (map turn_of turns) n w.acts sessions (map turn_of more, sym (map-append turn_of seen more) ∙ ap (map turn_of) is) w.jobs;
    goes = w.goes;
  } where
    no_more : book.turns_by maker n more ≡ []
    no_more = left_out (book.turns_by maker n seen) (book.turns_by maker n more)
        (sym (filter-append (λ (t : Turn). is_number t.pass n) seen more) ∙ ap (book.turns_by maker n) is ∙ same)
