-- What a program printed that served a door without connections. Answers cite `printed_by`.
use Rattle.std.proofs.Common.{◌≡◌, ℕ, ◌<◌, ◌⊎◌, inl, inr, Bool, true, false, List, [], ◌∷◌, ◌++◌, map, get_or, Option, Some, None, refl, sym, ap, ◌∙◌, subst, arith, append_assoc}
use Rattle.std.specs.Prelude.{◌==◌, All, Contains, is_some}
use Rattle.std.proofs.lemmas.Bool.{eq-eqb}
use Rattle.std.proofs.lemmas.List.Elements.{All-nil, All-cons, All-head, All-tail, All-append, All-push, All-map, All-contains}
use Rattle.turn_book.specs.Rule.{is_number}
use Rattle.router_disk.specs.Link.{Exchange}
use Rattle.bus_host.specs.Doors.{ShorterBy}
use Rattle.program_lines.specs.declared.status.Status.{Status}
use Rattle.program_lines.specs.declared.status.Status.TheVariants as statuses
use Rattle.program_lines.specs.Printed.{listening_text, summary_lines}
use Rattle.shared_door.specs.Shown.{Shown}
use Rattle.shared_door.specs.declared.acts.Act.{Act as DoorAct}
use Rattle.shared_door.specs.declared.acts.Visit.{Visit}
use Rattle.shared_door.specs.declared.acts.Arrival.{Arrival}
use Rattle.shared_door.specs.Tickets.{IsPlace}
use Rattle.shared_door.specs.Acts.{arrivals_of, visits_of, numbered_of}
use Rattle.door_workers.specs.declared.door.DoorEnd.{DoorEnd}
use Rattle.door_workers.specs.declared.door.DoorEnd.TheVariants.{Done, DoorFault, Stopped, NoMemory}
use Rattle.door_workers.specs.Serving.{Session, Worked, IsWorker, session_of, IsAmong}
use Rattle.router_core.specs.Tables.{first_tables}
use Rattle.courier_run.specs.Act.{reads, ticks, looks, makes, tries, writes}
use Rattle.router_history.specs.declared.history.Turn as code
use Rattle.router_history.specs.History.{Turn, Ask, State, opens, asked, claims, records, puts_back, repeats, breaks, begun, state_of, after_turn, turns_by, IsLegal, IsTurnFor, AreTurnsFrom}
use Rattle.router_history.specs.Book.{opening, IsBook, turn_of}
use Rattle.tables_summary.specs.Summary.{summary_of}
use Rattle.router_history.specs.Acts.{Act, Happens, IsNamed}
use Rattle.router_history.proofs.TurnLemmas.{first_other}
use Rattle.session_workers.specs.Jobs as jobs
use Rattle.session_workers.specs.Jobs.{Jobs, nothing, serves, steps, looks_on, reads_clock, did_by}
use Rattle.bus_server.specs.Serve.{AroundDoor, AtDoor, EndsServing, IsMadeBy, IsOpened, IsServe, IsUnbroken}
use Rattle.program_tests.specs.Printed.{zeros, PrintsZeros}

-- before any duty was made, only a turn for a request can be made, and that names a connection
no_turn : (turn : Turn) (ask : Ask) → turn.connection ≡ None → IsTurnFor (begun first_tables) turn ask → ⊥
no_turn turn (opens start found disk) none h = h
no_turn turn (asked request) none h = let both : true ≡ false = sym h.1 ∙ ap is_some none in cc
no_turn turn (claims c) none h = cc h.there
no_turn turn (records a) none h = cc h.ends.own
no_turn turn (puts_back c why) none h = cc h.1.own
no_turn turn (repeats reading) none h = cc h.step.next.first
no_turn turn (breaks unsure) none h = cc h.journal

none_follows : (turns : List Turn) → All (λ t. t.connection ≡ None) turns → AreTurnsFrom (begun first_tables) turns → turns ≡ []
none_follows [] all legal = refl
none_follows (turn ∷ turns) all legal = absurd (no_turn turn turn.ask (All-head (λ (t : Turn). t.connection ≡ None) turn turns all) legal.0.made_for)

summed : (turns later : List Turn) → IsBook turns → turns ≡ opening ∷ later → All (λ t. t.connection ≡ None) later → summary_of (state_of turns).tables ≡ zeros
summed turns later h opened all =
    let legal = subst IsLegal opened h.legal in
    ap (λ (ts : List Turn). summary_of (state_of ts).tables) (opened ∙ ap (λ (ts : List Turn). opening ∷ ts) (none_follows later all legal.1))

-- A pass's turns that its acts name without a connection

-- the turns of a pass name none
abbrev AreUnnamed : ℕ → List Turn → Type 0
AreUnnamed n turns = All (λ t. t.pass ≡ Some n → t.connection ≡ None) turns

none_by : (n : ℕ) (turns : List Turn) → turns_by n turns ≡ [] → AreUnnamed n turns
none_by n [] none = All-nil (λ (t : Turn). t.pass ≡ Some n → t.connection ≡ None)
none_by n (t ∷ ts) none =
    All-cons (λ (t : Turn). t.pass ≡ Some n → t.connection ≡ None) t ts (λ is.
    let other : is_number t.pass n ≡ false = (first_other n t ts none).0 in
    let mine : is_number t.pass n ≡ true = ap (λ (p : Option ℕ). is_number p n) is ∙ eq-eqb n n refl in
    absurd (cc (mine, other)))
    (none_by n ts (first_other n t ts none).1)

unnamed : (n : ℕ) (s : State) (turns : List Turn) (acts : List Act) → Happens n s turns acts → All (IsNamed None) acts → AreUnnamed n turns
unnamed n s turns [] h all = none_by n turns h
unnamed n s turns (makes p ∷ acts) (others, rest, is, other, pass, before, known, h) all =
    subst (AreUnnamed n) (sym is)
    (All-append (λ (t : Turn). t.pass ≡ Some n → t.connection ≡ None) others (p.turn ∷ rest) (none_by n others other)
    (All-cons (λ (t : Turn). t.pass ≡ Some n → t.connection ≡ None) p.turn rest (λ _. All-head (IsNamed None) (makes p) acts all)
    (unnamed n (after_turn p.turn p.before) rest acts h (All-tail (IsNamed None) (makes p) acts all))))
unnamed n s turns (looks state ∷ acts) (others, rest, is, other, shows, h) all =
    subst (AreUnnamed n) (sym is)
    (All-append (λ (t : Turn). t.pass ≡ Some n → t.connection ≡ None) others rest (none_by n others other)
    (unnamed n state rest acts h (All-tail (IsNamed None) (looks state) acts all)))
unnamed n s turns (reads piece ∷ acts) h all = unnamed n s turns acts h (All-tail (IsNamed None) (reads piece) acts all)
unnamed n s turns (ticks reading ∷ acts) h all = unnamed n s turns acts h (All-tail (IsNamed None) (ticks reading) acts all)
unnamed n s turns (tries claim outcome ∷ acts) h all = unnamed n s turns acts h (All-tail (IsNamed None) (tries claim outcome) acts all)
unnamed n s turns (writes bytes ∷ acts) h all = unnamed n s turns acts h (All-tail (IsNamed None) (writes bytes) acts all)

one_more : {A : Type 0} (xs : List A) (x : A) → xs ++ x ∷ [] ≡ [] → ⊥
one_more [] x is = cc (is)
one_more (y ∷ ys) x is = cc (is)

-- a worker that served no session did nothing for a connection
quiet : {I O : Type 0} (gave : I → List (List ℕ)) (wrote : O → List ℕ) (history : List Turn) (n : ℕ) (acts : List Act)
    (sessions : List (Session I O code.Turn)) → Jobs gave wrote history n acts sessions → sessions ≡ [] → All (IsNamed None) acts
quiet gave wrote history n _ _ nothing none = All-nil (IsNamed None)
quiet gave wrote history n _ _ (serves acts job sessions s jobs is) none = absurd (one_more sessions s none)
quiet gave wrote history n _ _ (steps acts job sessions budget turned stop jobs is named) none =
    All-append (IsNamed None) acts job (quiet gave wrote history n acts sessions jobs none) named
quiet gave wrote history n _ _ (jobs.repeats acts job sessions budget result before is named) none =
    All-append (IsNamed None) acts job (quiet gave wrote history n acts sessions before none) named
quiet gave wrote history n _ _ (looks_on acts sessions s jobs) none = All-push (IsNamed None) acts (looks s) (quiet gave wrote history n acts sessions jobs none) tt
quiet gave wrote history n _ _ (reads_clock acts sessions reading jobs) none =
    All-push (IsNamed None) acts (ticks reading) (quiet gave wrote history n acts sessions jobs none) tt

-- each turn is made by one of these passes, whose turns name no connection
all_unnamed : (numbers : List ℕ) (turns : List Turn) → All (IsMadeBy numbers) turns → All (λ n. AreUnnamed n turns) numbers → All (λ t. t.connection ≡ None) turns
all_unnamed numbers turns made all = λ k d below.
    let (n, pass, there) = made k d below in All-contains (λ n. AreUnnamed n turns) numbers n all there k d below pass

-- A door without connections

no_image : {A B : Type 0} (f : A → B) (xs : List A) → map f xs ≡ [] → xs ≡ []
no_image f [] none = refl
no_image f (x ∷ xs) none = cc (none)

empty_front : {A : Type 0} (xs ys : List A) → [] ≡ xs ++ ys → xs ≡ []
empty_front [] ys is = refl
empty_front (x ∷ xs) ys is = cc (is)

none_taken : {A : Type 0} (old new : Option (List A)) (taken : List A) → old ≡ Some [] → ShorterBy old new taken → taken ≡ []
none_taken None new taken is h = cc (is)
none_taken (Some old) None taken is h = absurd h
none_taken (Some old) (Some new) taken is h = let none : old ≡ [] = cc (is) in empty_front taken new (sym none ∙ h)

module _ {I O T : Type 0} where
  no_visits : (arrivals : List (Arrival I O T)) (visits : List (Visit I O T)) → arrivals ≡ [] → All (IsPlace arrivals) (map numbered_of visits) → visits ≡ []
  no_visits arrivals [] none all = refl
  no_visits arrivals (v ∷ vs) none all =
      let at : IsPlace [] (numbered_of v) = subst (λ (given : List (Arrival I O T)). IsPlace given (numbered_of v)) none
      (All-head (IsPlace arrivals) (numbered_of v) (map numbered_of vs) all) in
      absurd (cc (at.1))

no_member : {A : Type 0} (x : A) → Contains [] x → ⊥
no_member x there = let below = there.1 in omega arith

module _ {I O : Type 0} where
  no_sessions : (acts : List (DoorAct I O code.Turn)) (sessions : List (Session I O code.Turn)) → visits_of acts ≡ [] → All (IsAmong acts) sessions → sessions ≡ []
  no_sessions acts [] none all = refl
  no_sessions acts (s ∷ ss) none all =
      absurd (no_member s (subst (λ (l : List (Session I O code.Turn)). Contains l s) (ap (map session_of) none) (All-head (IsAmong acts) s ss all)))

module _ {D L C I O : Type 0} (show : D → Shown I O) (fits : ℕ → I × O → I × O → Bool → List code.Turn → List code.Turn → Type 0)
    (gave : I → List (List ℕ)) (wrote : O → List ℕ) (readings : C → List ℕ) (exchanges : L → List Exchange) (faults : L → ℕ) where
  -- no turn serves a connection
  no_request : (connections : Option ℕ) (old new : AtDoor D (L × C)) (status : Status)
      (x : IsOpened show fits (did_by gave wrote readings exchanges faults) opening IsUnbroken connections old new status) → (show old.door).ahead ≡ Some []
      → All (λ t. t.connection ≡ None) x.later
  no_request connections old new status x closed =
      all_unnamed (map (λ w. w.number) x.crew) x.later x.makers
      (All-map (λ n. AreUnnamed n x.later) (λ w. w.number) x.crew (λ k d below. each (get_or x.crew k d) (x.each k d below)))
    where
      visits : visits_of x.served.acts ≡ []
      visits = no_visits (arrivals_of x.served.acts) (visits_of x.served.acts)
          (no_image (λ a. a.came.value) (arrivals_of x.served.acts)
          (none_taken (show old.door).ahead (show new.door).ahead _ closed x.served.gave.ahead_is.in_order)) x.served.visited.places

      each : (w : Worked I O code.Turn (L × C)) → IsWorker (did_by gave wrote readings exchanges faults) x.served.acts w × (w.seen ≡ x.turns)
          → AreUnnamed w.number x.later
      each w (is, seen) =
          let none : w.sessions ≡ [] = no_sessions x.served.acts w.sessions visits is.among in
          All-tail (λ (t : Turn). t.pass ≡ Some w.number → t.connection ≡ None) opening x.later
          (subst (AreUnnamed w.number) (ap (map turn_of) seen ∙ x.opened)
          (unnamed w.number (begun first_tables) (map turn_of w.seen) is.did_so.acts is.did_so.happens
          (quiet gave wrote (map turn_of w.seen) w.number is.did_so.acts w.sessions is.did_so.jobs none)))

  printed : (port : ℕ) (connections : Option ℕ) (before : List ℕ) (old new : AtDoor D (L × C)) (status : Status)
      (x : IsOpened show fits (did_by gave wrote readings exchanges faults) opening IsUnbroken connections old new status) → old.written ≡ before ++ listening_text port
      → (show old.door).ahead ≡ Some [] → status ≡ statuses.Done → PrintsZeros port before new.written
  printed port connections before old new status x listening closed done = ended (state_of (map turn_of x.turns)).broken x.end x.ends
    where
      ended : (broken : Bool) (end : DoorEnd) → EndsServing broken end (state_of (map turn_of x.turns)).tables old.written new.written status → PrintsZeros port before new.written
      ended true end y = absurd (cc (y.0, done))
      ended false Done (inl y) = y.1 ∙ ap (λ (w : List ℕ). w ++ summary_lines (summary_of (state_of (map turn_of x.turns)).tables)) listening
          ∙ append_assoc before (listening_text port) (summary_lines (summary_of (state_of (map turn_of x.turns)).tables))
          ∙ ap (λ s. before ++ (listening_text port ++ summary_lines s)) (summed (map turn_of x.turns) x.later x.book x.opened (no_request connections old new status x closed))
      ended false Done (inr (inl y)) = absurd (cc (y.0, done))
      ended false Done (inr (inr y)) = absurd (cc (y.0, done))
      ended false DoorFault y = absurd (cc (y.0, done))
      ended false Stopped y = absurd y
      ended false NoMemory y = absurd y

  pub printed_by : (port workers : ℕ) (connections : Option ℕ) (old new : AroundDoor D L C) (status : Status)
      → IsServe show fits (did_by gave wrote readings exchanges faults) port workers connections old new status
      → All (λ d. (show d.1).ahead ≡ Some []) new.doors → status ≡ statuses.Done → PrintsZeros port old.written new.written
  printed_by port workers connections old new status (inr (x, kept)) closed done = elim x.cause [
    | inl y ↦ absurd (cc (y.0, done))
    | inr (inl y) ↦ absurd (cc (y.0, done))
    | inr (inr y) ↦ absurd (cc (y.0, done))
  ]
  printed_by port workers connections old new status (inl x) closed done =
      printed port connections old.written _ _ status x.opened refl
      (last_of (λ d. (show d.1).ahead ≡ Some []) old.doors (port, x.lent) (subst (All (λ d. (show d.1).ahead ≡ Some [])) x.doors closed)) done
    where
      last_of : {A : Type 0} (P : A → Type 0) (xs : List A) (x : A) → All P (xs ++ x ∷ []) → P x
      last_of P [] x all = All-head P x [] all
      last_of P (y ∷ ys) x all = last_of P ys x (All-tail P y (ys ++ x ∷ []) all)
