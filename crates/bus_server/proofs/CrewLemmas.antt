-- From what the hall shows once it is closed to what the workers of a door did. Other files cite `caller_none`, `opens`.
use Rattle.std.proofs.Common.{◌≡◌, ◌≢◌, ℕ, zero, suc, ◌+◌, ◌<◌, ◌⊎◌, inl, inr, true, false, Bool, List, [], ◌∷◌, ◌++◌, length, map, Option, Some, None, refl, sym, ap, ◌∙◌, subst, arith, append_assoc}
use Rattle.std.proofs.lemmas.List.{map-append}
use Rattle.std.specs.Prelude.{◌==◌, All, Contains, IsSome}
use Rattle.std.specs.List.{AllPairs}
use Rattle.std.proofs.lemmas.Bool.{eq-eqb}
use Rattle.std.proofs.lemmas.List.Elements.{All-nil, All-cons, All-map, All-pop, All-contains}
use mathlib.Core.Logic.{dite}
use mathlib.Core.List.{IsPrefix}
use native.Mathlib.Decide.{dec_lt}
use Rattle.turn_book.specs.Rule.{is_number, Learns, IsUnmade}
use Rattle.turn_book.specs.Passes.{view}
use Rattle.turn_book.specs.Rule as book
use Rattle.turn_book.proofs.Steps.{of_images}
use Rattle.shared_door.specs.Shown.{Shown}
use Rattle.router_core.specs.Tables.{Tables, first_tables}
use Rattle.program_lines.specs.declared.status.Status.{Status}
use Rattle.program_lines.specs.declared.status.Status.TheVariants as statuses
use Rattle.door_workers.specs.declared.door.DoorEnd.{DoorEnd}
use Rattle.door_workers.specs.declared.door.DoorEnd.TheVariants as ends
use Rattle.door_workers.specs.Serving.{HasServed, Session, Worked, known_of, IsWorker, AreDone}
use Rattle.door_workers.proofs.ServingLemmas.{map_again}
use Rattle.router_history.specs.declared.book.Machine.{Machine}
use Rattle.router_history.specs.declared.history.Turn.{Turn}
use Rattle.router_history.specs.History as history
use Rattle.router_history.specs.History.{State, begun, state_of, after_turn, turns_by, claims_of, IsLegal, AreTurnsFrom}
use Rattle.router_history.specs.Book.{turn_of, turns_of, recorded_in, IsBook, IsSoundMachine, Rests}
use Rattle.router_sessions.specs.Desk.{Known, seen_by, turns_seen, number_of}
use Rattle.router_history.specs.Visit.{OwesNothing, owes_later}
use Rattle.router_history.proofs.TurnLemmas.{first_other, none_of_mine}
use Rattle.router_sessions.proofs.DeskLemmas.{own_turns}
use Rattle.router_sessions.proofs.OwesLemmas.{owes_rests}
use Rattle.session_workers.specs.Jobs.{maker}
use Rattle.session_workers.proofs.ServedLemmas.{served_on}
use Rattle.bus_server.specs.Serve.{AtDoor, EndsServing, IsMadeBy, IsOpened}
use Rattle.bus_server.specs.Opened.{IsUnopened}
use Rattle.drill_run.proofs.OnePassLemmas.{has_pass, first_none, no_claims}

-- A pass with this number made no turn of these, or it is one of these numbers
abbrev IsKnown : List ℕ → List history.Turn → ℕ → Type 0
IsKnown numbers turns n = (turns_by n turns ≡ []) ⊎ Contains numbers n

made_by_one : (numbers : List ℕ) (pass : Option ℕ) → IsSome pass → ((n : ℕ) → (is_number pass n ≡ false) ⊎ Contains numbers n)
    → (n : ℕ) × (pass ≡ Some n) × Contains numbers n
made_by_one numbers None some known = absurd (cc (some))
made_by_one numbers (Some n) some known = elim (known n) [
  | inl other ↦ let mine : (n == n) ≡ true = eq-eqb n n refl in let no : (n == n) ≡ false = other in absurd (cc (mine, no))
  | inr there ↦ (n, refl, there)
]

-- each turn after the first is made by a pass that made turns
all_made : (numbers : List ℕ) (s : State) (turns : List history.Turn) → AreTurnsFrom s turns → ((n : ℕ) → IsKnown numbers turns n) → All (IsMadeBy numbers) turns
all_made numbers s [] legal known = All-nil (IsMadeBy numbers)
all_made numbers s (t ∷ ts) legal known =
    All-cons (IsMadeBy numbers) t ts (made_by_one numbers t.pass (has_pass s t t.ask legal.0.made_for) (λ n. elim (known n) [
      | inl none ↦ inl (first_other n t ts none).0
      | inr there ↦ inr there
    ]))
    (all_made numbers (after_turn t s) ts legal.1 (λ n. elim (known n) [
      | inl none ↦ inl (first_other n t ts none).1
      | inr there ↦ inr there
    ]))

made_later : (numbers : List ℕ) (start : history.Turn) (turns later : List history.Turn) → IsBook turns → turns ≡ start ∷ later → ((n : ℕ) → IsKnown numbers turns n)
    → All (IsMadeBy numbers) later
made_later numbers start turns later h opened known =
    all_made numbers (after_turn start (begun first_tables)) later (subst IsLegal opened h.legal).1 (λ n. elim (known n) [
      | inl none ↦ inl (first_none n start later (subst (λ (ts : List history.Turn). turns_by n ts ≡ []) opened none))
      | inr there ↦ inr there
    ])

-- no claim is open, if each pass that made turns has none
none_left : (numbers : List ℕ) (turns : List history.Turn) → ((n : ℕ) → IsKnown numbers turns n) → All (λ n. Rests n turns) numbers
    → (state_of turns).open_claims ≡ []
none_left numbers turns known rests = no_claims (state_of turns).open_claims each
  where
    each : (n : ℕ) → claims_of n (state_of turns).open_claims ≡ []
    each n = elim (known n) [
      | inl none ↦ none_of_mine n turns (begun first_tables) none refl
      | inr there ↦ All-contains (λ n. Rests n turns) numbers n rests there
    ]

-- the pass that opened the hall made no turn
pub caller_none : {V : Type 0} (start : history.Turn) (old new : Known V) (turns : List Turn) → number_of old ≡ 0 → number_of new ≡ number_of old → turns_seen old ≡ start ∷ [] → turns_by 0 (start ∷ []) ≡ []
    → Learns maker (view old) (seen_by new) → Learns maker (view new) turns → turns_by 0 (map turn_of turns) ≡ []
caller_none start old new turns first same opened none one two =
    let later : book.turns_by maker 0 turns ≡ book.turns_by maker 0 (seen_by new) =
    subst (λ (k : ℕ). book.turns_by maker k turns ≡ book.turns_by maker k (seen_by new)) (same ∙ first) two.1 in
    let before : book.turns_by maker 0 (seen_by new) ≡ book.turns_by maker 0 (seen_by old) =
    subst (λ (k : ℕ). book.turns_by maker k (seen_by new) ≡ book.turns_by maker k (seen_by old)) first one.1 in
    own_turns 0 turns ∙ ap (map turn_of) (later ∙ before) ∙ sym (own_turns 0 (seen_by old)) ∙ ap (turns_by 0) opened ∙ none

-- what the pass saw first, with later turns
pub begins_with : {V : Type 0} (start : history.Turn) (old new : Known V) (turns : List Turn) → turns_seen old ≡ start ∷ [] → IsPrefix (seen_by old) (seen_by new) → IsPrefix (seen_by new) turns
    → (later : List history.Turn) × (map turn_of turns ≡ start ∷ later)
begins_with start old new turns opened (xs, one) (ys, two) =
    let whole : turns ≡ seen_by old ++ (xs ++ ys) = sym two ∙ ap (λ (ts : List Turn). ts ++ ys) (sym one) ∙ append_assoc (seen_by old) xs ys in (
      map turn_of (xs ++ ys),
      ap (map turn_of) whole ∙ map-append turn_of (seen_by old) (xs ++ ys) ∙ ap (λ (ts : List history.Turn). ts ++ map turn_of (xs ++ ys)) opened,
    )

-- what a pass had seen is the first part of the history, and the rest has no turn of it
abbrev pub Learned : List Turn → ℕ × List Turn → Type 0
Learned turns p = IsPrefix p.1 turns × (book.turns_by maker p.0 turns ≡ book.turns_by maker p.0 p.1)

module _ {D Own I O : Type 0} (show : D → Shown I O) (fits : ℕ → I × O → I × O → Bool → List Turn → List Turn → Type 0)
    (did : ℕ → Own → Own → List (Session I O Turn) → List Turn → Type 0) (start : history.Turn) (Keeps : List history.Turn → Type 0)
    (fits_last : (n : ℕ) (came went : I × O) (cut : Bool) (before turns more : List Turn) → fits n came went cut before turns
    → fits n came went cut before (turns ++ more))
    (did_lasts : (n : ℕ) (lent now : Own) (sessions : List (Session I O Turn)) (seen turns : List Turn) → IsPrefix seen turns
    → book.turns_by maker n turns ≡ book.turns_by maker n seen → did n lent now sessions seen → did n lent now sessions turns) where
  -- a worker, whose pass has seen these turns
  abbrev at_end : List Turn → Worked I O Turn Own → Worked I O Turn Own
  at_end turns w = record w { seen = turns }

  -- what is known once the door was served and the hall closed: what the passes had seen is in the history, and there are no other turns
  pub record IsClosed (connections : Option ℕ) (old new : AtDoor D Own) (end : DoorEnd) (passes : List (ℕ × List Turn)) (turns : List Turn) : Type 0 where
    pub seen : List Turn
    pub served : HasServed connections (show old.door) (show new.door) fits seen end
    pub done : AreDone did served.acts maker 1 old.owns new.owns passes
    pub longer : IsPrefix seen turns
    pub begins : (later : List history.Turn) × (map turn_of turns ≡ start ∷ later)
    pub caller : turns_by 0 (map turn_of turns) ≡ []
    pub learned : All (Learned turns) passes
    pub owes : All (λ p. OwesNothing p.0 p.1) passes
    pub unmade : IsUnmade maker (1 + length passes) turns

  opened : (connections : Option ℕ) (old new : AtDoor D Own) (end : DoorEnd) (passes : List (ℕ × List Turn)) (b : Machine) (status : Status)
      → IsClosed connections old new end passes (recorded_in b.history) → IsSoundMachine b → Keeps (turns_of b)
      → EndsServing (state_of (turns_of b)).broken end b.tables old.written new.written status
      → IsOpened show fits did start Keeps connections old new status
  opened connections old new end passes b status c is kept ends = record {
    turns = turns;
    book = is.book;
    later = c.begins.0;
    opened = c.begins.1;
    kept = kept;
    end = end;
    served = served_on show fits fits_last connections old.door new.door c.seen turns end c.served c.longer;
    crew = map (at_end turns) c.done.crew;
    lent_are = map_again (at_end turns) (λ w. w.lent) c.done.crew ∙ c.done.lent_are;
    owns_are = map_again (at_end turns) (λ w. w.now) c.done.crew ∙ c.done.owns_are;
    distinct = subst (AllPairs (λ n m. n ≢ m)) (sym same_numbers) c.done.distinct;
    each = All-map (λ w. IsWorker did c.served.acts w × (w.seen ≡ turns)) (at_end turns) c.done.crew (λ k d below. let w = c.done.each k d below in (
      record { among = w.among; did_so = did_lasts _ _ _ _ _ turns (learned k d below).0 (learned k d below).1 w.did_so },
      refl,
    ));
    makers = subst (λ (ns : List ℕ). All (IsMadeBy ns) c.begins.0) (sym same_numbers) (made_later numbers start (map turn_of turns) c.begins.0 is.book c.begins.1 known);
    none_open = none_left numbers (map turn_of turns) known
        (All-map (λ n. Rests n (map turn_of turns)) (λ w. w.number) c.done.crew (λ k d below.
        owes_rests _ turns (owes_later _ _ turns (learned k d below).0 (learned k d below).1 (owes k d below))));
    ends = subst (λ (t : Tables). EndsServing (state_of (turns_of b)).broken end t old.written new.written status) (sym is.tables) ends;
  } where
    turns : List Turn
    turns = recorded_in b.history

    numbers : List ℕ
    numbers = map (λ w. w.number) c.done.crew

    same_numbers : map (λ w. w.number) (map (at_end turns) c.done.crew) ≡ numbers
    same_numbers = map_again (at_end turns) (λ w. w.number) c.done.crew

    learned : All (λ w. Learned turns (known_of w)) c.done.crew
    learned = of_images (Learned turns) known_of c.done.crew (c.done.porch ∷ []) (subst (All (Learned turns)) c.done.passes_are c.learned)

    owes : All (λ w. OwesNothing w.number w.seen) c.done.crew
    owes = of_images (λ p. OwesNothing p.0 p.1) known_of c.done.crew (c.done.porch ∷ []) (subst (All (λ p. OwesNothing p.0 p.1)) c.done.passes_are c.owes)

    porch : Learned turns c.done.porch
    porch = (All-pop (Learned turns) passes (map known_of c.done.crew) (Some c.done.porch) c.done.passes_are c.learned).1

    none : (n : ℕ) → book.turns_by maker n turns ≡ [] → IsKnown numbers (map turn_of turns) n
    none n empty = inl (own_turns n turns ∙ ap (map turn_of) empty)

    known : (n : ℕ) → IsKnown numbers (map turn_of turns) n
    known zero = inl c.caller
    known (suc n) = dite (dec_lt (suc n) (1 + length passes))
        (λ (lt : suc n < 1 + length passes). elim (c.done.numbers (suc n) (omega arith) lt) [
          | inl is ↦ none (suc n) (subst (λ (k : ℕ). book.turns_by maker k turns ≡ []) (sym is) (porch.1 ∙ c.done.unturned))
          | inr there ↦ inr there
        ])
        (λ (not : ¬ (suc n < 1 + length passes)). none (suc n) (c.unmade (suc n) (omega (arith, not))))

  -- the door was served, or there was no memory for its workers
  pub opens : {Count : Type 0} (connections : Option ℕ) (old new : AtDoor D Own) (end : DoorEnd) (passes : List (ℕ × List Turn)) (b : Machine) (status : Status)
      → (end ≢ ends.NoMemory → IsClosed connections old new end passes (recorded_in b.history))
      → (end ≡ ends.NoMemory → (new.door ≡ old.door) × (new.owns ≡ old.owns)) → Count → IsSoundMachine b → Keeps (turns_of b)
      → (end ≡ ends.NoMemory → Keeps (start ∷ []))
      → (end ≢ ends.NoMemory → EndsServing (state_of (turns_of b)).broken end b.tables old.written new.written status)
      → (end ≡ ends.NoMemory → (status ≡ statuses.NoMemory) × (new.written ≡ old.written))
      → (Count × IsOpened show fits did start Keeps connections old new status) ⊎ (IsUnopened old new status × Keeps (start ∷ []))
  opens {Count} connections old new ends.Done passes b status closed same count is kept first ended none =
      inl (count, opened connections old new ends.Done passes b status (closed (λ e. cc)) is kept (ended (λ e. cc)))
  opens {Count} connections old new ends.DoorFault passes b status closed same count is kept first ended none =
      inl (count, opened connections old new ends.DoorFault passes b status (closed (λ e. cc)) is kept (ended (λ e. cc)))
  opens {Count} connections old new ends.Stopped passes b status closed same count is kept first ended none =
      inl (count, opened connections old new ends.Stopped passes b status (closed (λ e. cc)) is kept (ended (λ e. cc)))
  opens {Count} connections old new ends.NoMemory passes b status closed same count is kept first ended none =
      inr (record { same_door = (same refl).0; same_owns = (same refl).1; unwritten = (none refl).1; no_memory = (none refl).0 }, first refl)
