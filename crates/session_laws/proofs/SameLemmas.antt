-- Acts of two passes, each alone with its history. Other files cite `after_acts`, `after_append`, `RunsAct`, `runs_of`, `turn_same`, `Same`, `same_append`,
-- `read_append`, `Side`, `Given`, `given_other`, `given_front` and `given_rest`.
use Rattle.std.proofs.Common.{◌≡◌, ℕ, ◌+◌, ◌≤◌, true, cond, List, [], ◌∷◌, ◌++◌, length, Option, Some, None, refl, sym, ap, ◌∙◌, subst, append-nil}
use Rattle.std.specs.Prelude.{All, flat_map}
use Rattle.std.specs.List.{concat}
use Rattle.std.proofs.lemmas.Bool.{eq-eqb}
use Rattle.std.proofs.lemmas.List.Concat.{flat_map-append, concat_is}
use Rattle.std.proofs.lemmas.List.Elements.{All-head, All-tail, Contains-append_left, Contains-append_right}
use Rattle.turn_book.specs.Rule.{is_number}
use Rattle.delivery_duties.specs.declared.outcome.Outcome.{Outcome}
use Rattle.rule_table.specs.RuleSet.{RuleSet}
use Rattle.router_requests.specs.Batch.{Batch}
use Rattle.router_core.specs.Tables.{after_batch}
use Rattle.router_core.specs.Steps.{claiming, putting_back}
use Rattle.courier_run.specs.Claim.{NeedsSend}
use Rattle.courier_run.specs.Act.{looks, makes, readings_of, readings_in, tries_of, tries_in, bytes_of, pieces_of, pieces_in}
use Rattle.router_history.specs.History.{State, Turn, last_version, Ask, opens, asked, claims, records, puts_back, repeats, breaks, controls_in, after_change, after_ask, after_turn}
use Rattle.router_history.specs.History.{state_after, turns_by, IsTurnOf, AreTurnsFrom}
use Rattle.router_history.specs.Acts.{Act, Happens}
use Rattle.session_laws.specs.OneSession.{IsSameState, unnamed, unnamed_of, DoSame, Follows, IsClock, IsLink, IsAmple, read_in}

abbrev pub after_act : Act → State → State
after_act (makes p) s = after_turn p.turn s
after_act _ s = s

-- the state after acts of a pass that is alone
abbrev pub after_acts : List Act → State → State
after_acts [] s = s
after_acts (a ∷ xs) s = after_acts xs (after_act a s)

pub after_append : (xs ys : List Act) (s : State) → after_acts (xs ++ ys) s ≡ after_acts ys (after_acts xs s)
after_append [] ys s = refl
after_append (a ∷ xs) ys s = after_append xs ys (after_act a s)

abbrev pub RunsAct : State → Act → Type 0
RunsAct s (makes p) = (p.before ≡ s) × IsTurnOf s p.turn × (last_version s ≤ p.turn.k)
RunsAct s (looks state) = state ≡ s
RunsAct s _ = Unit {0}

-- acts of a pass that is alone: each turn may be made in the state that those before it left, and each look is at that state
abbrev pub Runs : State → List Act → Type 0
Runs s [] = Unit {0}
Runs s (a ∷ xs) = RunsAct s a × Runs (after_act a s) xs

runs_split : (s : State) (xs ys : List Act) → Runs s (xs ++ ys) → Runs s xs × Runs (after_acts xs s) ys
runs_split s [] ys runs = (tt, runs)
runs_split s (a ∷ xs) ys runs = let later = runs_split (after_act a s) xs ys runs.1 in ((runs.0, later.0), later.1)

-- the turns of a pass that is alone are its own
none_other : (n : ℕ) (turns rest : List Turn) → All (λ t. t.pass ≡ Some n) (turns ++ rest) → turns_by n turns ≡ [] → turns ≡ []
none_other n [] rest all is = refl
none_other n (t ∷ ts) rest all is =
    let own : t.pass ≡ Some n = All-head (λ (u : Turn). u.pass ≡ Some n) t (ts ++ rest) all in
    let own_too : is_number t.pass n ≡ true = ap (λ p. is_number p n) own ∙ eq-eqb n n refl in
    let first : t ∷ turns_by n ts ≡ [] = sym (ap (λ b. cond b (t ∷ turns_by n ts) (turns_by n ts)) own_too) ∙ is in
    cc

pub runs_of : (n : ℕ) (s : State) (added : List Turn) (acts : List Act) → All (λ t. t.pass ≡ Some n) added → AreTurnsFrom s added → Happens n s added acts
    → Runs s acts × (state_after added s ≡ after_acts acts s)
runs_of n s added [] all legal h =
    (tt, ap (λ ts. state_after ts s) (none_other n added [] (subst (All (λ (u : Turn). u.pass ≡ Some n)) (sym (append-nil added)) all) h))
runs_of n s added (makes p ∷ acts) all legal (others, rest, is, other, pass, before, known, h) =
    let none = none_other n others (p.turn ∷ rest) (subst (All (λ (u : Turn). u.pass ≡ Some n)) is all) other in
    let here : p.before ≡ s = before ∙ ap (λ ts. state_after ts s) none in
    let split : added ≡ p.turn ∷ rest = is ∙ ap (λ ts. ts ++ p.turn ∷ rest) none in
    let lawful = subst (AreTurnsFrom s) split legal in
    let more = runs_of n (after_turn p.turn s) rest acts
    (All-tail (λ (u : Turn). u.pass ≡ Some n) p.turn rest (subst (All (λ (u : Turn). u.pass ≡ Some n)) split all)) lawful.1
    (subst (λ z. Happens n (after_turn p.turn z) rest acts) here h) in
    (((here, lawful.0, known), more.0), ap (λ ts. state_after ts s) split ∙ more.1)
runs_of n s added (looks state ∷ acts) all legal (others, rest, is, other, shows, h) =
    let none = none_other n others rest (subst (All (λ (u : Turn). u.pass ≡ Some n)) is all) other in
    let here : state ≡ s = shows ∙ ap (λ ts. state_after ts s) none in
    let same : added ≡ rest = is ∙ ap (λ ts. ts ++ rest) none in
    let more = runs_of n s rest acts (subst (All (λ (u : Turn). u.pass ≡ Some n)) same all) (subst (AreTurnsFrom s) same legal)
    (subst (λ z. Happens n z rest acts) here h) in
    ((here, more.0), ap (λ ts. state_after ts s) same ∙ more.1)
runs_of n s added (act ∷ acts) all legal h = let more = runs_of n s added acts all legal h in ((tt, more.0), more.1)

changed_same : (b c : Option Batch) (s t : State) → c ≡ b → IsSameState s t → IsSameState (after_change b s) (after_change c t)
changed_same b c s t is same = subst (λ z. IsSameState (after_change b s) (after_change z t)) (sym is) (there b)
  where
    there : (e : Option Batch) → IsSameState (after_change e s) (after_change e t)
    there None = same
    there (Some e) = record { start = same.start; tables = ap (after_batch e) same.tables; controls = ap (λ z. z ++ controls_in e.entries) same.controls }

asked_same : (p q : Turn) (ask : Ask) (s t : State) → q.batch ≡ p.batch → IsSameState s t → IsSameState (after_ask p ask s) (after_ask q ask t)
asked_same p q (opens start found disk) s t batch same = record { start = refl; tables = refl; controls = refl }
asked_same p q (asked request) s t batch same = changed_same p.batch q.batch s t batch same
asked_same p q (claims c) s t batch same = record { start = same.start; tables = ap (claiming c.number) same.tables; controls = same.controls }
asked_same p q (records a) s t batch same =
    let changed = changed_same p.batch q.batch s t batch same in record { start = changed.start; tables = changed.tables; controls = changed.controls }
asked_same p q (puts_back c why) s t batch same = record { start = same.start; tables = ap (putting_back c.number) same.tables; controls = same.controls }
asked_same p q (repeats reading) s t batch same = changed_same p.batch q.batch s t batch same
asked_same p q (breaks unsure) s t batch same = record { start = same.start; tables = same.tables; controls = same.controls }

pub same_version : (s t : State) → IsSameState s t → last_version t ≡ last_version s
same_version s t same = ap (λ (set : RuleSet). set.count + length t.controls) same.start ∙ ap (λ cs. s.start.count + length cs) same.controls

-- two turns by the latest version that were made for the same, and wrote the same
pub turn_same : (p q : Turn) (s t : State) → q.ask ≡ p.ask → q.batch ≡ p.batch → p.k ≡ last_version s → q.k ≡ last_version t → IsSameState s t
    → IsSameState (after_turn p s) (after_turn q t) × (unnamed q ≡ unnamed p)
turn_same p q s t ask batch latest latest2 same =
    let k : q.k ≡ p.k = latest2 ∙ same_version s t same ∙ sym latest in (
      subst (λ z. IsSameState (after_ask p p.ask s) (after_ask q z t)) (sym ask) (asked_same p q p.ask s t batch same),
      λ i. record { pass = None; connection = None; ask = ask i; k = k i; batch = batch i },
    )

-- acts from two states that do the same outside, and to the tables
pub record Same (s t : State) (xs ys : List Act) : Type 0 where
  pub state : IsSameState (after_acts xs s) (after_acts ys t)
  pub does : DoSame xs ys

flat_same : {X : Type 0} (f : Act → List X) (xs ys vs ws : List Act) → flat_map f ys ≡ flat_map f xs → flat_map f ws ≡ flat_map f vs
    → flat_map f (ys ++ ws) ≡ flat_map f (xs ++ vs)
flat_same f xs ys vs ws first second =
    flat_map-append f ys ws ∙ ap (λ z. z ++ flat_map f ws) first ∙ ap (λ z. flat_map f xs ++ z) second ∙ sym (flat_map-append f xs vs)

pub same_append : (s t : State) (xs ys vs ws : List Act) → Same s t xs ys → Same (after_acts xs s) (after_acts ys t) vs ws → Same s t (xs ++ vs) (ys ++ ws)
same_append s t xs ys vs ws x y = record {
  state = subst (λ z. IsSameState z (after_acts (ys ++ ws) t)) (sym (after_append xs vs s))
      (subst (IsSameState (after_acts vs (after_acts xs s))) (sym (after_append ys ws t)) y.state);
  does = record {
    turns = flat_same unnamed_of xs ys vs ws x.does.turns y.does.turns;
    readings = flat_same readings_of xs ys vs ws x.does.readings y.does.readings;
    tries = flat_same tries_of xs ys vs ws x.does.tries y.does.tries;
    bytes = flat_same bytes_of xs ys vs ws x.does.bytes y.does.bytes;
  };
}

pub read_append : (xs ys : List Act) → read_in (xs ++ ys) ≡ read_in xs ++ read_in ys
read_append xs ys =
    ap concat (flat_map-append pieces_of xs ys) ∙ concat_is (pieces_in xs ++ pieces_in ys) ∙ flat_map-append (λ x. x) (pieces_in xs) (pieces_in ys)
    ∙ ap (λ x. x ++ flat_map (λ x. x) (pieces_in ys)) (sym (concat_is (pieces_in xs))) ∙ ap (λ x. read_in xs ++ x) (sym (concat_is (pieces_in ys)))

-- what comes of a clock or a link after as many readings or attempts as these
abbrev pub later : {X Y : Type 0} → List Y → (ℕ → X) → ℕ → X
later [] f = f
later (y ∷ ys) f = later ys (λ k. f (k + 1))

follows_split : {X Y : Type 0} (P : X → Y → Type 0) (f : ℕ → X) (xs vs : List Y) → Follows P f (xs ++ vs) → Follows P f xs × Follows P (later xs f) vs
follows_split P f [] vs is = (tt, is)
follows_split P f (x ∷ xs) vs is = let more = follows_split P (λ k. f (k + 1)) xs vs is.1 in ((is.0, more.0), more.1)

-- what is given of the acts of a session from a state, with this clock and this link
pub record Side (clock : ℕ → ℕ) (link : ℕ → Outcome) (s : State) (xs : List Act) : Type 0 where
  pub runs : Runs s xs
  pub readings : IsClock clock (readings_in xs)
  pub answers : IsLink link (tries_in xs)
  pub ample : IsAmple xs

side_split : (clock : ℕ → ℕ) (link : ℕ → Outcome) (s : State) (xs vs : List Act) → Side clock link s (xs ++ vs)
    → Side clock link s xs × Side (later (readings_in xs) clock) (later (tries_in xs) link) (after_acts xs s) vs
side_split clock link s xs vs x =
    let runs = runs_split s xs vs x.runs in
    let readings = follows_split (λ given reading. reading ≡ given) clock (readings_in xs) (readings_in vs) (subst (IsClock clock) (flat_map-append readings_of xs vs) x.readings) in
    let answers = follows_split (λ given t. NeedsSend t.claim → t.outcome ≡ given) link (tries_in xs) (tries_in vs) (subst (IsLink link) (flat_map-append tries_of xs vs) x.answers) in (
      record { runs = runs.0; readings = readings.0; answers = answers.0; ample = λ text is. x.ample text (Contains-append_left xs vs _ is) },
      record { runs = runs.1; readings = readings.1; answers = answers.1; ample = λ text is. x.ample text (Contains-append_right xs vs _ is) },
    )

-- what is given of the acts of two sessions, from two states
pub record Given (s t : State) (xs ys : List Act) : Type 0 where
  pub state : IsSameState s t
  pub clock : ℕ → ℕ
  pub link : ℕ → Outcome
  pub one : Side clock link s xs
  pub two : Side clock link t ys

pub given_other : (s t : State) (xs ys : List Act) → Given s t xs ys → Given t s ys xs
given_other s t xs ys g =
    let state : IsSameState t s = record { start = sym g.state.start; tables = sym g.state.tables; controls = sym g.state.controls } in
    record { state = state; clock = g.clock; link = g.link; one = g.two; two = g.one }

pub given_front : (s t : State) (xs ys vs ws : List Act) → Given s t (xs ++ vs) (ys ++ ws) → Given s t xs ys
given_front s t xs ys vs ws g =
    let one = (side_split g.clock g.link s xs vs g.one).0 in
    record { state = g.state; clock = g.clock; link = g.link; one = one; two = (side_split g.clock g.link t ys ws g.two).0 }

pub given_rest : (s t : State) (xs ys vs ws : List Act) → Same s t xs ys → Given s t (xs ++ vs) (ys ++ ws) → Given (after_acts xs s) (after_acts ys t) vs ws
given_rest s t xs ys vs ws x g =
    let clock = later (readings_in xs) g.clock in
    let one = (side_split g.clock g.link s xs vs g.one).1 in
    let two = subst (λ z. Side (later z g.clock) (later (tries_in ys) g.link) (after_acts ys t) ws) x.does.readings (side_split g.clock g.link t ys ws g.two).1 in
    let other = subst (λ z. Side clock (later z g.link) (after_acts ys t) ws) x.does.tries two in
    record { state = x.state; clock = clock; link = later (tries_in xs) g.link; one = one; two = other }
