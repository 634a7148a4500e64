-- Each send is recorded if no other turn comes between a claim and its record, or its record broke the book. Other files cite
-- `session_recorded` and `stays_broken`.
use Rattle.std.proofs.Common.{◌≡◌, ℕ, zero, suc, ◌⊎◌, inl, inr, Bool, true, false, List, [], ◌∷◌, ◌++◌, Option, Some, None, sym, refl, ap, ◌∙◌, subst, append_assoc, arith}
use Rattle.std.specs.Prelude.{All, Contains}
use Rattle.std.proofs.lemmas.Grind.{flat_map-append}
use Rattle.std.proofs.lemmas.Bool.{true≢false}
use Rattle.std.proofs.lemmas.List.Elements.{Contains-append_left, Contains-append_right, Contains-append_cases, Contains-push_cases}
use Rattle.router_requests.specs.Batch.{Batch}
use Rattle.router_core.specs.Tables.{Tables, is_full}
use Rattle.delivery_duties.specs.declared.duty.DutyRow.{DutyRow}
use Rattle.delivery_duties.specs.declared.outcome.Outcome.{Outcome}
use Rattle.delivery_duties.specs.Duties.{pending_row, marked_row}
use Rattle.message_streams.specs.declared.farewell.SessionEnd.{SessionEnd}
use Rattle.delivery_duties.specs.declared.outcome.Fate.{Fate}
use Rattle.api_messages.specs.declared.message.Message.{Message}
use Rattle.api_replies.specs.Reply.{Reply}
use Rattle.courier_run.specs.declared.turned.Turned.{Turned}
use Rattle.courier_run.specs.declared.stepped.Stop.{Stop}
use Rattle.courier_run.specs.Claim.{Claim, NeedsSend}
use Rattle.courier_run.specs.Act.{Try, reads, ticks, looks, makes, tries, writes, tries_of, tries_in}
use Rattle.courier_run.specs.Steps.{IsStep, attempted, Stepping, one_more, IsStop, idle_at, full_at, broken_at, out_of_memory, unsent_at, unrecorded, spent, stopped}
use Rattle.courier_run.specs.Steps.{limited_by, broken_before, broken_by}
use Rattle.courier_run.specs.Steps as steps
use Rattle.router_history.specs.History.{Turn, State, Placed, Ask, opens, claims, records, puts_back, repeats, breaks, IsTurnFor, after_ask, after_turn, state_after}
use Rattle.router_history.specs.History.{AreTurnsFrom}
use Rattle.router_history.specs.History as history
use Rattle.router_history.specs.Acts.{Act, Claims, Records, PutsBack, Breaks, IsIdle, IsFullAt, IsBrokenAt, Steps, Happens}
use Rattle.router_history.specs.Session as session
use Rattle.router_history.specs.Session.{Answers, Serving, begun, reads_on, answers, IsLast, Ended}
use Rattle.router_history.proofs.TurnLemmas.{state_append, turns_back}
use Rattle.router_history.proofs.ActLemmas.{state_here}
use Rattle.router_history.proofs.RepeatLemmas.{tries_none}
use Rattle.router_history.proofs.SteadyLemmas.{broken_written}
use Rattle.bus_server.specs.Run.{AreRecorded, IsLost, IsRecorded}
use Rattle.drill_run.proofs.OnePassLemmas.{others_none, all_front, all_back}

-- each attempt whose text was sent is recorded, or its record broke the book
abbrev AreMarked : List Act → Type 0
AreMarked acts = AreRecorded true acts

-- these acts happened by turns that are legal and all of the one pass
pub record Alone (s : State) (added : List Turn) (acts : List Act) : Type 0 where
  pub happens : Happens 0 s added acts
  pub legal : AreTurnsFrom s added
  pub own : All (λ t. t.pass ≡ Some 0) added

-- acts one after the other take turns one after the other
happens_split : (n : ℕ) (s : State) (added : List Turn) (xs ys : List Act) → Happens n s added (xs ++ ys)
    → (first rest : List Turn) × (added ≡ first ++ rest) × Happens n s first xs × Happens n (state_after first s) rest ys
happens_split n s added [] ys h = ([], added, refl, refl, h)
happens_split n s added (makes p ∷ xs) ys (others, rest, is, other, pass, before, known, h) =
    let (front, back, same, one, two) = happens_split n (after_turn p.turn p.before) rest xs ys h in (
      others ++ p.turn ∷ front,
      back,
      is ∙ ap (λ (ts : List Turn). others ++ p.turn ∷ ts) same ∙ sym (append_assoc others (p.turn ∷ front) back),
      (others, front, refl, other, pass, before, known, one),
      subst (λ (t : State). Happens n t back ys) (sym (state_here s others front p before)) two,
    )
happens_split n s added (looks state ∷ xs) ys (others, rest, is, other, shows, h) =
    let (front, back, same, one, two) = happens_split n state rest xs ys h in (
      others ++ front,
      back,
      is ∙ ap (λ (ts : List Turn). others ++ ts) same ∙ sym (append_assoc others front back),
      (others, front, refl, other, shows, one),
      subst (λ (t : State). Happens n t back ys) (ap (state_after front) shows ∙ sym (state_append s others front)) two,
    )
happens_split n s added (reads piece ∷ xs) ys h = happens_split n s added xs ys h
happens_split n s added (ticks reading ∷ xs) ys h = happens_split n s added xs ys h
happens_split n s added (tries claim outcome ∷ xs) ys h = happens_split n s added xs ys h
happens_split n s added (writes bytes ∷ xs) ys h = happens_split n s added xs ys h

alone_split : (s : State) (added : List Turn) (xs ys : List Act) → Alone s added (xs ++ ys)
    → (first rest : List Turn) × Alone s first xs × Alone (state_after first s) rest ys
alone_split s added xs ys a =
    let (front, back, is, one, two) = happens_split 0 s added xs ys a.happens in
    let both = turns_back s front back (subst (AreTurnsFrom s) is a.legal) in
    let own = subst (All (λ (t : Turn). t.pass ≡ Some 0)) is a.own in (
      front,
      back,
      record { happens = one; legal = both.0; own = all_front front back own },
      record { happens = two; legal = both.1; own = all_back front back own },
    )

contains_none : {X : Type 0} (x : X) → Contains [] x → ⊥
contains_none x (k, below, is) = absurd (omega (arith, below))

contains_one : {X : Type 0} (y x : X) → Contains (y ∷ []) x → y ≡ x
contains_one y x h = elim (Contains-push_cases [] y x h) [ inl none ↦ absurd (contains_none x none) | inr same ↦ same ]

no_tries : (acts : List Act) → tries_in acts ≡ [] → AreMarked acts
no_tries acts none = λ t there needs. absurd (contains_none t (subst (λ (ts : List Try). Contains ts t) none there))

-- the same among more acts
marked_in : (xs acts : List Act) (t : Try) → ((p : Placed) → Contains xs (makes p) → Contains acts (makes p)) → IsRecorded xs t ⊎ IsLost xs t
    → IsRecorded acts t ⊎ IsLost acts t
marked_in xs acts t among (inl (p, fate, made, ask)) = inl (p, fate, among p made, ask)
marked_in xs acts t among (inr (p, made, breaking)) = inr (p, among p made, breaking)

recorded_append : (xs ys : List Act) → AreMarked xs → AreMarked ys → AreMarked (xs ++ ys)
recorded_append xs ys one two = λ t there needs.
    elim (Contains-append_cases (tries_in xs) (tries_in ys) t (subst (λ (ts : List Try). Contains ts t) (flat_map-append tries_of xs ys) there)) [
      | inl first ↦ marked_in xs (xs ++ ys) t (λ p made. Contains-append_left xs ys (makes p) made) (one t first needs)
      | inr rest ↦ marked_in ys (xs ++ ys) t (λ p made. Contains-append_right xs ys (makes p) made) (two t rest needs)
    ]

-- the record of a text that was sent has its outcome
sent_as : (q : Placed) (c : Claim) (o : Outcome) (fate : Fate) → Records q (record { claim = c; outcome = o; fate = fate }) → NeedsSend c
    → q.turn.ask ≡ records (record { claim = c; outcome = o; fate = fate })
sent_as q c o fate (made, inl same, ask) needs = ask ∙ ap (λ x. records (record { claim = c; outcome = x; fate = fate })) same
sent_as q c o fate (made, inr (queue, had, missing), ask) needs = absurd (needs.0 queue)

step_recorded : (acts : List Act) (fate : Fate) → IsStep Claims Records PutsBack Breaks IsIdle IsFullAt IsBrokenAt acts fate → AreMarked acts
step_recorded _ _ (attempted reading p q c o fate claimed fits recorded) = λ t there needs.
    let same : record { claim = c; outcome = o } ≡ t = contains_one (record { claim = c; outcome = o }) t there in
    let acts : List Act = ticks reading ∷ makes p ∷ tries c o ∷ makes q ∷ [] in
    subst (λ (x : Try). NeedsSend x.claim → IsRecorded acts x ⊎ IsLost acts x) same
    (λ sends. inl (q, fate, (3, omega arith, refl), sent_as q c o fate recorded sends)) needs

stepping_recorded : (acts : List Act) (turned : Turned) → Stepping Claims Records PutsBack Breaks IsIdle IsFullAt IsBrokenAt acts turned → AreMarked acts
stepping_recorded _ _ steps.none = no_tries [] refl
stepping_recorded _ _ (one_more acts step turned fate before one) = recorded_append acts step (stepping_recorded acts turned before) (step_recorded step fate one)

full_by : (found : Option DutyRow) (t : Tables) → is_full (record t { duties = marked_row true found t.duties }) ≡ is_full t
full_by None t = refl
full_by (Some row) t = refl

-- a claim is made only below the number limit, and leaves the tables there
claimed_below : (s : State) (turn : Turn) (ask : Ask) (c : Claim) → ask ≡ claims c → IsTurnFor s turn ask → is_full (after_ask turn ask s).tables ≡ false
claimed_below s turn ask c is legal =
    let by = subst (λ (a : Ask). IsTurnFor s turn a) is legal in
    ap (λ (a : Ask). is_full (after_ask turn a s).tables) is ∙ full_by (pending_row c.number s.tables.duties) s.tables ∙ by.numbered

-- nor on a broken book, and it does not break it
claimed_whole : (s : State) (turn : Turn) (ask : Ask) (c : Claim) → ask ≡ claims c → IsTurnFor s turn ask → (after_ask turn ask s).broken ≡ false
claimed_whole s turn ask c is legal =
    let by = subst (λ (a : Ask). IsTurnFor s turn a) is legal in
    ap (λ (a : Ask). (after_ask turn a s).broken) is ∙ by.unbroken

-- the turns of an attempt come one after the other
at_attempt : (s : State) (added : List Turn) (reading : ℕ) (p q : Placed) (c : Claim) (o : Outcome) (ends : List Act)
    → Alone s added (ticks reading ∷ makes p ∷ tries c o ∷ makes q ∷ ends)
    → (here : State) × IsTurnFor here p.turn p.turn.ask × IsTurnFor (after_turn p.turn here) q.turn q.turn.ask
at_attempt s added reading p q c o ends a =
    let (others, rest, is, other, pass, before, known, (others2, rest2, is2, other2, pass2, before2, known2, last)) = a.happens in
    let first = turns_back s others (p.turn ∷ rest) (subst (AreTurnsFrom s) is a.legal) in
    let here : State = state_after others s in
    let own : All (λ t. t.pass ≡ Some 0) rest =
    all_back (p.turn ∷ []) rest (all_back others (p.turn ∷ rest) (subst (All (λ (t : Turn). t.pass ≡ Some 0)) is a.own)) in
    let none : others2 ≡ [] = others_none others2 (all_front others2 (q.turn ∷ rest2) (subst (All (λ (t : Turn). t.pass ≡ Some 0)) is2 own)) other2 in
    let later = turns_back (after_turn p.turn here) others2 (q.turn ∷ rest2) (subst (AreTurnsFrom (after_turn p.turn here)) is2 first.1.1) in
    let at : IsTurnFor (after_turn p.turn here) q.turn q.turn.ask =
    subst (λ (ts : List Turn). IsTurnFor (state_after ts (after_turn p.turn here)) q.turn q.turn.ask) none later.1.0.made_for in
    (here, first.1.0.made_for, at)

-- so a claim is not put back at the limit at once
never_limited : (s : State) (added : List Turn) (reading : ℕ) (p q : Placed) (c : Claim) (o : Outcome)
    → Alone s added (ticks reading ∷ makes p ∷ tries c o ∷ makes q ∷ []) → p.turn.ask ≡ claims c → q.turn.ask ≡ puts_back c steps.limited → ⊥
never_limited s added reading p q c o a claimed back =
    let (here, one, at) = at_attempt s added reading p q c o [] a in
    let reason = (subst (λ (x : Ask). IsTurnFor (after_turn p.turn here) q.turn x) back at).2 in
    let below : is_full (after_turn p.turn here).tables ≡ false = claimed_below here p.turn p.turn.ask c claimed one in
    true≢false (sym reason ∙ below)

-- nor because the book is broken already
never_unkept : (s : State) (added : List Turn) (reading : ℕ) (p q : Placed) (c : Claim) (o : Outcome)
    → Alone s added (ticks reading ∷ makes p ∷ tries c o ∷ makes q ∷ []) → p.turn.ask ≡ claims c → q.turn.ask ≡ puts_back c steps.unkept → ⊥
never_unkept s added reading p q c o a claimed back =
    let (here, one, at) = at_attempt s added reading p q c o [] a in
    let (unwritten, ends, reason) = subst (λ (x : Ask). IsTurnFor (after_turn p.turn here) q.turn x) back at in
    let whole : (after_turn p.turn here).broken ≡ false = claimed_whole here p.turn p.turn.ask c claimed one in
    true≢false (sym reason.0 ∙ whole)

-- the record of this attempt broke the book
breaks_by : (reading : ℕ) (p m q : Placed) (c : Claim) (o : Outcome) → Breaks m c o → AreMarked (ticks reading ∷ makes p ∷ tries c o ∷ makes m ∷ makes q ∷ [])
breaks_by reading p m q c o breaking = λ t there needs.
    let same : record { claim = c; outcome = o } ≡ t = contains_one (record { claim = c; outcome = o }) t there in
    let acts : List Act = ticks reading ∷ makes p ∷ tries c o ∷ makes m ∷ makes q ∷ [] in
    subst (λ (x : Try). IsRecorded acts x ⊎ IsLost acts x) same (inr (m, (3, omega arith, refl), breaking))

stop_recorded : (s : State) (added : List Turn) (acts : List Act) (stop : Stop) → Alone s added acts → IsStop Claims Records PutsBack Breaks IsIdle IsFullAt IsBrokenAt acts stop
    → AreMarked acts
stop_recorded s added _ _ a (idle_at reading state idle) = no_tries (ticks reading ∷ looks state ∷ []) refl
stop_recorded s added _ _ a (full_at reading state full) = no_tries (ticks reading ∷ looks state ∷ []) refl
stop_recorded s added _ _ a (out_of_memory reading state) = no_tries (ticks reading ∷ looks state ∷ []) refl
stop_recorded s added _ _ a (unsent_at reading p q c claimed needs back) = no_tries (ticks reading ∷ makes p ∷ makes q ∷ []) refl
stop_recorded s added _ _ a (broken_at reading state broken) = no_tries (ticks reading ∷ looks state ∷ []) refl
stop_recorded s added _ _ a (unrecorded reading p c o _ _ claimed fits (limited_by q back)) = absurd (never_limited s added reading p q c o a claimed.0 back)
stop_recorded s added _ _ a (unrecorded reading p c o _ _ claimed fits (broken_before q back)) = absurd (never_unkept s added reading p q c o a claimed.0 back)
stop_recorded s added _ _ a (unrecorded reading p c o _ _ claimed fits (broken_by m q breaking back)) = breaks_by reading p m q c o breaking

steps_recorded : (s : State) (added : List Turn) (budget : ℕ) (acts : List Act) (turned : Turned) (stop : Stop) → Alone s added acts → Steps budget acts turned stop
    → AreMarked acts
steps_recorded s added budget _ _ _ a (spent acts turned stepping all) = stepping_recorded acts turned stepping
steps_recorded s added budget _ _ _ a (stopped acts last turned stop stepping few is) =
    let (front, back, one, two) = alone_split s added acts last a in
    recorded_append acts last (stepping_recorded acts turned stepping) (stop_recorded (state_after front s) back last stop two is)

answers_recorded : (s : State) (added : List Turn) (m : Message) (acts : List Act) (reply : Reply) → Alone s added acts → Answers m acts reply → AreMarked acts
answers_recorded s added m _ _ a (session.unposted reading other) = no_tries (ticks reading ∷ []) refl
answers_recorded s added m _ _ a (session.refused reading c post is) = no_tries (ticks reading ∷ []) refl
answers_recorded s added m _ _ a (session.out_of_memory reading post) = no_tries (ticks reading ∷ []) refl
answers_recorded s added m _ _ a (session.served reading request p reply post asked replies) = no_tries (ticks reading ∷ makes p ∷ []) refl
answers_recorded s added m _ _ a (session.unrendered reading request p reply post asked replies none) = no_tries (ticks reading ∷ makes p ∷ []) refl
answers_recorded s added m _ _ a (session.failed reading request p post asked fails) = no_tries (ticks reading ∷ makes p ∷ []) refl
answers_recorded s added m _ _ a (session.failed_before reading request state post asked fails) = no_tries (ticks reading ∷ looks state ∷ []) refl
answers_recorded s added m _ _ a (session.stepped reading request budget acts turned stop post asked due steps) =
    recorded_append (ticks reading ∷ []) acts (no_tries (ticks reading ∷ []) refl)
    (steps_recorded s added budget acts turned stop (record { happens = a.happens; legal = a.legal; own = a.own }) steps)
answers_recorded s added m _ _ a (session.repeated reading request budget acts made post asked due repeating) =
    no_tries (ticks reading ∷ acts) (ap tries_in repeating.are ∙ tries_none repeating.steps)

serving_recorded : (s : State) (added : List Turn) (n : ℕ) (held : List ℕ) (acts : List Act) → Alone s added acts → Serving n held acts → AreMarked acts
serving_recorded s added _ _ _ a (begun state) = no_tries (looks state ∷ []) refl
serving_recorded s added _ _ _ a (reads_on n held piece acts serving awaited some) =
    let (front, back, one, two) = alone_split s added acts (reads piece ∷ []) a in
    recorded_append acts (reads piece ∷ []) (serving_recorded s front n held acts one serving) (no_tries (reads piece ∷ []) refl)
serving_recorded s added _ _ _ a (answers n held rest acts done m reply serving whole answered goes) =
    let said = writes (session.sent_text m.method reply false) ∷ [] in
    let (front, back, one, two) = alone_split s added acts (done ++ said) a in
    let (front2, back2, three, four) = alone_split (state_after front s) back done said two in
    recorded_append acts (done ++ said) (serving_recorded s front n held acts one serving)
    (recorded_append done said (answers_recorded (state_after front s) front2 m done reply three answered) (no_tries said refl))

-- the acts before the last one
before_last : (s : State) (added : List Turn) (acts last : List Act) → tries_in last ≡ [] → ((front : List Turn) → Alone s front acts → AreMarked acts)
    → Alone s added (acts ++ last) → AreMarked (acts ++ last)
before_last s added acts last none each a =
    let (front, back, one, two) = alone_split s added acts last a in
    recorded_append acts last (each front one) (no_tries last none)

last_recorded : (s : State) (n : ℕ) (m : Message) (acts : List Act) (text : List ℕ) → IsLast n m acts text → (front : List Turn) → Alone s front acts → AreMarked acts
last_recorded s n m acts text l = λ added a.
    let (front, back, one, two) = alone_split s added l.before l.done (subst (Alone s added) l.acts_are a) in
    subst AreMarked (sym l.acts_are)
    (recorded_append l.before l.done (serving_recorded s front n l.held l.before one l.serving) (answers_recorded (state_after front s) back m l.done l.reply two l.answers))

-- each send of a session is recorded or its record broke the book, if its turns came one after the other with no others between them
session_marked : (s : State) (added : List Turn) (end : SessionEnd) (acts : List Act) → Alone s added acts → Ended end acts → AreMarked acts
session_marked s added _ _ a (session.closed_by_end n held acts serving lines awaited) =
    before_last s added acts (reads [] ∷ []) refl (λ front one. serving_recorded s front n held acts one serving) a
session_marked s added _ _ a (session.cut n held acts serving some awaited) =
    before_last s added acts (reads [] ∷ []) refl (λ front one. serving_recorded s front n held acts one serving) a
session_marked s added _ _ a (session.closed_by_message n m acts text last asks below) =
    before_last s added acts (writes text ∷ []) refl (last_recorded s n m acts text last) a
session_marked s added _ _ a (session.long n m acts text last is) = before_last s added acts (writes text ∷ []) refl (last_recorded s n m acts text last) a
session_marked s added _ _ a (session.farewell n held acts text end serving says) =
    before_last s added acts (writes text ∷ []) refl (λ front one. serving_recorded s front n held acts one serving) a
session_marked s added _ _ a (session.starved_early n held acts serving awaited headless) = serving_recorded s added n held acts a serving
session_marked s added _ _ a (session.read_fault n held acts serving awaited) = serving_recorded s added n held acts a serving
session_marked s added _ _ a (session.unwritten n m acts part rest last) =
    before_last s added acts (writes part ∷ []) refl (last_recorded s n m acts (part ++ rest) last) a
session_marked s added _ _ a (session.farewell_unwritten n held acts part rest end serving says) =
    before_last s added acts (writes part ∷ []) refl (λ front one. serving_recorded s front n held acts one serving) a

-- ---- a broken book stays broken

stays_asked : (turn : Turn) (ask : Ask) (s : State) → IsTurnFor s turn ask → s.broken ≡ true → (after_ask turn ask s).broken ≡ true
stays_asked turn (opens start found disk) s is broken = absurd is
stays_asked turn (history.asked request) s is broken = broken_written turn.batch s ∙ broken
stays_asked turn (claims c) s is broken = broken
stays_asked turn (records a) s is broken = broken_written turn.batch s ∙ broken
stays_asked turn (puts_back c why) s is broken = broken
stays_asked turn (repeats reading) s is broken = broken_written turn.batch s ∙ broken
stays_asked turn (breaks bs) s is broken = refl

pub stays_broken : (turns : List Turn) (s : State) → AreTurnsFrom s turns → s.broken ≡ true → (state_after turns s).broken ≡ true
stays_broken [] s legal broken = broken
stays_broken (turn ∷ turns) s legal broken = stays_broken turns (after_turn turn s) legal.1 (stays_asked turn turn.ask s legal.0.made_for broken)

broken_over : (s : State) (added others turns : List Turn) → added ≡ others ++ turns → (state_after turns (state_after others s)).broken ≡ true
    → (state_after added s).broken ≡ true
broken_over s added others turns is broken =
    ap (λ (ts : List Turn). (state_after ts s).broken) is ∙ ap (λ (x : State). x.broken) (state_append s others turns) ∙ broken

-- a turn among these acts that breaks the book leaves it broken
breaks_last : (s : State) (added : List Turn) (acts : List Act) (p : Placed) (bs : List Batch) → Happens 0 s added acts → AreTurnsFrom s added
    → Contains acts (makes p) → p.turn.ask ≡ breaks bs → (state_after added s).broken ≡ true
breaks_last s added [] p bs h legal there ask = absurd (contains_none (makes p) there)
breaks_last s added (makes q ∷ acts) p bs (others, rest, is, other, pass, before, known, h) legal (zero, below, here) ask =
    let is_made : makes q ≡ makes p = here in
    let same : q ≡ p = cc (is_made) in
    let both = turns_back s others (q.turn ∷ rest) (subst (AreTurnsFrom s) is legal) in
    let at : State = state_after others s in
    let asked_so : q.turn.ask ≡ breaks bs = ap (λ (x : Placed). x.turn.ask) same ∙ ask in
    let broken : (after_turn q.turn at).broken ≡ true = ap (λ (a : Ask). (after_ask q.turn a at).broken) asked_so in
    broken_over s added others (q.turn ∷ rest) is (stays_broken rest (after_turn q.turn at) both.1.1 broken)
breaks_last s added (makes q ∷ acts) p bs (others, rest, is, other, pass, before, known, h) legal (suc k, below, here) ask =
    let both = turns_back s others (q.turn ∷ rest) (subst (AreTurnsFrom s) is legal) in
    let legal_on : AreTurnsFrom (after_turn q.turn q.before) rest = subst (λ (x : State). AreTurnsFrom (after_turn q.turn x) rest) (sym before) both.1.1 in
    let last : (state_after rest (after_turn q.turn q.before)).broken ≡ true =
    breaks_last (after_turn q.turn q.before) rest acts p bs h legal_on (k, omega (arith, below), here) ask in
    broken_over s added others (q.turn ∷ rest) is (subst (λ (x : State). (state_after rest (after_turn q.turn x)).broken ≡ true) before last)
breaks_last s added (looks state ∷ acts) p bs (others, rest, is, other, shows, h) legal (zero, below, here) ask =
    let no : looks state ≡ makes p = here in absurd (cc (no))
breaks_last s added (looks state ∷ acts) p bs (others, rest, is, other, shows, h) legal (suc k, below, here) ask =
    let both = turns_back s others rest (subst (AreTurnsFrom s) is legal) in
    let legal_on : AreTurnsFrom state rest = subst (λ (x : State). AreTurnsFrom x rest) (sym shows) both.1 in
    let last : (state_after rest state).broken ≡ true = breaks_last state rest acts p bs h legal_on (k, omega (arith, below), here) ask in
    broken_over s added others rest is (subst (λ (x : State). (state_after rest x).broken ≡ true) shows last)
breaks_last s added (reads piece ∷ acts) p bs h legal (zero, below, here) ask = let no : reads piece ≡ makes p = here in absurd (cc (no))
breaks_last s added (reads piece ∷ acts) p bs h legal (suc k, below, here) ask = breaks_last s added acts p bs h legal (k, omega (arith, below), here) ask
breaks_last s added (ticks reading ∷ acts) p bs h legal (zero, below, here) ask = let no : ticks reading ≡ makes p = here in absurd (cc (no))
breaks_last s added (ticks reading ∷ acts) p bs h legal (suc k, below, here) ask = breaks_last s added acts p bs h legal (k, omega (arith, below), here) ask
breaks_last s added (tries c o ∷ acts) p bs h legal (zero, below, here) ask = let no : tries c o ≡ makes p = here in absurd (cc (no))
breaks_last s added (tries c o ∷ acts) p bs h legal (suc k, below, here) ask = breaks_last s added acts p bs h legal (k, omega (arith, below), here) ask
breaks_last s added (writes bytes ∷ acts) p bs h legal (zero, below, here) ask = let no : writes bytes ≡ makes p = here in absurd (cc (no))
breaks_last s added (writes bytes ∷ acts) p bs h legal (suc k, below, here) ask = breaks_last s added acts p bs h legal (k, omega (arith, below), here) ask

-- on a book that is not broken each attempt is recorded
by_mark : (broken : Bool) (acts : List Act) → AreMarked acts → ((t : Try) → IsLost acts t → broken ≡ true) → AreRecorded broken acts
by_mark true acts marked lost = marked
by_mark false acts marked lost = λ t there needs. elim (marked t there needs) [
  | inl recorded ↦ recorded
  | inr is ↦ absurd (true≢false (sym (lost t is)))
]

-- what became of each send of a session, if its turns came one after the other with no others between them
pub session_recorded : (s : State) (added : List Turn) (end : SessionEnd) (acts : List Act) → Alone s added acts → Ended end acts
    → AreRecorded (state_after added s).broken acts
session_recorded s added end acts a ended =
    by_mark (state_after added s).broken acts (session_marked s added end acts a ended)
    (λ t lost. let (p, made, (recorded, outcome, ask)) = lost in breaks_last s added acts p _ a.happens a.legal made ask)
