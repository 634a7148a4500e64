-- The delivery steps of two sessions. Other files cite `Stop`, `Taken`, `IsFailure`, `same_count` and `same_steps`.
use Rattle.std.proofs.Common.{◌≡◌, ◌⊎◌, ℕ, ◌<◌, inl, inr, true, false, List, [], ◌∷◌, ◌++◌, Option, Some, None, sym, refl, ap, ◌∙◌, subst, arith}
use Rattle.std.proofs.Common.{append_assoc, append-nil}
use Rattle.std.specs.Prelude.{codes, nat_le, ◌||◌}
use Rattle.std.proofs.lemmas.Bool.{cases_lt}
use Rattle.std.proofs.lemmas.List.{append_cancel_left}
use Rattle.delivery_duties.specs.declared.duty.DutyRow.{DutyRow}
use Rattle.delivery_duties.specs.declared.outcome.Outcome.{Outcome}
use Rattle.delivery_duties.specs.declared.outcome.Outcome.TheVariants.{Accepted, NoQueue}
use Rattle.delivery_duties.specs.declared.outcome.Fate.{Fate}
use Rattle.delivery_queues.specs.Queues.{Queue}
use Rattle.delivery_duties.specs.Duties.{Duties, IsNext, NoneDue, IsNoLater, pending_row, marked_row}
use Rattle.router_requests.specs.Batch.{Batch}
use Rattle.router_core.specs.Tables.{Tables, moment_at, is_full, number_limit}
use Rattle.router_core.specs.Steps.{claiming, record_of, fate_after}
use Rattle.courier_run.specs.declared.stepped.Stop.{Stop as Why}
use Rattle.courier_run.specs.declared.stepped.Stop.TheVariants.{NoMemory, Broken}
use Rattle.courier_run.specs.declared.turned.Turned.{Turned}
use Rattle.courier_run.specs.Claim.{Claim, IsForQueue, NeedsSend, FitsClaim, above_age, for_queue, accepted, refused, unanswered, moment_of}
use Rattle.courier_run.specs.Turned.{with_fate}
use Rattle.courier_run.specs.Act.{Try, ticks, looks, makes, tries}
use Rattle.courier_run.specs.Steps.{IsStep, attempted, IsStop, idle_at, full_at, broken_at, out_of_memory, unsent_at, unrecorded, limited, Stepping, none, one_more}
use Rattle.courier_run.specs.Steps.{limited_by, broken_before, broken_by}
use Rattle.courier_run.specs.Steps.{spent, stopped}
use Rattle.router_history.specs.History as history
use Rattle.router_history.specs.History.{State, Placed, claim_of, IsOutcome, queued, queue_missing, sent, IsClaimBy, IsRecordBy, IsTurnFor, after_ask, after_turn}
use Rattle.router_history.specs.Acts.{Act, Claims, Records, PutsBack, Breaks, IsOutcomeIn, IsIdle, IsFullAt, IsBrokenAt, Steps}
use Rattle.session_laws.specs.OneSession.{IsSameState, unnamed, DoSame}
use Rattle.session_laws.proofs.SameLemmas.{after_acts, RunsAct, turn_same, Same, same_append, Given, given_other, given_front, given_rest}

abbrev Step : List Act → Fate → Type 0
Step = IsStep Claims Records PutsBack Breaks IsIdle IsFullAt IsBrokenAt

abbrev pub Stop : List Act → Why → Type 0
Stop = IsStop Claims Records PutsBack Breaks IsIdle IsFullAt IsBrokenAt

abbrev pub Taken : List Act → Turned → Type 0
Taken = Stepping Claims Records PutsBack Breaks IsIdle IsFullAt IsBrokenAt

-- steps that end because memory ran out, or because the book is broken
abbrev pub IsFailure : Why → Type 0
IsFailure why = (why ≡ NoMemory) ⊎ (why ≡ Broken)

some_same : {X : Type 0} {r q : X} → Some r ≡ Some q → r ≡ q
some_same is = cc

-- a claim that may be made on these tables at a reading
record ClaimIn (t : Tables) (reading : ℕ) (c : Claim) : Type 0 where
  pub next : IsNext t.duties (moment_at t reading) c.number
  pub numbered : is_full t ≡ false
  pub claim : c ≡ claim_of reading (moment_at t reading) next.row

-- the duty that is due first is one, and so is its claim
one_claim : (t : Tables) (reading : ℕ) (c d : Claim) → ClaimIn t reading c → ClaimIn t reading d → d ≡ c
one_claim t reading c d x y =
    let p = x.next in
    let q = y.next in
    let rows = same p.row q.row (p.first d.number q.row q.there q.free q.due) (q.first c.number p.row p.there p.free p.due) in
    let number : d.number ≡ c.number = ap (λ (z : Claim). z.number) y.claim ∙ rows ∙ sym (ap (λ (z : Claim). z.number) x.claim) in
    let row : q.row ≡ p.row = some_same (sym q.there ∙ ap (λ n. pending_row n t.duties) number ∙ p.there) in
    y.claim ∙ ap (claim_of reading (moment_at t reading)) row ∙ sym x.claim
  where
    same : (r q : DutyRow) → IsNoLater r q → IsNoLater q r → q.number ≡ r.number
    same r q (inl earlier) (inl later) = absurd (omega (arith, earlier, later))
    same r q (inl earlier) (inr later) = absurd (omega (arith, earlier, later.0))
    same r q (inr first) (inl later) = absurd (omega (arith, first.0, later))
    same r q (inr first) (inr second) = omega (arith, first.1, second.1)

claim_by : (s : State) (p : Placed) (c : Claim) (moment : ℕ) → RunsAct s (makes p) → Claims p c moment → IsClaimBy s p.turn c
claim_by s p c moment runs claims = subst (IsTurnFor s p.turn) claims.0 runs.1.made_for

-- a claim from one state might be made from the other, with the same clock
claim_there : (s t : State) (q : Placed) (d : Claim) (r r2 : ℕ) → IsSameState s t → r2 ≡ r → RunsAct t (makes q) → Claims q d (moment_of r2)
    → ClaimIn s.tables (moment_of r) d
claim_there s t q d r r2 same reading runs claims =
    let by = claim_by t q d (moment_of r2) runs claims in
    let claim = by.claim ∙ ap (claim_of d.reading (moment_at t.tables d.reading)) (some_same (sym by.there ∙ by.next.there)) in
    subst (λ z. ClaimIn z (moment_of r) d) same.tables (subst (λ n. ClaimIn t.tables n d) (claims.1 ∙ ap moment_of reading)
    (record { next = by.next; numbered = by.numbered; claim = claim }))

-- two claims from the same state, with the same clock
same_claim : (s t : State) (p q : Placed) (c d : Claim) (r r2 : ℕ) → IsSameState s t → r2 ≡ r → RunsAct s (makes p) → RunsAct t (makes q)
    → Claims p c (moment_of r) → Claims q d (moment_of r2)
    → (d ≡ c) × IsSameState (after_turn p.turn s) (after_turn q.turn t) × (unnamed q.turn ≡ unnamed p.turn)
same_claim s t p q c d r r2 same reading runs runs2 one two =
    let own = claim_there s s p c r r (record { start = refl; tables = refl; controls = refl }) refl runs one in
    let is : d ≡ c = one_claim s.tables (moment_of r) c d own (claim_there s t q d r r2 same reading runs2 two) in
    let a = claim_by s p c (moment_of r) runs one in
    let b = claim_by t q d (moment_of r2) runs2 two in
    let turns = turn_same p.turn q.turn s t (two.0 ∙ ap history.claims is ∙ sym one.0) (b.unwritten ∙ sym a.unwritten) a.latest b.latest same in
    (is, turns.0, turns.1)

-- an outcome that an attempt may have follows from the claim, unless the text is sent
one_outcome : (c : Claim) (x y : Outcome) → (NeedsSend c → y ≡ x) → FitsClaim c x → FitsClaim c y → y ≡ x
one_outcome c _ y by_link (accepted needs) q = by_link needs
one_outcome c _ y by_link (refused needs code failing) q = by_link needs
one_outcome c _ y by_link (unanswered needs) q = by_link needs
one_outcome c x _ by_link p (accepted needs) = by_link needs
one_outcome c x _ by_link p (refused needs code failing) = by_link needs
one_outcome c x _ by_link p (unanswered needs) = by_link needs
one_outcome c _ _ by_link (above_age old) (above_age old2) = refl
one_outcome c _ _ by_link (above_age old) (for_queue young queue) = absurd (young old)
one_outcome c _ _ by_link (for_queue young queue) (above_age old) = absurd (young old)
one_outcome c _ _ by_link (for_queue young queue) (for_queue young2 queue2) = refl

-- a text for a queue is not both accepted and without a queue
never : (queues : List Queue) (c : Claim) → IsForQueue c → IsOutcome queues c Accepted → IsOutcome queues c NoQueue → ⊥
never queues c for (queued young q arn there) (queue_missing young2 r arn2 there2) =
    let same : q ≡ r = append_cancel_left (codes "arn:aws:sqs:us-east-1:111122223333:") q r (sym arn.1 ∙ arn2.1) in cc
never queues c for (sent needs) _ = absurd (needs.0 for)

-- the outcome that a record has follows from the one that the attempt had
one_recorded : (queues : List Queue) (c : Claim) (had x y : Outcome) → IsOutcome queues c x → IsOutcome queues c y → IsOutcomeIn c had x → IsOutcomeIn c had y
    → y ≡ x
one_recorded queues c had x y p q (inl a) (inl b) = b ∙ sym a
one_recorded queues c had x y p q (inr a) (inr b) = b.2 ∙ sym a.2
one_recorded queues c had x y p q (inl a) (inr b) =
    absurd (never queues c b.0 (subst (IsOutcome queues c) (a ∙ b.1) p) (subst (IsOutcome queues c) b.2 q))
one_recorded queues c had x y p q (inr a) (inl b) =
    absurd (never queues c a.0 (subst (IsOutcome queues c) (b ∙ a.1) q) (subst (IsOutcome queues c) a.2 p))

-- two records of the same claim and outcome from the same state
same_record : (s t : State) (p q : Placed) (c : Claim) (o : Outcome) (f g : Fate) → IsSameState s t → RunsAct s (makes p) → RunsAct t (makes q)
    → Records p (record { claim = c; outcome = o; fate = f }) → Records q (record { claim = c; outcome = o; fate = g })
    → (g ≡ f) × IsSameState (after_turn p.turn s) (after_turn q.turn t) × (unnamed q.turn ≡ unnamed p.turn)
same_record s t p q c o f g same runs runs2 one two =
    let a : IsRecordBy s p.turn (record { claim = c; outcome = one.0; fate = f }) = subst (IsTurnFor s p.turn) one.2 runs.1.made_for in
    let b : IsRecordBy t q.turn (record { claim = c; outcome = two.0; fate = g }) = subst (IsTurnFor t q.turn) two.2 runs2.1.made_for in
    let outcome : two.0 ≡ one.0 = one_recorded s.tables.duties.queues c o one.0 two.0 a.fits
    (subst (λ z. IsOutcome z.duties.queues c two.0) same.tables b.fits) one.1 two.1 in
    let row : b.row ≡ a.row = some_same (sym b.there ∙ ap (λ z. pending_row c.number z.duties) same.tables ∙ a.there) in
    let fates : Tables → DutyRow → Outcome → Fate = λ z r x. fate_after z.duties.queues (moment_at z c.reading) r x in
    let fate : g ≡ f = b.fate ∙ ap (λ z. fates z b.row two.0) same.tables ∙ ap (λ r. fates s.tables r two.0) row ∙ ap (fates s.tables a.row) outcome ∙ sym a.fate in
    let ask = ap (λ z. history.records (record { claim = c; outcome = z; fate = g })) outcome
    ∙ ap (λ z. history.records (record { claim = c; outcome = one.0; fate = z })) fate in
    let batches : Tables → Outcome → Option Batch = λ z x. Some (record_of (moment_at z c.reading) c.number x) in
    let batch = b.written ∙ ap (λ z. batches z two.0) same.tables ∙ ap (batches s.tables) outcome ∙ sym a.written in
    let turns = turn_same p.turn q.turn s t (two.2 ∙ ask ∙ sym one.2) batch a.ends.latest b.ends.latest same in
    (fate, turns.0, turns.1)

-- two steps from the same state, with the same clock and link
same_step : (s t : State) (xs ys : List Act) (f g : Fate) → Step xs f → Step ys g → Given s t xs ys → Same s t xs ys × (g ≡ f)
same_step s t _ _ _ _ (attempted r p q c o f claims fits recorded) (attempted r2 p2 q2 d o2 f2 claims2 fits2 recorded2) g =
    let reading : r2 ≡ r = g.two.readings.0 ∙ sym g.one.readings.0 in
    let (claim, mid, turn) : (d ≡ c) × IsSameState (after_turn p.turn s) (after_turn p2.turn t) × (unnamed p2.turn ≡ unnamed p.turn) =
    same_claim s t p p2 c d r r2 g.state reading g.one.runs.1.0 g.two.runs.1.0 claims claims2 in
    let sent_too : NeedsSend c → o2 ≡ g.link 0 = subst (λ e. NeedsSend e → o2 ≡ g.link 0) claim g.two.answers.0 in
    let outcome : o2 ≡ o = one_outcome c o o2 (λ needs. sent_too needs ∙ sym (g.one.answers.0 needs)) fits (subst (λ e. FitsClaim e o2) claim fits2) in
    let ended = same_record (after_turn p.turn s) (after_turn p2.turn t) q q2 c o f f2 mid g.one.runs.1.1.1.0 g.two.runs.1.1.1.0 recorded
    (subst (λ e. Records q2 (record { claim = c; outcome = e; fate = f2 })) outcome
    (subst (λ e. Records q2 (record { claim = e; outcome = o2; fate = f2 })) claim recorded2)) in
    let one_try : Claim → Outcome → List Try = λ e u. record { claim = e; outcome = u } ∷ [] in
    let does : DoSame (ticks r ∷ makes p ∷ tries c o ∷ makes q ∷ []) (ticks r2 ∷ makes p2 ∷ tries d o2 ∷ makes q2 ∷ []) = record {
      turns = ap (λ z. z ∷ unnamed q2.turn ∷ []) turn ∙ ap (λ z. unnamed p.turn ∷ z ∷ []) ended.2;
      readings = ap (λ n. n ∷ []) reading;
      tries = ap (λ e. one_try e o2) claim ∙ ap (one_try c) outcome;
      bytes = refl;
    } in
    (record { state = ended.1; does = does }, ended.0)

-- at its record an attempt of a pass that is alone is below the number limit, since a claim adds no entry and no duty
never_limited : (s : State) (p q : Placed) (c : Claim) (moment : ℕ) → RunsAct s (makes p) → RunsAct (after_turn p.turn s) (makes q) → Claims p c moment
    → PutsBack q c limited → ⊥
never_limited s p q c moment first second claims back =
    let t = s.tables in
    let tables : (after_turn p.turn s).tables ≡ claiming c.number t = ap (λ ask. (after_ask p.turn ask s).tables) claims.0 in
    let full : is_full (after_turn p.turn s).tables ≡ true = (subst (IsTurnFor (after_turn p.turn s) q.turn) back second.1.made_for).2 in
    let free : is_full (after_turn p.turn s).tables ≡ false =
    ap is_full tables ∙ ap (λ n. nat_le number_limit t.entries || nat_le number_limit n) (created (pending_row c.number t.duties) t.duties)
    ∙ (claim_by s p c moment first claims).numbered in
    cc
  where
    created : (found : Option DutyRow) (d : Duties) → (marked_row true found d).created ≡ d.created
    created None d = refl
    created (Some row) d = refl

looked_same : (s t x y : State) (r r2 : ℕ) → Given s t (ticks r ∷ looks x ∷ []) (ticks r2 ∷ looks y ∷ [])
    → Same s t (ticks r ∷ looks x ∷ []) (ticks r2 ∷ looks y ∷ [])
looked_same s t x y r r2 g =
    record { state = g.state; does = record { turns = refl; readings = ap (λ n. n ∷ []) (g.two.readings.0 ∙ sym g.one.readings.0); tries = refl; bytes = refl } }

idle_too : (s t x y : State) (r r2 : ℕ) → Given s t (ticks r ∷ looks x ∷ []) (ticks r2 ∷ looks y ∷ []) → IsIdle x (moment_of r) → IsIdle y (moment_of r2)
idle_too s t x y r r2 g idle =
    let tables : y.tables ≡ x.tables = ap (λ (z : State). z.tables) g.two.runs.1.0 ∙ g.state.tables ∙ sym (ap (λ (z : State). z.tables) g.one.runs.1.0) in
    subst (λ n. NoneDue y.tables.duties (moment_at y.tables (moment_of n))) (g.one.readings.0 ∙ sym g.two.readings.0)
    (subst (λ z. NoneDue z.duties (moment_at z (moment_of r))) (sym tables) idle)

-- two ends of steps from the same state, with the same clock
same_stop : (s t : State) (xs ys : List Act) (why other : Why) → Stop xs why → Stop ys other → Given s t xs ys → ¬ IsFailure why → ¬ IsFailure other
    → Same s t xs ys × (other ≡ why)
same_stop s t _ _ _ _ (idle_at r x idle) (idle_at r2 y idle2) g known known2 = (looked_same s t x y r r2 g, refl)
same_stop s t _ _ _ _ (idle_at r x idle) (full_at r2 y full) g known known2 = absurd (full.1 (idle_too s t x y r r2 g idle))
same_stop s t _ _ _ _ (full_at r x full) (idle_at r2 y idle) g known known2 = absurd (full.1 (idle_too t s y x r2 r (given_other s t _ _ g) idle))
same_stop s t _ _ _ _ (full_at r x full) (full_at r2 y full2) g known known2 = (looked_same s t x y r r2 g, refl)
same_stop s t _ _ _ _ (unrecorded r p c o _ _ claims fits (limited_by q back)) _ g known known2 =
    absurd (never_limited s p q c (moment_of r) g.one.runs.1.0 g.one.runs.1.1.1.0 claims back)
same_stop s t _ _ _ _ _ (unrecorded r p c o _ _ claims fits (limited_by q back)) g known known2 =
    absurd (never_limited t p q c (moment_of r) g.two.runs.1.0 g.two.runs.1.1.1.0 claims back)
same_stop s t _ _ _ _ (out_of_memory r x) _ g known known2 = absurd (known (inl refl))
same_stop s t _ _ _ _ (unsent_at r p q c claims needs back) _ g known known2 = absurd (known (inl refl))
same_stop s t _ _ _ _ (broken_at r x broken) _ g known known2 = absurd (known (inr refl))
same_stop s t _ _ _ _ (unrecorded r p c o _ _ claims fits (broken_before q back)) _ g known known2 = absurd (known (inr refl))
same_stop s t _ _ _ _ (unrecorded r p c o _ _ claims fits (broken_by m q breaking back)) _ g known known2 = absurd (known (inr refl))
same_stop s t _ _ _ _ _ (broken_at r x broken) g known known2 = absurd (known2 (inr refl))
same_stop s t _ _ _ _ _ (unrecorded r p c o _ _ claims fits (broken_before q back)) g known known2 = absurd (known2 (inr refl))
same_stop s t _ _ _ _ _ (unrecorded r p c o _ _ claims fits (broken_by m q breaking back)) g known known2 = absurd (known2 (inr refl))
same_stop s t _ _ _ _ _ _ g known known2 = absurd (known2 (inl refl))

-- where steps stopped, no claim can be made
no_more : (s t : State) (xs ys ws : List Act) (why : Why) (f : Fate) → Stop xs why → Step ys f → Given s t xs (ys ++ ws) → ¬ IsFailure why → ⊥
no_more s t _ _ ws _ _ (idle_at r x idle) (attempted r2 p q c o f claims fits recorded) g known =
    let free = claim_there s t p c r r2 g.state (g.two.readings.0 ∙ sym g.one.readings.0) g.two.runs.1.0 claims in
    omega (arith, subst (λ z. IsIdle z (moment_of r)) g.one.runs.1.0 idle c.number free.next.row free.next.there free.next.free, free.next.due)
no_more s t _ _ ws _ _ (full_at r x full) (attempted r2 p q c o f claims fits recorded) g known =
    let free = (claim_there s t p c r r2 g.state (g.two.readings.0 ∙ sym g.one.readings.0) g.two.runs.1.0 claims).numbered in
    let at = subst (λ z. is_full z.tables ≡ true) g.one.runs.1.0 full.0 in
    cc
no_more s t _ _ ws _ _ (unrecorded r p c o _ _ claims fits (limited_by q back)) _ g known =
    never_limited s p q c (moment_of r) g.one.runs.1.0 g.one.runs.1.1.1.0 claims back
no_more s t _ _ ws _ _ (broken_at r x broken) _ g known = known (inr refl)
no_more s t _ _ ws _ _ (unrecorded r p c o _ _ claims fits (broken_before q back)) _ g known = known (inr refl)
no_more s t _ _ ws _ _ (unrecorded r p c o _ _ claims fits (broken_by m q breaking back)) _ g known = known (inr refl)
no_more s t _ _ ws _ _ _ _ g known = known (inl refl)

-- the same number of steps
same_taken : (s t : State) (xs ys : List Act) (x y : Turned) → Taken xs x → Taken ys y → y.attempts ≡ x.attempts → Given s t xs ys → Same s t xs ys × (y ≡ x)
same_taken s t _ _ _ _ none none count g = (record { state = g.state; does = record { turns = refl; readings = refl; tries = refl; bytes = refl } }, refl)
same_taken s t _ _ _ _ (one_more xs step x f before one) (one_more ys other y e before2 two) count g =
    let first = same_taken s t xs ys x y before before2 (omega (arith, count)) (given_front s t xs ys step other g) in
    let second = same_step (after_acts xs s) (after_acts ys t) step other f e one two (given_rest s t xs ys step other first.0 g) in
    (same_append s t xs ys step other first.0 second.0, ap (λ z. with_fate z e) first.1 ∙ ap (with_fate x) second.1)
same_taken s t _ _ _ _ _ _ count g = absurd (omega (arith, count))

-- where the steps of one stopped, the other made no further one
not_further : (s t : State) (xs last ys ws : List Act) (x y : Turned) (why : Why) → Taken xs x → Stop last why → ¬ IsFailure why → Taken ys y
    → x.attempts < y.attempts → Given s t (xs ++ last) (ys ++ ws) → ⊥
not_further s t xs last _ ws x _ why taken stop known none less g = omega (arith, less)
not_further s t xs last _ ws x _ why taken stop known (one_more ys step y f before one) less g =
    let given = subst (Given s t (xs ++ last)) (append_assoc ys step ws) g in
    elim (cases_lt x.attempts y.attempts) [
      | inl below ↦ not_further s t xs last ys (step ++ ws) x y why taken stop known before below given
      | inr above ↦
          let same = (same_taken s t xs ys x y taken before (omega (arith, above, less)) (given_front s t xs ys last (step ++ ws) given)).0 in
          no_more (after_acts xs s) (after_acts ys t) last step ws why f stop one (given_rest s t xs ys last (step ++ ws) same given) known
    ]

pub same_count : (m n : ℕ) → ¬ (m < n) → ¬ (n < m) → n ≡ m
same_count m n a b = omega (arith, a, b)

-- the steps of two sessions within the same budget, neither out of memory or with a broken book
pub same_steps : (s t : State) (budget : ℕ) (xs ys : List Act) (x y : Turned) (why other : Why) → Steps budget xs x why → Steps budget ys y other
    → ¬ IsFailure why → ¬ IsFailure other → Given s t xs ys → Same s t xs ys × (y ≡ x) × (other ≡ why)
same_steps s t budget _ _ _ _ _ _ (spent xs x taken used) (spent ys y taken2 used2) known known2 g =
    let is = same_taken s t xs ys x y taken taken2 (used2 ∙ sym used) g in (is.0, is.1, refl)
same_steps s t budget _ _ _ _ _ _ (spent xs x taken used) (stopped ys last y why taken2 less stop) known known2 g =
    absurd (not_further t s ys last xs [] y x why taken2 stop known2 taken (omega (arith, less, used))
    (given_other s t (xs ++ []) (ys ++ last) (subst (λ z. Given s t z (ys ++ last)) (sym (append-nil xs)) g)))
same_steps s t budget _ _ _ _ _ _ (stopped xs last x why taken less stop) (spent ys y taken2 used) known known2 g =
    absurd (not_further s t xs last ys [] x y why taken stop known taken2 (omega (arith, less, used)) (subst (Given s t (xs ++ last)) (sym (append-nil ys)) g))
same_steps s t budget _ _ _ _ _ _ (stopped xs last x why taken less stop) (stopped ys last2 y other taken2 less2 stop2) known known2 g =
    let count : y.attempts ≡ x.attempts = same_count x.attempts y.attempts (λ less. not_further s t xs last ys last2 x y why taken stop known taken2 less g)
    (λ less. not_further t s ys last2 xs last y x other taken2 stop2 known2 taken less (given_other s t (xs ++ last) (ys ++ last2) g)) in
    let first = same_taken s t xs ys x y taken taken2 count (given_front s t xs ys last last2 g) in
    let second = same_stop (after_acts xs s) (after_acts ys t) last last2 why other stop stop2 (given_rest s t xs ys last last2 first.0 g) known known2 in
    (same_append s t xs ys last last2 first.0 second.0, first.1, second.1)
