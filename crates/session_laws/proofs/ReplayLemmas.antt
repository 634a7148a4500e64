-- The steps of replays of two sessions: `OneStep`, `same_repeats`, `repeats_read`.
use Rattle.std.proofs.Common.{◌≡◌, ◌⊎◌, ℕ, ◌+◌, ◌<◌, inl, inr, true, false, List, [], ◌∷◌, ◌++◌, map, length, Option, Some, None, Result, Ok, Err, sym, refl, ap, ◌∙◌, subst, arith}
use Rattle.std.proofs.Common.{append_assoc, append-nil}
use Rattle.std.specs.List.{concat}
use Rattle.std.proofs.lemmas.Bool.{cases_lt}
use Rattle.std.proofs.lemmas.List.{length-append, map-append}
use Rattle.replay_run.specs.Replays.{running}
use Rattle.replay_run.specs.declared.row.ReplayRow.{ReplayRow}
use Rattle.router_requests.specs.Batch.{Batch}
use Rattle.router_core.specs.Replaying.{IsReplayStep}
use Rattle.router_core.specs.Tables.{Tables, is_full, moment_at}
use Rattle.courier_run.specs.Act as courier
use Rattle.step_run.specs.Act.{ticks, looks}
use Rattle.step_run.specs.Steps.{Steps, Stepping, none, one_more, spent, stopped}
use Rattle.step_run.specs.Step.{moment_of, Stop, none_left, refused, full_at, broken_at, broken_by, out_of_memory, returned, IsStep, stepped, IsStop, idle_at, refused_at, Ran}
use Rattle.step_run.specs.declared.fault.StepFault.TheVariants.{Broken, NoMemory}
use Rattle.step_run.specs.declared.fault.StepsFault.{StepsFault}
use Rattle.message_streams.specs.Reply.{replays_reply}
use Rattle.router_history.specs.History as history
use Rattle.router_history.specs.History.{State, Placed, IsRepeatBy, IsTurnFor}
use Rattle.router_history.specs.Acts.{Act, StepAct, act_of, Repeats, BreaksRepeat, IsNoneRunning, IsRepeatFull, IsRepeatBroken, Repeating}
use Rattle.router_history.proofs.RepeatLemmas.{pieces_none}
use Rattle.session_laws.specs.OneSession.{IsSameState, IsFailureReply, read_in}
use Rattle.session_laws.proofs.SameLemmas.{after_acts, RunsAct, turn_same, Same, same_append, Given, given_other, given_front, given_rest}
use Rattle.session_laws.proofs.StepLemmas.{same_count}

-- the law of `router_calls`: there is at most one next step of the replays at a moment
abbrev pub OneStep : Type 0
OneStep = (t : Tables) (moment : ℕ) (a b : Batch) → IsReplayStep t moment a → IsReplayStep t moment b → a ≡ b

abbrev Step : List StepAct → Placed → Type 0
Step = IsStep Repeats BreaksRepeat IsNoneRunning IsRepeatFull IsRepeatBroken

abbrev End : List StepAct → Stop → Type 0
End = IsStop Repeats BreaksRepeat IsNoneRunning IsRepeatFull IsRepeatBroken

abbrev Taken : List StepAct → List Placed → Type 0
Taken = Stepping Step End

-- steps that end because memory ran out, or because the book is broken
abbrev IsFault : Stop → Type 0
IsFault why = (why ≡ refused NoMemory) ⊎ (why ≡ refused Broken)

abbrev acts_of : List StepAct → List Act
acts_of = map act_of

repeat_by : (s : State) (p : Placed) (moment : ℕ) → RunsAct s (courier.makes p) → Repeats p moment → IsRepeatBy s p.turn moment
repeat_by s p moment runs repeats = subst (IsTurnFor s p.turn) repeats runs.1.made_for

-- two steps from the same state, with the same clock
same_step : OneStep → (s t : State) (xs ys : List StepAct) (p q : Placed) → Step xs p → Step ys q → Given s t (acts_of xs) (acts_of ys)
    → Same s t (acts_of xs) (acts_of ys)
same_step law s t _ _ _ _ (stepped r p one) (stepped r2 q two) g =
    let reading : r2 ≡ r = g.two.readings.0 ∙ sym g.one.readings.0 in
    let a = repeat_by s p (moment_of r) g.one.runs.1.0 one in
    let b = repeat_by t q (moment_of r2) g.two.runs.1.0 two in
    let there : IsReplayStep s.tables (moment_at s.tables (moment_of r)) b.batch =
    subst (λ z. IsReplayStep z (moment_at z (moment_of r)) b.batch) g.state.tables
    (subst (λ n. IsReplayStep t.tables (moment_at t.tables (moment_of n)) b.batch) reading b.step) in
    let wrote = law s.tables (moment_at s.tables (moment_of r)) a.batch b.batch a.step there in
    let turns = turn_same p.turn q.turn s t (two ∙ ap (λ n. history.repeats (moment_of n)) reading ∙ sym one)
    (b.written ∙ ap (λ z. Some z) (sym wrote) ∙ sym a.written) a.latest b.latest g.state in
    record { state = turns.0; does = record { turns = ap (λ z. z ∷ []) turns.1; readings = ap (λ n. n ∷ []) reading; tries = refl; bytes = refl } }

-- two looks at the same state, with the same clock
looked_same : (s t x y : State) (r r2 : ℕ) → Given s t (acts_of (ticks r ∷ looks x ∷ [])) (acts_of (ticks r2 ∷ looks y ∷ []))
    → Same s t (acts_of (ticks r ∷ looks x ∷ [])) (acts_of (ticks r2 ∷ looks y ∷ []))
looked_same s t x y r r2 g =
    record { state = g.state; does = record { turns = refl; readings = ap (λ n. n ∷ []) (g.two.readings.0 ∙ sym g.one.readings.0); tries = refl; bytes = refl } }

-- looks at the same state see the same tables
tables_same : (s t x y : State) → IsSameState s t → x ≡ s → y ≡ t → y.tables ≡ x.tables
tables_same s t x y same first second = ap (λ (z : State). z.tables) second ∙ same.tables ∙ sym (ap (λ (z : State). z.tables) first)

-- two ends of steps from the same state, with the same clock
same_end : (s t : State) (xs ys : List StepAct) (why other : Stop) → End xs why → End ys other → Given s t (acts_of xs) (acts_of ys) → ¬ IsFault why
    → ¬ IsFault other → Same s t (acts_of xs) (acts_of ys) × (other ≡ why)
same_end s t _ _ _ _ (refused_at r _ _ (broken_at x broken)) _ g known known2 = absurd (known (inr refl))
same_end s t _ _ _ _ (refused_at r _ _ (broken_by p breaks)) _ g known known2 = absurd (known (inr refl))
same_end s t _ _ _ _ (refused_at r _ _ (out_of_memory x)) _ g known known2 = absurd (known (inl refl))
same_end s t _ _ _ _ _ (refused_at r _ _ (broken_at x broken)) g known known2 = absurd (known2 (inr refl))
same_end s t _ _ _ _ _ (refused_at r _ _ (broken_by p breaks)) g known known2 = absurd (known2 (inr refl))
same_end s t _ _ _ _ _ (refused_at r _ _ (out_of_memory x)) g known known2 = absurd (known2 (inl refl))
same_end s t _ _ _ _ (idle_at r x idle) (idle_at r2 y idle2) g known known2 = (looked_same s t x y r r2 g, refl)
same_end s t _ _ _ _ (idle_at r x idle) (refused_at r2 _ _ (full_at y full)) g known known2 =
    let tables = tables_same s t x y g.state g.one.runs.1.0 g.two.runs.1.0 in
    absurd (full.1 (ap (λ (z : Tables). running z.replays) tables ∙ idle))
same_end s t _ _ _ _ (refused_at r _ _ (full_at x full)) (idle_at r2 y idle) g known known2 =
    let tables = tables_same s t x y g.state g.one.runs.1.0 g.two.runs.1.0 in
    absurd (full.1 (sym (ap (λ (z : Tables). running z.replays) tables) ∙ idle))
same_end s t _ _ _ _ (refused_at r _ _ (full_at x full)) (refused_at r2 _ _ (full_at y full2)) g known known2 = (looked_same s t x y r r2 g, refl)

some_running : (all : List ReplayRow) (row : ReplayRow) (others : List ReplayRow) → all ≡ [] → all ≡ row ∷ others → ⊥
some_running all row others empty first = let both : [] ≡ row ∷ others = sym empty ∙ first in cc

-- where steps stopped, no further one can be made
no_more : (s t : State) (xs ys : List StepAct) (ws : List Act) (why : Stop) (p : Placed) → End xs why → Step ys p → Given s t (acts_of xs) (acts_of ys ++ ws)
    → ¬ IsFault why → ⊥
no_more s t _ _ ws _ _ (idle_at r x idle) (stepped r2 p two) g known =
    let b = repeat_by t p (moment_of r2) g.two.runs.1.0 two in
    let tables : t.tables ≡ x.tables = g.state.tables ∙ sym (ap (λ (z : State). z.tables) g.one.runs.1.0) in
    some_running (running t.tables.replays) b.step.next.row b.step.next.others (ap (λ (z : Tables). running z.replays) tables ∙ idle) b.step.next.first
no_more s t _ _ ws _ _ (refused_at r _ _ (full_at x full)) (stepped r2 p two) g known =
    let b = repeat_by t p (moment_of r2) g.two.runs.1.0 two in
    let tables : t.tables ≡ x.tables = g.state.tables ∙ sym (ap (λ (z : State). z.tables) g.one.runs.1.0) in
    let free : is_full t.tables ≡ false = b.numbered in
    let at : is_full t.tables ≡ true = ap is_full tables ∙ full.0 in
    cc
no_more s t _ _ ws _ _ (refused_at r _ _ (broken_at x broken)) _ g known = known (inr refl)
no_more s t _ _ ws _ _ (refused_at r _ _ (broken_by p breaks)) _ g known = known (inr refl)
no_more s t _ _ ws _ _ (refused_at r _ _ (out_of_memory x)) _ g known = known (inl refl)

-- ---- several steps

split_given : (s t : State) (xs vs ys ws : List StepAct) → Given s t (acts_of (xs ++ vs)) (acts_of (ys ++ ws))
    → Given s t (acts_of xs ++ acts_of vs) (acts_of ys ++ acts_of ws)
split_given s t xs vs ys ws g =
    subst (λ z. Given s t z (acts_of ys ++ acts_of ws)) (map-append act_of xs vs)
    (subst (Given s t (acts_of (xs ++ vs))) (map-append act_of ys ws) g)

joined_same : (s t : State) (xs vs ys ws : List StepAct) → Same s t (acts_of xs ++ acts_of vs) (acts_of ys ++ acts_of ws)
    → Same s t (acts_of (xs ++ vs)) (acts_of (ys ++ ws))
joined_same s t xs vs ys ws is =
    subst (λ z. Same s t z (acts_of (ys ++ ws))) (sym (map-append act_of xs vs))
    (subst (Same s t (acts_of xs ++ acts_of vs)) (sym (map-append act_of ys ws)) is)

one_longer : (made : List Placed) (new : Placed) → length (made ++ new ∷ []) ≡ length made + 1
one_longer made new = length-append made (new ∷ [])

-- the same number of steps
same_taken : OneStep → (s t : State) (xs ys : List StepAct) (ps qs : List Placed) → Taken xs ps → Taken ys qs → length qs ≡ length ps
    → Given s t (acts_of xs) (acts_of ys) → Same s t (acts_of xs) (acts_of ys)
same_taken law s t _ _ _ _ none none count g = record { state = g.state; does = record { turns = refl; readings = refl; tries = refl; bytes = refl } }
same_taken law s t _ _ _ _ none (one_more ys other qs q before two) count g = absurd (omega (arith, one_longer qs q, count))
same_taken law s t _ _ _ _ (one_more xs step ps p before one) none count g = absurd (omega (arith, one_longer ps p, count))
same_taken law s t _ _ _ _ (one_more xs step ps p before one) (one_more ys other qs q before2 two) count g =
    let given = split_given s t xs step ys other g in
    let first = same_taken law s t xs ys ps qs before before2 (omega (arith, one_longer ps p, one_longer qs q, count))
    (given_front s t (acts_of xs) (acts_of ys) (acts_of step) (acts_of other) given) in
    let second = same_step law (after_acts (acts_of xs) s) (after_acts (acts_of ys) t) step other p q one two
    (given_rest s t (acts_of xs) (acts_of ys) (acts_of step) (acts_of other) first given) in
    joined_same s t xs step ys other (same_append s t (acts_of xs) (acts_of ys) (acts_of step) (acts_of other) first second)

-- where the steps of one stopped, the other made no further one
not_further : OneStep → (s t : State) (xs last ys : List StepAct) (ws : List Act) (ps qs : List Placed) (why : Stop) → Taken xs ps → End last why → ¬ IsFault why
    → Taken ys qs → length ps < length qs → Given s t (acts_of xs ++ acts_of last) (acts_of ys ++ ws) → ⊥
not_further law s t xs last _ ws ps _ why taken stop known none less g = omega (arith, less)
not_further law s t xs last _ ws ps _ why taken stop known (one_more ys step qs q before one) less g =
    let parts = ap (λ z. z ++ ws) (map-append act_of ys step) ∙ append_assoc (acts_of ys) (acts_of step) ws in
    let given = subst (Given s t (acts_of xs ++ acts_of last)) parts g in
    elim (cases_lt (length ps) (length qs)) [
      | inl below ↦ not_further law s t xs last ys (acts_of step ++ ws) ps qs why taken stop known before below given
      | inr above ↦
          let same = same_taken law s t xs ys ps qs taken before (omega (arith, above, less, one_longer qs q))
          (given_front s t (acts_of xs) (acts_of ys) (acts_of last) (acts_of step ++ ws) given) in
          no_more (after_acts (acts_of xs) s) (after_acts (acts_of ys) t) last step ws why q stop one
          (given_rest s t (acts_of xs) (acts_of ys) (acts_of last) (acts_of step ++ ws) same given) known
    ]

same_returned : (ps qs : List Placed) (stop : Option Stop) → length qs ≡ length ps → returned qs stop ≡ returned ps stop
same_returned ps qs None is = ap (λ n. Ok n) is
same_returned ps qs (Some none_left) is = ap (λ n. Ok n) is
same_returned ps qs (Some (refused fault)) is = ap (λ n. Err (record { made = n; fault = fault })) is

fault_failure : (ps : List Placed) (why : Stop) → IsFault why → IsFailureReply (replays_reply (returned ps (Some why)))
fault_failure ps why (inl is) = inl (ap (λ w. replays_reply (returned ps (Some w))) is)
fault_failure ps why (inr is) = inr (ap (λ w. replays_reply (returned ps (Some w))) is)

-- within the same budget
same_ran : OneStep → (s t : State) (budget : ℕ) (xs ys : List StepAct) (a b : Result ℕ StepsFault)
    → (one : Ran Repeats BreaksRepeat IsNoneRunning IsRepeatFull IsRepeatBroken budget xs a)
    → (two : Ran Repeats BreaksRepeat IsNoneRunning IsRepeatFull IsRepeatBroken budget ys b) → ¬ IsFailureReply (replays_reply a)
    → ¬ IsFailureReply (replays_reply b) → Given s t (acts_of xs) (acts_of ys) → Same s t (acts_of xs) (acts_of ys) × (b ≡ a)
same_ran law s t budget xs ys a b one two known known2 g = by xs ys one.turns two.turns one.stop two.stop one.steps_made two.steps_made one.is two.is g
  where
    by : (xs ys : List StepAct) (ps qs : List Placed) (stop other : Option Stop) → Steps Step End budget xs ps stop → Steps Step End budget ys qs other
        → a ≡ returned ps stop → b ≡ returned qs other → Given s t (acts_of xs) (acts_of ys) → Same s t (acts_of xs) (acts_of ys) × (b ≡ a)
    by _ _ _ _ _ _ (spent xs ps taken used) (spent ys qs taken2 used2) is is2 g =
        let count : length qs ≡ length ps = used2 ∙ sym used in
        (same_taken law s t xs ys ps qs taken taken2 count g, is2 ∙ same_returned ps qs None count ∙ sym is)
    by _ _ _ _ _ _ (spent xs ps taken used) (stopped ys last qs why taken2 less stop) is is2 g =
        let sound : ¬ IsFault why = λ fault. known2 (subst (λ r. IsFailureReply (replays_reply r)) (sym is2) (fault_failure qs why fault)) in
        absurd (not_further law t s ys last xs [] qs ps why taken2 stop sound taken (omega (arith, less, used))
        (given_other s t (acts_of xs ++ []) (acts_of ys ++ acts_of last)
        (subst (λ z. Given s t z (acts_of ys ++ acts_of last)) (sym (append-nil (acts_of xs)))
        (subst (Given s t (acts_of xs)) (map-append act_of ys last) g))))
    by _ _ _ _ _ _ (stopped xs last ps why taken less stop) (spent ys qs taken2 used) is is2 g =
        let sound : ¬ IsFault why = λ fault. known (subst (λ r. IsFailureReply (replays_reply r)) (sym is) (fault_failure ps why fault)) in
        absurd (not_further law s t xs last ys [] ps qs why taken stop sound taken2 (omega (arith, less, used))
        (subst (Given s t (acts_of xs ++ acts_of last)) (sym (append-nil (acts_of ys)))
        (subst (λ z. Given s t z (acts_of ys)) (map-append act_of xs last) g)))
    by _ _ _ _ _ _ (stopped xs last ps why taken less stop) (stopped ys last2 qs other taken2 less2 stop2) is is2 g =
        let sound : ¬ IsFault why = λ fault. known (subst (λ r. IsFailureReply (replays_reply r)) (sym is) (fault_failure ps why fault)) in
        let sound2 : ¬ IsFault other = λ fault. known2 (subst (λ r. IsFailureReply (replays_reply r)) (sym is2) (fault_failure qs other fault)) in
        let given = split_given s t xs last ys last2 g in
        let count : length qs ≡ length ps = same_count (length ps) (length qs)
        (λ less. not_further law s t xs last ys (acts_of last2) ps qs why taken stop sound taken2 less given)
        (λ less. not_further law t s ys last2 xs (acts_of last) qs ps other taken2 stop2 sound2 taken less
        (given_other s t (acts_of xs ++ acts_of last) (acts_of ys ++ acts_of last2) given)) in
        let first = same_taken law s t xs ys ps qs taken taken2 count (given_front s t (acts_of xs) (acts_of ys) (acts_of last) (acts_of last2) given) in
        let second = same_end (after_acts (acts_of xs) s) (after_acts (acts_of ys) t) last last2 why other stop stop2
        (given_rest s t (acts_of xs) (acts_of ys) (acts_of last) (acts_of last2) first given) sound sound2 in (
          joined_same s t xs last ys last2 (same_append s t (acts_of xs) (acts_of ys) (acts_of last) (acts_of last2) first second.0),
          is2 ∙ ap (λ w. returned qs (Some w)) second.1 ∙ same_returned ps qs (Some why) count ∙ sym is,
        )

-- the steps of replays of two sessions within the same budget, neither out of memory or with a broken book
pub same_repeats : OneStep → (s t : State) (budget : ℕ) (xs ys : List Act) (a b : Result ℕ StepsFault) → Repeating budget xs a → Repeating budget ys b
    → ¬ IsFailureReply (replays_reply a) → ¬ IsFailureReply (replays_reply b) → Given s t xs ys → Same s t xs ys × (b ≡ a)
same_repeats law s t budget xs ys a b one two known known2 g =
    let given = subst (λ z. Given s t z (acts_of two.steps)) one.are (subst (Given s t xs) two.are g) in
    let is = same_ran law s t budget one.steps two.steps a b one.ran two.ran known known2 given in
    (subst (λ z. Same s t z ys) (sym one.are) (subst (Same s t (acts_of one.steps)) (sym two.are) is.0), is.1)

-- nothing is read meanwhile
pub repeats_read : (budget : ℕ) (xs : List Act) (made : Result ℕ StepsFault) → Repeating budget xs made → read_in xs ≡ []
repeats_read budget xs made is = ap read_in is.are ∙ ap concat (pieces_none is.steps)
