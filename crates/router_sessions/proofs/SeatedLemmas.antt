-- From the clauses of the desk to those of the courier's trait: `claim_found`, `claim_refused`, `record_made`, `record_refused`, `back_did`; to those of a
-- run of steps: `step_made`, `step_refused`; the seat of a pass, `seat_is`, `still_seated`.
use Rattle.std.proofs.Common.{◌≡◌, ℕ, Bool, true, false, List, [], ◌∷◌, map, Option, Some, None, Result, Ok, Err, ap, ◌∙◌}
use Rattle.std.specs.Prelude.{IfOk, IfErr, MatchBool, MatchOption}
use Rattle.atomic_table.specs.Seated.{TableId}
use Rattle.turn_book.specs.Passes.{IsFree, IsSamePass}
use Rattle.delivery_duties.specs.declared.outcome.Outcome.{Outcome}
use Rattle.delivery_duties.specs.declared.outcome.Fate.{Fate}
use Rattle.courier_run.specs.declared.book.BookFault.{BookFault}
use Rattle.courier_run.specs.Act.{looks, makes}
use Rattle.courier_run.specs.Book.{HasCause, stop_of}
use Rattle.courier_run.specs.Claim.{Claim}
use Rattle.courier_run.specs.Steps.{unsent}
use Rattle.step_run.specs.Act as step
use Rattle.step_run.specs.Step.{IsRefusal}
use Rattle.step_run.specs.declared.fault.StepFault.{StepFault}
use Rattle.router_history.specs.declared.book.Seat.{Seat}
use Rattle.router_history.specs.declared.held.Held.{Held}
use Rattle.router_history.specs.History.{State, Placed, state_of}
use Rattle.router_history.specs.Held.{held_claim}
use Rattle.router_history.specs.Book.{IsBook, Rests, Holds}
use Rattle.router_history.specs.Acts.{Act, Claims, Records, PutsBack, IsIdle, IsFullAt, IsBrokenAt, IsUnrecorded}
use Rattle.router_history.specs.Acts.{StepAct, act_of, Repeats, BreaksRepeat, IsNoneRunning, IsRepeatFull, IsRepeatBroken}
use Rattle.router_sessions.specs.Desk.{Known, turns_seen, number_of, seat_of}
use Rattle.router_sessions.specs.Delivery.{Did, IsSeated}
use Rattle.router_sessions.specs.Repeating.{DidSteps}
use Rattle.router_sessions.specs.Seated.{IsBackResult, IsClaimResult, IsRecordResult, IsStepResult}
use Rattle.router_sessions.proofs.DidLemmas.{did_made}

-- the seat of a pass
pub seat_is : {V : Type 0} (seat : Seat) (connection : Option ℕ) (known : Known V) → connection ≡ seat.connection → number_of known ≡ seat.pass
    → seat_of connection known ≡ seat
seat_is seat connection known named number =
    ap (λ (n : ℕ). record { pass = n; connection = connection }) number ∙ ap (λ (o : Option ℕ). record { pass = seat.pass; connection = o }) named

-- the same pass, after a turn
pub still_seated : {V : Type 0} (hall : TableId) (seat : Seat) (passes made : ℕ) (old new : Known V) → IsSeated hall seat passes made old → IsSamePass old new → IsFree new
    → IsBook (turns_seen new) → IsSeated hall seat passes made new
still_seated hall seat passes made old new (table, free, number, p, m, book) (t, n, ps, ms) free_new book_new =
    (t ∙ table, free_new, n ∙ number, ps ∙ p, ms ∙ m, book_new)

pub claim_found : {V : Type 0} (seat : Seat) (moment : ℕ) (old new : Known V) (result : Result (Option Held) BookFault) → IsClaimResult seat moment old new result
    → IfOk result (λ found. MatchOption found
    (Rests seat.pass (turns_seen new) × ((s : State) × Did seat old new (looks s ∷ []) × IsIdle s moment))
    (λ held. Holds seat.pass (turns_seen new) (held_claim held) × ((p : Placed) × Did seat old new (makes p ∷ []) × Claims p (held_claim held) moment)))
claim_found seat moment old new (Ok (Some held)) r =
    let a = r.held in (a.holds, (a.placed, did_made seat old new (makes a.placed ∷ []) r.first r.book r.more a.makes, a.claims))
claim_found seat moment old new (Ok None) r =
    let (idle, looked, rests) = r.idle in
    let s = state_of (turns_seen new) in (rests, (s, did_made seat old new (looks s ∷ []) r.first r.book r.more looked, idle))
claim_found seat moment old new (Err fault) r = tt

pub claim_refused : {V : Type 0} (seat : Seat) (moment : ℕ) (old new : Known V) (result : Result (Option Held) BookFault) → IsClaimResult seat moment old new result
    → IfErr result (λ fault. Rests seat.pass (turns_seen new)
    × ((s : State) × Did seat old new (looks s ∷ []) × HasCause (IsFullAt s moment) (IsBrokenAt s moment) fault))
claim_refused seat moment old new (Ok found) r = tt
claim_refused seat moment old new (Err fault) r =
    let (cause, looked, rests) = r.refused in
    let s = state_of (turns_seen new) in (rests, (s, did_made seat old new (looks s ∷ []) r.first r.book r.more looked, cause))

pub record_made : {V : Type 0} (seat : Seat) (c : Claim) (had : Outcome) (old new : Known V) (result : Result Fate BookFault) → IsRecordResult seat c had old new result
    → IfOk result (λ fate. (q : Placed) × Did seat old new (makes q ∷ []) × Records q (record { claim = c; outcome = had; fate = fate }))
record_made seat c had old new (Ok fate) r =
    let a = r.recorded in (a.placed, did_made seat old new (makes a.placed ∷ []) r.first r.book r.more a.makes, a.records)
record_made seat c had old new (Err fault) r = tt

-- a claim that was put back
pub back_did : {V : Type 0} (seat : Seat) (c : Claim) (old new : Known V) → IsBackResult seat c old new
    → (q : Placed) × Did seat old new (makes q ∷ []) × PutsBack q c unsent
back_did seat c old new r = (r.back.placed, did_made seat old new (makes r.back.placed ∷ []) r.first r.book r.more r.back.makes, r.back.puts_back)

pub record_refused : {V : Type 0} (seat : Seat) (c : Claim) (had : Outcome) (old new : Known V) (result : Result Fate BookFault) → IsRecordResult seat c had old new result
    → IfErr result (λ fault. (acts : List Act) × Did seat old new acts × IsUnrecorded c had acts (stop_of fault))
record_refused seat c had old new (Ok fate) r = tt
record_refused seat c had old new (Err fault) r = (r.refused.acts, did_made seat old new r.refused.acts r.first r.book r.more r.refused.makes, r.refused.ends)

-- a step of the replays, or a look that finds none
pub step_made : {V : Type 0} (seat : Seat) (moment : ℕ) (old new : Known V) (result : Result Bool StepFault) → IsStepResult seat moment old new result
    → IfOk result (λ made. MatchBool made
    ((p : Placed) × DidSteps seat old new (step.makes p ∷ []) × Repeats p moment)
    ((s : State) × DidSteps seat old new (step.looks s ∷ []) × IsNoneRunning s moment))
step_made seat moment old new (Ok true) r =
    let a = r.stepped in (a.placed, did_made seat old new (makes a.placed ∷ []) r.first r.book r.more a.makes, a.repeats)
step_made seat moment old new (Ok false) r =
    let (looked, none) = r.stepped in
    let s = state_of (turns_seen new) in (s, did_made seat old new (looks s ∷ []) r.first r.book r.more looked, none)
step_made seat moment old new (Err fault) r = tt

pub step_refused : {V : Type 0} (seat : Seat) (moment : ℕ) (old new : Known V) (result : Result Bool StepFault) → IsStepResult seat moment old new result
    → IfErr result (λ fault. (acts : List StepAct) × DidSteps seat old new acts
    × IsRefusal (λ p. BreaksRepeat p moment) (λ s. IsRepeatFull s moment) (λ s. IsRepeatBroken s moment) acts fault)
step_refused seat moment old new (Ok made) r = tt
step_refused seat moment old new (Err fault) r =
    (r.refused.acts, did_made seat old new (map act_of r.refused.acts) r.first r.book r.more r.refused.makes, r.refused.refused)
