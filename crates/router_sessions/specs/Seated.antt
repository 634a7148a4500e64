-- For private clauses: what the courier's calls do through a pass.
use Rattle.std.specs.Prelude.{ℕ, ◌<◌, ◌^◌, [], ◌∷◌, Bool, Option, Result, IfOk, IfErr, IfSome, IfNone, MatchBool}
use denote.Ref.{MutBor}
use denote.Param.Members.{Shared}
use Rattle.atomic_table.specs.Seated.{TableId}
use Rattle.json_text.specs.Moment.{IsMoment}
use Rattle.delivery_duties.specs.declared.outcome.Outcome.{Outcome}
use Rattle.delivery_duties.specs.declared.outcome.Fate.{Fate}
use Rattle.courier_run.specs.declared.book.BookFault.{BookFault}
use Rattle.courier_run.specs.Act.{looks}
use Rattle.courier_run.specs.Book.{HasCause}
use Rattle.courier_run.specs.Claim.{Claim, FitsClaim, NeedsSend}
use Rattle.courier_run.specs.Steps.{unsent}
use Rattle.step_run.specs.declared.fault.StepFault.{StepFault}
use Rattle.router_history.specs.declared.book.Seat.{Seat}
use Rattle.router_history.specs.declared.held.Held.{Held}
use Rattle.router_history.specs.History.{state_of}
use Rattle.router_history.specs.Held.{held_claim}
use Rattle.router_history.specs.Book.{IsBook, Rests, Holds}
use Rattle.router_history.specs.Acts.{Makes, IsIdle, IsFullAt, IsBrokenAt}
use Rattle.router_history.specs.Answered.{IsClaimed, IsRecorded, IsUnrecordedBy, IsPutBack, IsRepeated, HasNoRepeat, IsUnrepeated}
use Rattle.router_sessions.specs.Desk.{Known, turns_seen, SeesMore}
use Rattle.router_sessions.specs.Delivery.{IsSeated}

-- what a claim from the seat returns
pub record IsClaimResult {V : Type 0} (seat : Seat) (moment : ℕ) (old new : Known V) (result : Result (Option Held) BookFault) : Type 0 where
  pub first : IsBook (turns_seen old)
  pub book : IsBook (turns_seen new)
  pub more : SeesMore old new
  pub held : IfOk result (λ found. IfSome found (λ held. IsClaimed seat moment (turns_seen old) (turns_seen new) (held_claim held)))
  pub idle : IfOk result (λ found. IfNone found (IsIdle (state_of (turns_seen new)) moment
      × Makes seat (looks (state_of (turns_seen new)) ∷ []) (turns_seen old) (turns_seen new) × Rests seat.pass (turns_seen new)))
  pub refused : IfErr result (λ fault. HasCause (IsFullAt (state_of (turns_seen new)) moment) (IsBrokenAt (state_of (turns_seen new)) moment) fault
      × Makes seat (looks (state_of (turns_seen new)) ∷ []) (turns_seen old) (turns_seen new) × Rests seat.pass (turns_seen new))

-- what a record from the seat returns
pub record IsRecordResult {V : Type 0} (seat : Seat) (c : Claim) (had : Outcome) (old new : Known V) (result : Result Fate BookFault) : Type 0 where
  pub first : IsBook (turns_seen old)
  pub book : IsBook (turns_seen new)
  pub more : SeesMore old new
  pub recorded : IfOk result (λ fate. IsRecorded seat c had fate (turns_seen old) (turns_seen new))
  pub refused : IfErr result (λ fault. IsUnrecordedBy seat c had fault (turns_seen old) (turns_seen new))

-- what a put-back from the seat does
pub record IsBackResult {V : Type 0} (seat : Seat) (c : Claim) (old new : Known V) : Type 0 where
  pub first : IsBook (turns_seen old)
  pub book : IsBook (turns_seen new)
  pub more : SeesMore old new
  pub back : IsPutBack seat c unsent (turns_seen old) (turns_seen new)

-- what a step of the replays from the seat returns
pub record IsStepResult {V : Type 0} (seat : Seat) (moment : ℕ) (old new : Known V) (result : Result Bool StepFault) : Type 0 where
  pub first : IsBook (turns_seen old)
  pub book : IsBook (turns_seen new)
  pub more : SeesMore old new
  pub stepped : IfOk result (λ made. MatchBool made (IsRepeated seat moment (turns_seen old) (turns_seen new))
      (HasNoRepeat seat moment (turns_seen old) (turns_seen new)))
  pub refused : IfErr result (λ fault. IsUnrepeated seat moment fault (turns_seen old) (turns_seen new))

module _ {P V S : Type 0} (known : P → Known V) where
  -- a closure that makes steps of replays through a pass of this hall and this seat
  pub record IsRepeater (hall : TableId) (seat : Seat) (passes made : ℕ)
      (f : Shared S (MutBor P × (ℕ × Unit {0})) (Result Bool StepFault × (MutBor P × Unit {0}))) (step : S) : Type 0 where
    pub may_step : (pass : MutBor P) (reading : ℕ) → reading < 2 ^ 64 → IsSeated hall seat passes made (known pass.now) → IsMoment reading
        → Rests seat.pass (turns_seen (known pass.now)) → f.pre step (pass, (reading, tt))
    pub steps : (pass after : MutBor P) (reading : ℕ) (result : Result Bool StepFault)
        → IsSeated hall seat passes made (known pass.now) → IsMoment reading → Rests seat.pass (turns_seen (known pass.now))
        → f.post step (pass, (reading, tt)) (result, (after, tt))
        → IsSeated hall seat passes made (known after.now) × Rests seat.pass (turns_seen (known after.now))
        × IsStepResult seat reading (known pass.now) (known after.now) result

module _ {P V C R B : Type 0} (known : P → Known V) where
  -- closures that claim, record and put back through a pass of this hall and this seat
  pub record AreSeated (hall : TableId) (seat : Seat) (passes made : ℕ)
      (f : Shared C (MutBor P × (ℕ × Unit {0})) (Result (Option Held) BookFault × (MutBor P × Unit {0}))) (claim : C)
      (g : Shared R (MutBor P × (Held × (Outcome × Unit {0}))) (Result Fate BookFault × (MutBor P × Unit {0}))) (record_of : R)
      (h : Shared B (MutBor P × (Held × Unit {0})) (Unit {0} × (MutBor P × Unit {0}))) (put_back : B) : Type 0 where
    pub may_claim : (pass : MutBor P) (reading : ℕ) → reading < 2 ^ 64 → IsSeated hall seat passes made (known pass.now) → IsMoment reading
        → Rests seat.pass (turns_seen (known pass.now)) → f.pre claim (pass, (reading, tt))
    pub claims : (pass after : MutBor P) (reading : ℕ) (result : Result (Option Held) BookFault)
        → IsSeated hall seat passes made (known pass.now) → IsMoment reading → Rests seat.pass (turns_seen (known pass.now))
        → f.post claim (pass, (reading, tt)) (result, (after, tt))
        → IsSeated hall seat passes made (known after.now) × IsClaimResult seat reading (known pass.now) (known after.now) result
    pub may_record : (pass : MutBor P) (held : Held) (outcome : Outcome) → IsSeated hall seat passes made (known pass.now)
        → Holds seat.pass (turns_seen (known pass.now)) (held_claim held) → FitsClaim (held_claim held) outcome → g.pre record_of (pass, (held, (outcome, tt)))
    pub records : (pass after : MutBor P) (held : Held) (outcome : Outcome) (result : Result Fate BookFault)
        → IsSeated hall seat passes made (known pass.now) → Holds seat.pass (turns_seen (known pass.now)) (held_claim held) → FitsClaim (held_claim held) outcome
        → g.post record_of (pass, (held, (outcome, tt))) (result, (after, tt))
        → IsSeated hall seat passes made (known after.now) × Rests seat.pass (turns_seen (known after.now))
        × IsRecordResult seat (held_claim held) outcome (known pass.now) (known after.now) result
    pub may_put_back : (pass : MutBor P) (held : Held) → IsSeated hall seat passes made (known pass.now)
        → Holds seat.pass (turns_seen (known pass.now)) (held_claim held) → NeedsSend (held_claim held) → h.pre put_back (pass, (held, tt))
    pub puts_back : (pass after : MutBor P) (held : Held) → IsSeated hall seat passes made (known pass.now)
        → Holds seat.pass (turns_seen (known pass.now)) (held_claim held) → NeedsSend (held_claim held) → h.post put_back (pass, (held, tt)) (tt, (after, tt))
        → IsSeated hall seat passes made (known after.now) × Rests seat.pass (turns_seen (known after.now))
        × IsBackResult seat (held_claim held) (known pass.now) (known after.now)
