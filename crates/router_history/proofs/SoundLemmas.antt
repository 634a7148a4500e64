-- A book after a step of its machine: `sound_alone` (no turn), `sound_same` (a turn without a batch), `sound_claimed`, `sound_appended` (a batch was appended),
-- `sound_lost` (its append failed); `decided_can_append`, `attempt_can_append`, `step_can_append`, that a batch may be appended; `holds_broken`, a claim once the book is broken.
use Rattle.std.proofs.Common.{◌≡◌, ℕ, true, false, List, [], ◌∷◌, Option, Some, None, Result, Ok, Err, refl, sym, ap, ◌∙◌, subst}
use Rattle.std.specs.Prelude.{IfOk, IfErr, IfSome, IfNone}
use Rattle.router_disk.specs.declared.disk_call.DiskCall.{DiskCall}
use Rattle.api_replies.specs.declared.reply.Reply.{Reply as CodeReply}
use Rattle.delivery_duties.specs.declared.outcome.Outcome.{Outcome}
use Rattle.router_core.specs.Admitted.{IsAdmitted}
use Rattle.router_requests.specs.Batch.{Batch}
use Rattle.router_requests.specs.Request.{Request}
use Rattle.router_core.specs.Replaying.{IsReplayStep}
use Rattle.router_core.specs.Steps.{record_of}
use Rattle.router_requests.specs.View.{batch_of}
use Rattle.router_core.specs.declared.ready.Ready.{Ready}
use Rattle.router_calls.specs.View.{answer_of}
use Rattle.duty_journal.specs.declared.fault.DiskFault.{DiskFault}
use Rattle.duty_journal.specs.declared.home.Home.{Home}
use Rattle.duty_journal.specs.Home.{CanAppend, HasAppended, is_broken_home}
use Rattle.courier_run.specs.declared.book.BookFault.{BookFault}
use Rattle.courier_run.specs.Book.{HasCause}
use Rattle.courier_run.specs.Claim.{Claim}
use Rattle.router_history.specs.declared.book.Book.{Book}
use Rattle.router_history.specs.declared.book.Machine.{Machine}
use Rattle.router_history.specs.declared.book.Seat.{Seat}
use Rattle.router_history.specs.declared.held.Held.{Held}
use Rattle.router_history.specs.History.{Turn, State, Ask, opens, asked, claims, records, puts_back, repeats, breaks, after_ask, after_change, claims_of, state_of, unacknowledged_by, IsTurnFor}
use Rattle.router_history.specs.Held.{held_claim}
use Rattle.router_history.specs.Book.{turns_of, IsBook, IsSoundMachine, Holds}
use Rattle.router_history.specs.Home.{IsSoundBook}
use Rattle.router_history.specs.Acts.{IsIdle, IsFullAt, IsBrokenAt}
use Rattle.router_history.specs.Answered.{IsAdded, IsClaimed, IsDecided}
use Rattle.router_history.proofs.BatchLemmas.{after_one, legal_one}
use Rattle.router_history.proofs.HomeLemmas.{broken_at, can_append, home_alone, home_same, home_appended, home_lost}
use Rattle.router_history.proofs.NamingLemmas.{answer_names, repeat_names}

-- an ask that does not break the book
abbrev pub Still : Ask → Type 0
Still (opens start found disk) = Unit {0}
Still (asked request) = Unit {0}
Still (claims c) = Unit {0}
Still (records a) = Unit {0}
Still (puts_back c why) = Unit {0}
Still (repeats reading) = Unit {0}
Still (breaks unsure) = ⊥

-- it leaves no batch unacknowledged
still_acknowledged : (ask : Ask) → Still ask → unacknowledged_by ask ≡ []
still_acknowledged (opens start found disk) still = refl
still_acknowledged (asked request) still = refl
still_acknowledged (claims c) still = refl
still_acknowledged (records a) still = refl
still_acknowledged (puts_back c why) still = refl
still_acknowledged (repeats reading) still = refl
still_acknowledged (breaks unsure) still = absurd still

broken_written : (b : Option Batch) (s : State) → (after_change b s).broken ≡ s.broken
broken_written None s = refl
broken_written (Some b) s = refl

broken_still : (turn : Turn) (ask : Ask) (s : State) → Still ask → IsTurnFor s turn ask → (after_ask turn ask s).broken ≡ s.broken
broken_still turn (opens start found disk) s still is = absurd is
broken_still turn (asked request) s still is = broken_written turn.batch s
broken_still turn (claims c) s still is = refl
broken_still turn (records a) s still is = broken_written turn.batch s
broken_still turn (puts_back c why) s still is = refl
broken_still turn (repeats reading) s still is = broken_written turn.batch s
broken_still turn (breaks unsure) s still is = absurd still

broken_added : (old new : List Turn) (ask : Ask) (batch : Option Batch) → Still ask → IsBook old → IsBook new → IsAdded ask batch old new
    → (state_of new).broken ≡ (state_of old).broken
broken_added old new ask batch still h h_new (turn, is, wrote, turns) =
    ap (λ (s : State). s.broken) (after_one old new turn ask is turns)
    ∙ broken_still turn ask (state_of old) still (subst (λ (a : Ask). IsTurnFor (state_of old) turn a) is (legal_one old new turn h h_new turns))

module _ {D : Type 0} (calls : D → List DiskCall) (faults : D → ℕ) where
  pub sound_alone : (b : Book D) (m : Machine) → IsSoundBook calls faults b → IsSoundMachine m → turns_of m ≡ turns_of b.machine
      → IsSoundBook calls faults (record { machine = m; home = b.home })
  sound_alone b m s kept same = record { kept = kept; home = home_alone calls faults (turns_of b.machine) (turns_of m) b.home same s.home }

  pub sound_same : (b : Book D) (m : Machine) (ask : Ask) → Still ask → IsSoundBook calls faults b → IsSoundMachine m → IsAdded ask None (turns_of b.machine) (turns_of m)
      → IsSoundBook calls faults (record { machine = m; home = b.home })
  sound_same b m ask still s kept added = record {
    kept = kept;
    home = home_same calls faults (turns_of b.machine) (turns_of m) b.home ask s.kept.book kept.book added (still_acknowledged ask still)
        (broken_added (turns_of b.machine) (turns_of m) ask None still s.kept.book kept.book added) s.home;
  }

  pub sound_claimed : (b : Book D) (m : Machine) (seat : Seat) (reading : ℕ) (result : Result (Option Held) BookFault) → IsSoundBook calls faults b → IsSoundMachine m
      → IfOk result (λ found. IfSome found (λ held. IsClaimed seat reading (turns_of b.machine) (turns_of m) (held_claim held)
      × IsAdded (claims (held_claim held)) None (turns_of b.machine) (turns_of m)))
      → IfOk result (λ found. IfNone found (IsIdle (state_of (turns_of b.machine)) reading × (turns_of m ≡ turns_of b.machine)))
      → IfErr result (λ fault. HasCause (IsFullAt (state_of (turns_of b.machine)) reading) (IsBrokenAt (state_of (turns_of b.machine)) reading) fault
      × (turns_of m ≡ turns_of b.machine))
      → IsSoundBook calls faults (record { machine = m; home = b.home })
  sound_claimed b m seat reading (Ok (Some held)) s kept found none refused = sound_same b m (claims (held_claim held)) tt s kept found.1
  sound_claimed b m seat reading (Ok None) s kept found none refused = sound_alone b m s kept none.1
  sound_claimed b m seat reading (Err fault) s kept found none refused = sound_alone b m s kept refused.1

  pub sound_appended : (b : Book D) (m : Machine) (home : Home D) (ask : Ask) (batch : Batch) (result : Result (Unit {0}) DiskFault) → Still ask → result ≡ Ok tt
      → IsSoundBook calls faults b → IsSoundMachine m → IsAdmitted b.machine.tables batch → is_broken_home b.home ≡ false
      → IsAdded ask (Some batch) (turns_of b.machine) (turns_of m) → HasAppended calls faults b.home home batch result
      → IsSoundBook calls faults (record { machine = m; home = home })
  sound_appended b m home ask batch result still ok s kept admitted whole added keeps = record {
    kept = kept;
    home = home_appended calls faults (turns_of b.machine) (turns_of m) b.machine.tables b.home home ask batch result ok s.kept.book kept.book s.kept.tables admitted
        (sym (broken_at calls faults (turns_of b.machine) b.home s.kept.book s.home) ∙ whole)
        (broken_added (turns_of b.machine) (turns_of m) ask (Some batch) still s.kept.book kept.book added) added s.home keeps;
  }

  pub sound_lost : (b : Book D) (m : Machine) (home : Home D) (batch : Batch) (result : Result (Unit {0}) DiskFault) (fault : DiskFault) → result ≡ Err fault
      → IsSoundBook calls faults b → IsSoundMachine m → IsAdmitted b.machine.tables batch → is_broken_home b.home ≡ false → IsAdded (breaks (batch ∷ [])) None (turns_of b.machine) (turns_of m)
      → HasAppended calls faults b.home home batch result → IsSoundBook calls faults (record { machine = m; home = home })
  sound_lost b m home batch result fault err s kept admitted whole added keeps = record {
    kept = kept;
    home = home_lost calls faults (turns_of b.machine) (turns_of m) b.home home batch b.machine.tables result fault err s.kept.book kept.book s.kept.tables admitted
        (sym (broken_at calls faults (turns_of b.machine) b.home s.kept.book s.home) ∙ whole) added s.home keeps;
  }

  -- the mark and the journal agree
  pub whole_book : (b : Book D) → IsSoundBook calls faults b → is_broken_home b.home ≡ false → (state_of (turns_of b.machine)).broken ≡ false
  whole_book b s whole = sym (broken_at calls faults (turns_of b.machine) b.home s.kept.book s.home) ∙ whole

  pub broken_book : (b : Book D) → IsSoundBook calls faults b → is_broken_home b.home ≡ true → (state_of (turns_of b.machine)).broken ≡ true
  broken_book b s broken = sym (broken_at calls faults (turns_of b.machine) b.home s.kept.book s.home) ∙ broken

  -- what was decided of a request may be appended
  pub decided_can_append : (b : Book D) (request : Request) (ready : Ready) (reply : CodeReply) → IsSoundBook calls faults b
      → IsDecided b.machine.tables request (Some ready, reply) → CanAppend b.home (batch_of ready.batch)
  decided_can_append b request ready reply s decided =
      can_append calls faults (turns_of b.machine) b.machine.tables b.home (batch_of ready.batch) s.kept.book s.kept.tables s.home decided.ready.admitted
      (λ named. answer_names b.machine.tables request b.machine.tables.set.count (answer_of (Some ready, reply)) named decided.answer)

  -- so may the record of an attempt
  pub attempt_can_append : (b : Book D) (batch : Batch) (moment duty : ℕ) (outcome : Outcome) → IsSoundBook calls faults b → IsAdmitted b.machine.tables batch
      → batch ≡ record_of moment duty outcome → CanAppend b.home (record_of moment duty outcome)
  attempt_can_append b batch moment duty outcome s admitted is =
      can_append calls faults (turns_of b.machine) b.machine.tables b.home (record_of moment duty outcome) s.kept.book s.kept.tables s.home
      (subst (λ (x : Batch). IsAdmitted b.machine.tables x) is admitted) (λ named. (tt, tt))

  -- and the next step of the replays
  pub step_can_append : (b : Book D) (moment : ℕ) (batch : Batch) → IsSoundBook calls faults b → IsAdmitted b.machine.tables batch
      → IsReplayStep b.machine.tables moment batch → CanAppend b.home batch
  step_can_append b moment batch s admitted step =
      can_append calls faults (turns_of b.machine) b.machine.tables b.home batch s.kept.book s.kept.tables s.home admitted
      (λ named. repeat_names b.machine.tables moment batch named step)

-- the claim of a pass, once the book is broken
pub holds_broken : (n : ℕ) (old new : List Turn) (unsure : List Batch) (c : Claim) → IsAdded (breaks unsure) None old new → Holds n old c → Holds n new c
holds_broken n old new unsure c (turn, is, wrote, turns) holds =
    ap (λ (s : State). claims_of n s.open_claims) (after_one old new turn (breaks unsure) is turns) ∙ holds

-- and then it is broken
pub broken_then : (old new : List Turn) (unsure : List Batch) → IsAdded (breaks unsure) None old new → (state_of new).broken ≡ true
broken_then old new unsure (turn, is, wrote, turns) = ap (λ (s : State). s.broken) (after_one old new turn (breaks unsure) is turns)
