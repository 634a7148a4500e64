-- From a record on the tables, or a release, to its turn: `is_open`, `errand_open`, `errand_after`, `due_by`, `recording`, `recorded`, `recorded_book`, `ended_rests`,
-- `back_made`, `put_back_book`, `back`, `limited_record`, `outcome_in`, `same_claim`, `record_is`.
use Rattle.std.proofs.Common.{◌≡◌, inl, inr, ℕ, ◌≤◌, false, List, [], ◌∷◌, ◌++◌, Option, Some, None, refl, sym, ap, ◌∙◌, subst}
use Rattle.shared_text.specs.declared.row.TargetRow.{TargetRow}
use Rattle.delivery_duties.specs.declared.duty.DutyRow.{DutyRow}
use Rattle.delivery_duties.specs.declared.outcome.Outcome.{Outcome}
use Rattle.delivery_duties.specs.declared.outcome.Outcome.TheVariants.{Accepted, NoAnswer, TooOld}
use Rattle.delivery_duties.specs.declared.outcome.Fate.{Fate}
use Rattle.delivery_queues.specs.Queues.{Queue}
use Rattle.delivery_duties.specs.declared.claim.Claim.{Claim as DutyClaim}
use Rattle.delivery_duties.specs.Duties.{pending_row}
use Rattle.rule_table.specs.RuleSet.{RuleSet}
use Rattle.router_core.specs.Admitted.{IsAdmitted}
use Rattle.router_requests.specs.Batch.{Batch}
use Rattle.router_core.specs.Tables.{Tables, is_full, moment_at, after_batch}
use Rattle.router_core.specs.Steps.{putting_back, IsErrandOf, IsRecordedAs, record_of, fate_after}
use Rattle.router_core.specs.declared.errand.Errand.{Errand}
use Rattle.courier_run.specs.Claim.{Claim, FitsClaim}
use Rattle.courier_run.specs.Claim as fits
use Rattle.courier_run.specs.declared.book.BookFault.TheVariants.{NumberLimit}
use Rattle.courier_run.specs.Act.{makes}
use Rattle.courier_run.specs.Steps.{Attempt, Why, limited, limited_by}
use Rattle.router_history.specs.declared.book.Machine.{Machine}
use Rattle.router_history.specs.declared.book.Seat.{Seat}
use Rattle.router_history.specs.declared.held.Held.{Held}
use Rattle.router_history.specs.History.{Ask, records, puts_back, Turn, State, state_of, after_ask, claims_of, IsReason}
use Rattle.router_history.specs.History.{IsOutcome, above_age, queued, queue_missing, sent, answered, unanswered, EndsClaim, IsRecordBy}
use Rattle.router_history.specs.Held.{held_claim}
use Rattle.router_history.specs.Book.{turns_of, IsSoundMachine, Holds, Rests}
use Rattle.router_history.specs.Acts.{IsOutcomeIn}
use Rattle.router_history.specs.Answered.{IsRecorded, IsUnrecordedBy, IsPutBack}
use Rattle.router_history.proofs.TurnLemmas.{mine_ended}
use Rattle.router_history.proofs.SteadyLemmas.{IsOpen, open_of}
use Rattle.router_history.proofs.BookLemmas.{steady_of, IsMade, latest, made_book, made_state, made_makes, placed_on, turn_by}

-- a claim that is held is open
pub is_open : (n : ℕ) (b : Machine) (c : Claim) → IsSoundMachine b → Holds n (turns_of b) c → IsOpen b.tables.duties b.tables.moment c
is_open n b c h holds =
    let s = state_of (turns_of b) in
    subst (λ (t : Tables). IsOpen t.duties t.moment c) h.tables
    (open_of s.tables.duties s.tables.moment n c s.open_claims (steady_of (turns_of b) h.book).opened holds)

-- the errand of a held duty
pub errand_open : (n : ℕ) (b : Machine) (held : Held) → IsSoundMachine b → Holds n (turns_of b) (held_claim held) → IsErrandOf b.tables held.errand
errand_open n b held h holds =
    let o = is_open n b (held_claim held) h holds in
    record {
      row = o.row;
      pending = o.pending;
      claimed = o.claimed;
      due = o.due;
      endpoint = sym (ap (λ (c : Claim). c.endpoint) o.claim);
    }

-- a claim was made by the moment of a turn at its reading
pub due_by : (n : ℕ) (b : Machine) (held : Held) → IsSoundMachine b → Holds n (turns_of b) (held_claim held) → held.errand.moment ≤ moment_at b.tables held.reading
due_by n b held h holds = (is_open n b (held_claim held) h holds).moment

-- what is recorded is an outcome that the attempt may have
outcome_of : (queues : List Queue) (c : Claim) (had made : Outcome) → FitsClaim c had → IsRecordedAs queues c.endpoint had made → IsOutcome queues c made
outcome_of queues c TooOld made (fits.above_age old) (inl (same, there)) = subst (IsOutcome queues c) (sym same) (above_age old)
outcome_of queues c TooOld made (fits.above_age old) (inr (is, same, rest)) = absurd (cc)
outcome_of queues c Accepted made (fits.for_queue young (queue, arn)) (inl (same, there)) =
    subst (IsOutcome queues c) (sym same) (queued young queue arn (there refl queue arn))
outcome_of queues c Accepted made (fits.for_queue young (queue, arn)) (inr (is, same, (name, its, missing))) =
    subst (IsOutcome queues c) (sym same) (queue_missing young name its missing)
outcome_of queues c Accepted made (fits.accepted needs) (inl (same, there)) = subst (IsOutcome queues c) (sym same) (sent needs)
outcome_of queues c Accepted made (fits.accepted needs) (inr (is, same, (name, its, missing))) = absurd (needs.0 (name, its))
outcome_of queues c _ made (fits.refused needs code failed) (inl (same, there)) = subst (IsOutcome queues c) (sym same) (answered needs code failed)
outcome_of queues c _ made (fits.refused needs code failed) (inr (is, same, rest)) = absurd (cc)
outcome_of queues c NoAnswer made (fits.unanswered needs) (inl (same, there)) = subst (IsOutcome queues c) (sym same) (unanswered needs)
outcome_of queues c NoAnswer made (fits.unanswered needs) (inr (is, same, rest)) = absurd (cc)

pub outcome_in : (queues : List Queue) (c : Claim) (had made : Outcome) → IsRecordedAs queues c.endpoint had made → IsOutcomeIn c had made
outcome_in queues c had made (inl (same, there)) = inl same
outcome_in queues c had made (inr (is, same, (queue, arn, missing))) = inr ((queue, arn), is, same)

-- the claim that is held, as the turn's own
own_claim : {seat : Seat} {ask : Ask} {batch : Option Batch} {old new : Machine} {turn : Turn} (c : Claim) → IsMade seat ask batch old new turn
    → Holds seat.pass (turns_of old) c → EndsClaim (state_of (turns_of old)) turn c
own_claim {seat} {ask} {batch} {old} {new} {turn} c m holds = record { pass = seat.pass; by = m.by; own = holds; latest = latest m }

-- the attempt that is recorded
abbrev pub attempt_of : Held → Outcome → Fate → Attempt
attempt_of held made fate = record { claim = held_claim held; outcome = made; fate = fate }

-- what is known when an outcome is recorded
pub record IsRecording (seat : Seat) (held : Held) (had made : Outcome) (fate : Fate) (moment : ℕ) (old new : Machine) (turn : Turn) : Type 0 where
  pub adds : IsMade seat (records (attempt_of held made fate)) (Some (record_of moment held.errand.claim.number made)) old new turn
  pub holds : Holds seat.pass (turns_of old) (held_claim held)
  pub at : moment ≡ moment_at old.tables held.reading
  pub fits : FitsClaim (held_claim held) had
  pub numbered : is_full old.tables ≡ false
  pub unbroken : (state_of (turns_of old)).broken ≡ false
  pub recorded : IsRecordedAs old.tables.duties.queues held.errand.target.endpoint had made
  pub admitted : IsAdmitted old.tables (record_of moment held.errand.claim.number made)
  pub fate_by : (row : DutyRow) → pending_row held.errand.claim.number old.tables.duties ≡ Some row
      → fate ≡ fate_after old.tables.duties.queues moment row made
  pub tables : new.tables ≡ after_batch (record_of moment held.errand.claim.number made) old.tables

moment_here : {seat : Seat} {held : Held} {had made : Outcome} {fate : Fate} {moment : ℕ} {old new : Machine} {turn : Turn}
    → IsRecording seat held had made fate moment old new turn → moment ≡ moment_at (state_of (turns_of old)).tables held.reading
moment_here {seat} {held} {had} {made} {fate} {moment} {old} {new} {turn} r = r.at ∙ ap (λ (t : Tables). moment_at t held.reading) (sym r.adds.kept.tables)

record_turn : {seat : Seat} {held : Held} {had made : Outcome} {fate : Fate} {moment : ℕ} {old new : Machine} {turn : Turn}
    → IsRecording seat held had made fate moment old new turn → IsRecordBy (state_of (turns_of old)) turn (attempt_of held made fate)
record_turn {seat} {held} {had} {made} {fate} {moment} {old} {new} {turn} r =
    let s = state_of (turns_of old) in
    let n : ℕ = held.errand.claim.number in
    let o = is_open seat.pass old (held_claim held) r.adds.kept r.holds in
    let here = sym r.adds.kept.tables in
    record {
      ends = own_claim (held_claim held) r.adds r.holds;
      numbered = subst (λ (t : Tables). is_full t ≡ false) here r.numbered;
      unbroken = r.unbroken;
      fits = subst (λ (t : Tables). IsOutcome t.duties.queues (held_claim held) made) here
          (outcome_of old.tables.duties.queues (held_claim held) had made r.fits r.recorded);
      row = o.row;
      there = subst (λ (t : Tables). pending_row n t.duties ≡ Some o.row) here o.pending;
      fate = r.fate_by o.row o.pending
          ∙ ap (λ x. fate_after old.tables.duties.queues x o.row made) (moment_here r)
          ∙ ap (λ (t : Tables). fate_after t.duties.queues (moment_at s.tables held.reading) o.row made) here;
      written = r.adds.batch ∙ ap (λ x. Some (record_of x n made)) (moment_here r);
    }

pub recorded_book : {seat : Seat} {held : Held} {had made : Outcome} {fate : Fate} {moment : ℕ} {old new : Machine} {turn : Turn}
    → IsRecording seat held had made fate moment old new turn → IsSoundMachine new
recorded_book {seat} {held} {had} {made} {fate} {moment} {old} {new} {turn} r =
    let b : Batch = record_of moment held.errand.claim.number made in
    let s = state_of (turns_of old) in
    made_book r.adds (record_turn r) r.admitted
    (r.tables ∙ ap (after_batch b) (sym r.adds.kept.tables)
    ∙ sym (ap (λ x. (after_ask (record turn { batch = x }) (records (attempt_of held made fate)) s).tables) r.adds.batch))

pub recorded : {seat : Seat} {held : Held} {had made : Outcome} {fate : Fate} {moment : ℕ} {old new : Machine} {turn : Turn}
    → IsRecording seat held had made fate moment old new turn → IsRecorded seat (held_claim held) had fate (turns_of old) (turns_of new)
recorded {seat} {held} {had} {made} {fate} {moment} {old} {new} {turn} r = record {
  placed = placed_on old turn;
  makes = made_makes r.adds;
  records = (made, outcome_in old.tables.duties.queues (held_claim held) had made r.recorded, r.adds.made_for);
}

-- the pass of a turn that records or puts back has no claim then
pub record_rests : {seat : Seat} {a : Attempt} {batch : Option Batch} {old new : Machine} {turn : Turn} → IsMade seat (records a) batch old new turn
    → Rests seat.pass (turns_of new)
record_rests {seat} {a} {batch} {old} {new} {turn} m =
    ap (λ (s : State). claims_of seat.pass s.open_claims) (made_state m) ∙ mine_ended seat.pass turn.pass (state_of (turns_of old)).open_claims m.by

pub back_rests : {seat : Seat} {c : Claim} {why : Why} {batch : Option Batch} {old new : Machine} {turn : Turn}
    → IsMade seat (puts_back c why) batch old new turn → Rests seat.pass (turns_of new)
back_rests {seat} {c} {why} {batch} {old} {new} {turn} m =
    ap (λ (s : State). claims_of seat.pass s.open_claims) (made_state m) ∙ mine_ended seat.pass turn.pass (state_of (turns_of old)).open_claims m.by

-- an outcome is recorded by the turn that was added
pub recording : (seat : Seat) (held shown : Held) (had made : Outcome) (fate : Fate) (moment : ℕ) (old new : Machine) (written : Batch) (k : ℕ) (set : RuleSet)
    → IsSoundMachine old → Holds seat.pass (turns_of old) (held_claim held) → moment ≡ moment_at old.tables held.reading → FitsClaim (held_claim held) had
    → is_full old.tables ≡ false → (state_of (turns_of old)).broken ≡ false → IsRecordedAs old.tables.duties.queues held.errand.target.endpoint had made
    → IsAdmitted old.tables (record_of moment held.errand.claim.number made) → written ≡ record_of moment held.errand.claim.number made
    → ((row : DutyRow) → pending_row held.errand.claim.number old.tables.duties ≡ Some row → fate ≡ fate_after old.tables.duties.queues moment row made)
    → shown ≡ held → k ≡ set.count → set ≡ old.tables.set
    → turns_of new ≡ turns_of old ++ turn_by seat (records (attempt_of shown made fate)) k (Some written) ∷ []
    → new.tables ≡ after_batch written old.tables
    → IsRecording seat held had made fate moment old new (turn_by seat (records (attempt_of shown made fate)) k (Some written))
recording seat held shown had made fate moment old new written k set h holds at fit numbered unbroken as_is admitted batch fate_by shown_is k_is set_is turns tables = record {
  adds = record {
    kept = h;
    by = refl;
    connection = refl;
    made_for = ap (λ x. records (attempt_of x made fate)) shown_is;
    k = k_is ∙ ap (λ (s : RuleSet). s.count) set_is;
    batch = ap (λ b. Some b) batch;
    turns = turns;
  };
  holds = holds;
  at = at;
  fits = fit;
  numbered = numbered;
  unbroken = unbroken;
  recorded = as_is;
  admitted = admitted;
  fate_by = fate_by;
  tables = tables ∙ ap (λ b. after_batch b old.tables) batch;
}

-- the errand with the record of its outcome
pub errand_after : (t : Tables) (e now : Errand) → now.claim ≡ e.claim → now.target ≡ e.target → now.moment ≡ e.moment → IsErrandOf t e → IsErrandOf t now
errand_after t e now claim target moment is = record {
  row = is.row;
  pending = ap (λ (c : DutyClaim). pending_row c.number t.duties) claim ∙ is.pending;
  claimed = is.claimed;
  due = subst (λ x. is.row.due ≤ x) (sym moment) is.due;
  endpoint = ap (λ (x : TargetRow). x.endpoint) target ∙ is.endpoint;
}

-- the turn of a put-back was added
pub back_made : (seat : Seat) (old new : Machine) (held shown : Held) (why : Why) (k : ℕ) (set : RuleSet) → IsSoundMachine old → shown ≡ held → k ≡ set.count
    → set ≡ old.tables.set → turns_of new ≡ turns_of old ++ turn_by seat (puts_back (held_claim shown) why) k None ∷ []
    → IsMade seat (puts_back (held_claim held) why) None old new (turn_by seat (puts_back (held_claim shown) why) k None)
back_made seat old new held shown why k set h shown_is k_is set_is turns = record {
  kept = h;
  by = refl;
  connection = refl;
  made_for = ap (λ x. puts_back (held_claim x) why) shown_is;
  k = k_is ∙ ap (λ (s : RuleSet). s.count) set_is;
  batch = refl;
  turns = turns;
}

pub put_back_book : {seat : Seat} {why : Why} {old new : Machine} {turn : Turn} (held : Held) → IsMade seat (puts_back (held_claim held) why) None old new turn
    → Holds seat.pass (turns_of old) (held_claim held) → IsReason (state_of (turns_of old)) (held_claim held) why
    → new.tables ≡ putting_back held.errand.claim.number old.tables → IsSoundMachine new
put_back_book held m holds reason tables =
    made_book m (m.batch, own_claim (held_claim held) m holds, reason) tt (tables ∙ ap (putting_back held.errand.claim.number) (sym m.kept.tables))

pub back : {seat : Seat} {why : Why} {old new : Machine} {turn : Turn} (held : Held) → IsMade seat (puts_back (held_claim held) why) None old new turn
    → IsPutBack seat (held_claim held) why (turns_of old) (turns_of new)
back {seat} {why} {old} {new} {turn} held m = record { placed = placed_on old turn; makes = made_makes m; puts_back = m.made_for }

-- an attempt without a record, at the number limit
pub limited_record : (seat : Seat) (c : Claim) (had : Outcome) (old new : List Turn) → IsPutBack seat c limited old new → IsUnrecordedBy seat c had NumberLimit old new
limited_record seat c had old new b = record { acts = makes b.placed ∷ []; makes = b.makes; ends = limited_by b.placed b.puts_back }

-- the record of an outcome leaves the claim as it was
pub same_claim : (held : Held) (e : Errand) → e ≡ record held.errand { batch = e.batch; room = e.room }
    → held_claim (record { errand = e; reading = held.reading; is_moment = held.is_moment }) ≡ held_claim held
same_claim held e same = ap (λ (x : Errand). claim_with_errand x) same
  where
    claim_with_errand : Errand → Claim
    claim_with_errand x = record {
      number = x.claim.number;
      endpoint = x.target.endpoint;
      text = x.text;
      accepted = x.accepted;
      age = x.target.age;
      reading = held.reading;
      moment = x.moment;
    }

-- the batch of a record, by other names of its moment and its duty
pub record_is : (b : Batch) (moment at duty n : ℕ) (made : Outcome) → b ≡ record_of moment duty made → at ≡ moment → n ≡ duty → b ≡ record_of at n made
record_is b moment at duty n made is at_is n_is =
    is ∙ ap (λ x. record_of x duty made) (sym at_is) ∙ ap (λ x. record_of at x made) (sym n_is)
