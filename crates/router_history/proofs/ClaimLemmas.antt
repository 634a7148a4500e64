-- From a claim on the tables to its turn: `claim_made`, `claimed`, `claimed_book`, `limited`, `broken`, `put_back_same`.
use Rattle.std.proofs.Common.{◌≡◌, ℕ, true, false, List, [], ◌∷◌, ◌++◌, Some, None, refl, sym, ap, ◌∙◌, subst, arith}
use Rattle.json_text.specs.Moment.{IsMoment}
use Rattle.shared_text.specs.declared.row.TargetRow.{TargetRow}
use Rattle.delivery_duties.specs.declared.duty.DutyRow.{DutyRow}
use Rattle.delivery_duties.specs.Duties.{pending_row, IsNext}
use Rattle.rule_table.specs.RuleSet.{RuleSet}
use Rattle.router_core.specs.Tables.{Tables, is_full, moment_at}
use Rattle.router_core.specs.Steps.{claiming, putting_back, IsClaimed as IsErrandClaimed}
use Rattle.router_core.specs.declared.errand.Errand.{Errand}
use Rattle.courier_run.specs.Claim.{Claim}
use Rattle.router_history.specs.declared.book.Machine.{Machine}
use Rattle.router_history.specs.declared.book.Seat.{Seat}
use Rattle.router_history.specs.declared.held.Held.{Held}
use Rattle.router_history.specs.History.{claims, Turn, State, claim_of, claims_of, IsClaimBy, state_of}
use Rattle.router_history.specs.Held.{held_claim}
use Rattle.router_history.specs.Book.{turns_of, IsSoundMachine, Rests}
use Rattle.router_history.specs.Acts.{IsIdle, IsFullAt, IsBrokenAt}
use Rattle.router_history.specs.Answered.{IsClaimed}
use Rattle.router_history.proofs.PendingLemmas.{AreNumbered, row_number, released}
use Rattle.router_history.proofs.TurnLemmas.{mine_made}
use Rattle.router_history.proofs.BookLemmas.{steady_of, IsMade, latest, made_book, made_state, made_makes, placed_on, turn_by}

-- the duty that is due first, in the state
next_here : (old : Machine) (reading moment n : ℕ) → IsSoundMachine old → moment ≡ moment_at old.tables reading → IsNext old.tables.duties moment n
    → IsNext (state_of (turns_of old)).tables.duties (moment_at (state_of (turns_of old)).tables reading) n
next_here old reading moment n h at next =
    subst (λ (t : Tables). IsNext t.duties (moment_at t reading) n) (sym h.tables) (subst (λ x. IsNext old.tables.duties x n) at next)

-- the turn of a claim was added
pub claim_made : (seat : Seat) (old new : Machine) (held shown : Held) (moment k : ℕ) (set : RuleSet) → IsSoundMachine old
    → IsErrandClaimed old.tables moment held.errand new.tables → held_claim shown ≡ held_claim held → k ≡ set.count → set ≡ new.tables.set
    → turns_of new ≡ turns_of old ++ turn_by seat (claims (held_claim shown)) k None ∷ []
    → IsMade seat (claims (held_claim held)) None old new (turn_by seat (claims (held_claim shown)) k None)
claim_made seat old new held shown moment k set h is shown_is k_is set_is turns = record {
  kept = h;
  by = refl;
  connection = refl;
  made_for = ap claims shown_is;
  k = k_is ∙ ap (λ (s : RuleSet). s.count) set_is ∙ ap (λ (t : Tables). t.set.count) is.tables;
  batch = refl;
  turns = turns;
}

-- a claim by the parts of its duty's row
abbrev claim_with : ℕ → TargetRow → List ℕ → ℕ → ℕ → ℕ → Claim
claim_with number target text accepted reading moment = record {
  number = number;
  endpoint = target.endpoint;
  text = text;
  accepted = accepted;
  age = target.age;
  reading = reading;
  moment = moment;
}

-- the claim of an errand at a reading
abbrev claim_at : Errand → ℕ → Claim
claim_at e reading = claim_with e.claim.number e.target e.text e.accepted reading e.moment

claim_is : (e : Errand) (reading moment : ℕ) (row : DutyRow) → row.number ≡ e.claim.number → e.target ≡ row.duty.target → e.text ≡ row.duty.text
    → e.accepted ≡ row.accepted → e.moment ≡ moment → claim_at e reading ≡ claim_of reading moment row
claim_is e reading moment row number target text accepted at =
    ap (λ n. claim_with n e.target e.text e.accepted reading e.moment) (sym number)
    ∙ ap (λ (t : TargetRow). claim_with row.number t e.text e.accepted reading e.moment) target
    ∙ ap (λ t. claim_with row.number row.duty.target t e.accepted reading e.moment) text
    ∙ ap (λ a. claim_with row.number row.duty.target row.duty.text a reading e.moment) accepted
    ∙ ap (λ m. claim_with row.number row.duty.target row.duty.text row.accepted reading m) at

claim_turn : {seat : Seat} {old new : Machine} {turn : Turn} (held : Held) (moment : ℕ)
    → IsMade seat (claims (held_claim held)) None old new turn → is_full old.tables ≡ false → (state_of (turns_of old)).broken ≡ false → IsMoment held.reading
    → Rests seat.pass (turns_of old) → moment ≡ moment_at old.tables held.reading → IsErrandClaimed old.tables moment held.errand new.tables
    → IsClaimBy (state_of (turns_of old)) turn (held_claim held)
claim_turn {seat} {old} {new} {turn} held moment m numbered unbroken reading rests at is =
    let s = state_of (turns_of old) in
    let n : ℕ = held.errand.claim.number in
    let there : pending_row n s.tables.duties ≡ Some is.row = subst (λ (t : Tables). pending_row n t.duties ≡ Some is.row) (sym m.kept.tables) is.pending in
    record {
      pass = seat.pass;
      by = m.by;
      first = rests;
      latest = latest m;
      unwritten = m.batch;
      numbered = subst (λ (t : Tables). is_full t ≡ false) (sym m.kept.tables) numbered;
      unbroken = unbroken;
      reading = reading;
      next = next_here old held.reading moment n m.kept at is.next;
      row = is.row;
      there = there;
      claim = claim_is held.errand held.reading (moment_at s.tables held.reading) is.row
          (row_number s.tables.duties n is.row (steady_of (turns_of old) m.kept.book).numbered there) is.target is.text is.accepted
          (is.at ∙ at ∙ ap (λ (t : Tables). moment_at t held.reading) (sym m.kept.tables));
    }

pub claimed_book : {seat : Seat} {old new : Machine} {turn : Turn} (held : Held) (moment : ℕ)
    → IsMade seat (claims (held_claim held)) None old new turn → is_full old.tables ≡ false → (state_of (turns_of old)).broken ≡ false → IsMoment held.reading
    → Rests seat.pass (turns_of old) → moment ≡ moment_at old.tables held.reading → IsErrandClaimed old.tables moment held.errand new.tables → IsSoundMachine new
claimed_book {seat} {old} {new} {turn} held moment m numbered unbroken reading rests at is =
    made_book m (claim_turn held moment m numbered unbroken reading rests at is) tt (is.tables ∙ ap (claiming held.errand.claim.number) (sym m.kept.tables))

pub claimed : {seat : Seat} {old new : Machine} {turn : Turn} (held : Held)
    → IsMade seat (claims (held_claim held)) None old new turn → Rests seat.pass (turns_of old)
    → IsClaimed seat held.reading (turns_of old) (turns_of new) (held_claim held)
claimed {seat} {old} {new} {turn} held m rests = record {
  placed = placed_on old turn;
  makes = made_makes m;
  claims = (m.made_for, refl);
  holds = ap (λ (s : State). claims_of seat.pass s.open_claims) (made_state m)
      ∙ mine_made seat.pass turn.pass (held_claim held) (state_of (turns_of old)).open_claims m.by rests;
}

-- a duty that is next is due
not_idle : (s : State) (reading n : ℕ) → IsNext s.tables.duties (moment_at s.tables reading) n → ¬ IsIdle s reading
not_idle s reading n next idle = let late = idle n next.row next.there next.free in let due = next.due in absurd (omega (arith, late, due))

-- a duty could be claimed at the number limit
pub limited : (old : Machine) (reading moment : ℕ) (e : Errand) (mid : Tables) → IsSoundMachine old → moment ≡ moment_at old.tables reading
    → is_full old.tables ≡ true → IsErrandClaimed old.tables moment e mid → IsFullAt (state_of (turns_of old)) reading
limited old reading moment e mid h at full is = (
  subst (λ (t : Tables). is_full t ≡ true) (sym h.tables) full,
  not_idle (state_of (turns_of old)) reading e.claim.number (next_here old reading moment e.claim.number h at is.next),
)

-- a duty could be claimed, but the book is broken
pub broken : (old : Machine) (reading moment : ℕ) (e : Errand) (mid : Tables) → IsSoundMachine old → moment ≡ moment_at old.tables reading
    → is_full old.tables ≡ false → (state_of (turns_of old)).broken ≡ true → IsErrandClaimed old.tables moment e mid → IsBrokenAt (state_of (turns_of old)) reading
broken old reading moment e mid h at numbered is_broken is = (
  is_broken,
  subst (λ (t : Tables). is_full t ≡ false) (sym h.tables) numbered,
  not_idle (state_of (turns_of old)) reading e.claim.number (next_here old reading moment e.claim.number h at is.next),
)

-- a claim that is released at once changes nothing
pub put_back_same : (old : Machine) (moment : ℕ) (e : Errand) (mid new : Tables) → IsSoundMachine old
    → IsErrandClaimed old.tables moment e mid → new ≡ putting_back e.claim.number mid → new ≡ old.tables
put_back_same old moment e mid new h is back =
    let numbered : AreNumbered old.tables.duties = subst (λ (t : Tables). AreNumbered t.duties) h.tables (steady_of (turns_of old) h.book).numbered in
    back ∙ ap (putting_back e.claim.number) is.tables
    ∙ ap (λ d. record old.tables { duties = d }) (released e.claim.number is.next.row old.tables.duties numbered is.next.there is.next.free)
