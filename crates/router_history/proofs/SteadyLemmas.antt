-- What holds of each state of a legal history: `IsSteady`, `steady_after`, `steady_begun`; the disk of its journal and the mark: `disk_after`, `whole_after`, `legal_whole`; and of an open claim in such a state: `IsOpen`, `open_of`.
use Rattle.std.proofs.Common.{◌≡◌, ◌≢◌, ℕ, ◌+◌, ◌≤◌, ◌⊎◌, inl, inr, max, Bool, true, false, cond, List, [], ◌∷◌, ◌++◌, length, Option, Some, None, refl, sym, ap, ◌∙◌, subst, arith}
use Rattle.std.proofs.Common.{length-append}
use Rattle.std.proofs.Math.Nat.{le-max_left}
use Rattle.std.proofs.lemmas.Bool.{true≢false}
use Rattle.std.specs.Prelude.{not, ◌==◌, IsSome}
use Rattle.rule_table.specs.Control.{Control, bus_created}
use Rattle.rule_table.specs.RuleSet.{RuleSet, applied, applied_all}
use Rattle.delivery_duties.specs.declared.duty.DutyRow.{DutyRow}
use Rattle.delivery_duties.specs.Duties.{Duties, pending_row, IsNext}
use Rattle.router_requests.specs.Batch.{Batch, Entry, control, accepted, attempt, replay_started, replay_stepped, replay_cancelled, messages_deleted}
use Rattle.router_core.specs.Tables.{Tables, first_tables, after_entry, after_entries, moment_at}
use Rattle.router_requests.specs.Request.{Request}
use Rattle.router_calls.proofs.FormLemmas.{request_form}
use Rattle.courier_run.specs.Claim.{Claim}
use Rattle.router_history.specs.History.{OpenedDisk, Ask, opens, asked, claims, records, puts_back, repeats, breaks, Turn, State, OpenClaim, controls_in, claim_of, claims_of, without_pass}
use Rattle.router_history.specs.History.{last_version, after_change, after_ask, after_turn, after_all, after_written, state_after, state_of, begun, begun_with, with_claim, IsTurnFor, IsClaimBy, IsRepeatBy, EndsClaim, AreTurnsFrom, IsLegal}
use Rattle.router_history.proofs.PendingLemmas.{AreNumbered, entries_numbered, marked_numbered, marked_row_there, key_has}
use Rattle.router_history.proofs.KeptLemmas.{marked_other, settled_other, written_keeps, repeat_keeps}
use Rattle.router_history.proofs.TurnLemmas.{open_written}

-- a claim is open: its duty is pending, claimed and was due, and gives the claim, which was made by the moment of a turn at its reading now
pub record IsOpen (d : Duties) (last : ℕ) (c : Claim) : Type 0 where
  pub row : DutyRow
  pub pending : pending_row c.number d ≡ Some row
  pub claimed : row.claimed ≡ true
  pub due : row.due ≤ c.moment
  pub claim : claim_of c.reading c.moment row ≡ c
  pub moment : c.moment ≤ max c.reading last

-- no claim is of this duty
abbrev pub AreApart : ℕ → List OpenClaim → Type 0
AreApart n [] = Unit {0}
AreApart n (o ∷ os) = (o.claim.number ≢ n) × AreApart n os

-- each claim is open, and no two are of one duty
abbrev pub AreOpen : Duties → ℕ → List OpenClaim → Type 0
AreOpen d last [] = Unit {0}
AreOpen d last (o ∷ os) = IsOpen d last o.claim × AreApart o.claim.number os × AreOpen d last os

pub record IsSteady (s : State) : Type 0 where
  pub numbered : AreNumbered s.tables.duties
  pub opened : AreOpen s.tables.duties s.tables.moment s.open_claims
  pub set : s.tables.set ≡ applied_all s.controls s.start
  pub version : s.tables.set.count ≡ last_version s

later : (a b c d : ℕ) → a ≤ max b c → c ≤ d → a ≤ max b d
later a b c d h le = omega (arith, h, le)

-- a claim stays open if the row of its duty stays
open_kept : (d now : Duties) (last next : ℕ) (c : Claim) → pending_row c.number now ≡ pending_row c.number d → last ≤ next → IsOpen d last c → IsOpen now next c
open_kept d now last next c same le o = record {
  row = o.row;
  pending = same ∙ o.pending;
  claimed = o.claimed;
  due = o.due;
  claim = o.claim;
  moment = later c.moment c.reading last next o.moment le;
}

-- the claims stay open if the rows of their duties stay, which are not that of `n`
all_kept : (d now : Duties) (last next n : ℕ) (os : List OpenClaim) → last ≤ next
    → ((c : Claim) → IsOpen d last c → c.number ≢ n → pending_row c.number now ≡ pending_row c.number d) → AreApart n os → AreOpen d last os → AreOpen now next os
all_kept d now last next n [] le keeps apart all = tt
all_kept d now last next n (o ∷ os) le keeps (ne, apart) (one, differ, all) = (
  open_kept d now last next o.claim (keeps o.claim one ne) le one,
  differ,
  all_kept d now last next n os le keeps apart all,
)

-- the same if each row stays
every_kept : (d now : Duties) (last next : ℕ) (os : List OpenClaim) → last ≤ next
    → ((c : Claim) → IsOpen d last c → pending_row c.number now ≡ pending_row c.number d) → AreOpen d last os → AreOpen now next os
every_kept d now last next [] le keeps all = tt
every_kept d now last next (o ∷ os) le keeps (one, differ, all) = (
  open_kept d now last next o.claim (keeps o.claim one) le one,
  differ,
  every_kept d now last next os le keeps all,
)

-- no open claim is of a duty that is next, since that one is not claimed
next_other : (d : Duties) (last moment n : ℕ) (c : Claim) → IsNext d moment n → IsOpen d last c → c.number ≢ n
next_other d last moment n c next o same =
    let there = next.there in
    let here : pending_row n d ≡ Some o.row = ap (λ k. pending_row k d) (sym same) ∙ o.pending in
    let rows : next.row ≡ o.row = cc in
    true≢false (sym o.claimed ∙ sym (ap (λ (r : DutyRow). r.claimed) rows) ∙ next.free)

next_apart : (d : Duties) (last moment n : ℕ) (os : List OpenClaim) → IsNext d moment n → AreOpen d last os → AreApart n os
next_apart d last moment n [] next all = tt
next_apart d last moment n (o ∷ os) next (one, differ, all) = (next_other d last moment n o.claim next one, next_apart d last moment n os next all)

apart_fewer : (n p : ℕ) (os : List OpenClaim) → AreApart n os → AreApart n (without_pass (Some p) os)
apart_fewer n p [] apart = tt
apart_fewer n p (o ∷ os) (ne, apart) =
    elim (o.pass == p) as (λ b. AreApart n (cond (not b) (o ∷ without_pass (Some p) os) (without_pass (Some p) os))) [
      | true ↦ apart_fewer n p os apart
      | false ↦ (ne, apart_fewer n p os apart)
    ]

-- fewer claims are open too
fewer_open : (d : Duties) (last p : ℕ) (os : List OpenClaim) → AreOpen d last os → AreOpen d last (without_pass (Some p) os)
fewer_open d last p [] all = tt
fewer_open d last p (o ∷ os) (one, differ, all) =
    elim (o.pass == p) as (λ b. AreOpen d last (cond (not b) (o ∷ without_pass (Some p) os) (without_pass (Some p) os))) [
      | true ↦ fewer_open d last p os all
      | false ↦ (one, apart_fewer o.claim.number p os differ, fewer_open d last p os all)
    ]

-- what it means that one element passes a test
one_cases : {X : Type 0} (b : Bool) (x y : X) (xs : List X) → cond b (x ∷ xs) xs ≡ y ∷ [] → ((b ≡ true) × (x ≡ y) × (xs ≡ [])) ⊎ ((b ≡ false) × (xs ≡ y ∷ []))
one_cases true x y xs e = let same : x ≡ y = cc in let rest : xs ≡ [] = cc in inl (refl, same, rest)
one_cases false x y xs e = inr (refl, e)

-- a claim of another duty than those of the claims among which it is
in_apart : (n p : ℕ) (c : Claim) (os : List OpenClaim) → AreApart n os → claims_of p os ≡ record { pass = p; claim = c } ∷ [] → c.number ≢ n
in_apart n p c [] apart own = absurd (cc)
in_apart n p c (o ∷ os) (ne, apart) own =
    elim (one_cases (o.pass == p) o (record { pass = p; claim = c }) (claims_of p os) own) [
      | inl (is, same, rest) ↦ subst (λ (x : OpenClaim). x.claim.number ≢ n) same ne
      | inr (differ, rest) ↦ in_apart n p c os apart rest
    ]

-- the other claims are of other duties than a pass's one claim
others_apart : (d : Duties) (last p : ℕ) (c : Claim) (os : List OpenClaim) → AreOpen d last os → claims_of p os ≡ record { pass = p; claim = c } ∷ []
    → AreApart c.number (without_pass (Some p) os)
others_apart d last p c [] all own = tt
others_apart d last p c (o ∷ os) (one, differ, all) own =
    elim (one_cases (o.pass == p) o (record { pass = p; claim = c }) (claims_of p os) own) [
      | inl (is, same, rest) ↦ rw is (subst (λ (x : OpenClaim). AreApart x.claim.number (without_pass (Some p) os)) same (apart_fewer o.claim.number p os differ))
      | inr (is, rest) ↦ rw is ((λ e. in_apart o.claim.number p c os differ rest (sym e)), others_apart d last p c os all rest)
    ]

-- a pass's one claim is open
pub open_of : (d : Duties) (last p : ℕ) (c : Claim) (os : List OpenClaim) → AreOpen d last os → claims_of p os ≡ record { pass = p; claim = c } ∷ [] → IsOpen d last c
open_of d last p c [] all own = absurd (cc)
open_of d last p c (o ∷ os) (one, differ, all) own =
    elim (one_cases (o.pass == p) o (record { pass = p; claim = c }) (claims_of p os) own) [
      | inl (is, same, rest) ↦ subst (λ (x : OpenClaim). IsOpen d last x.claim) same one
      | inr (is, rest) ↦ open_of d last p c os all rest
    ]

pub applied_append : (cs ds : List Control) (set : RuleSet) → applied_all (cs ++ ds) set ≡ applied_all ds (applied_all cs set)
applied_append [] ds set = refl
applied_append (c ∷ cs) ds set = applied_append cs ds (applied c set)

applied_count : (c : Control) (set : RuleSet) → (applied c set).count ≡ set.count + 1
applied_count (bus_created name) set = refl
applied_count _ set = refl

counted : (cs : List Control) (set : RuleSet) → (applied_all cs set).count ≡ set.count + length cs
counted [] set = omega arith
counted (c ∷ cs) set = let rest = counted cs (applied c set) in let one = applied_count c set in omega (arith, rest, one)

set_after : (moment : ℕ) (es : List Entry) (t : Tables) → (after_entries moment es t).set ≡ applied_all (controls_in es) t.set
set_after moment [] t = refl
set_after moment (control c ∷ es) t = set_after moment es (after_entry moment (control c) t)
set_after moment (accepted e ∷ es) t = set_after moment es (after_entry moment (accepted e) t)
set_after moment (attempt duty outcome ∷ es) t = set_after moment es (after_entry moment (attempt duty outcome) t)
set_after moment (replay_started s ∷ es) t = set_after moment es (after_entry moment (replay_started s) t)
set_after moment (replay_stepped s ∷ es) t = set_after moment es (after_entry moment (replay_stepped s) t)
set_after moment (replay_cancelled name ∷ es) t = set_after moment es (after_entry moment (replay_cancelled name) t)
set_after moment (messages_deleted queue through ∷ es) t = set_after moment es (after_entry moment (messages_deleted queue through) t)

numbered_written : (b : Option Batch) (s : State) → AreNumbered s.tables.duties → AreNumbered (after_change b s).tables.duties
numbered_written None s h = h
numbered_written (Some b) s h = entries_numbered b.moment b.entries s.tables h

set_written : (b : Option Batch) (s : State) → s.tables.set ≡ applied_all s.controls s.start
    → (after_change b s).tables.set ≡ applied_all (after_change b s).controls (after_change b s).start
set_written None s h = h
set_written (Some b) s h =
    set_after b.moment b.entries s.tables ∙ ap (applied_all (controls_in b.entries)) h ∙ sym (applied_append s.controls (controls_in b.entries) s.start)

more_changes : (a b c : ℕ) → a + b + c ≡ a + (b + c)
more_changes a b c = omega arith

version_written : (b : Option Batch) (s : State) → s.tables.set.count ≡ last_version s → (after_change b s).tables.set.count ≡ last_version (after_change b s)
version_written None s h = h
version_written (Some b) s h =
    ap (λ (r : RuleSet). r.count) (set_after b.moment b.entries s.tables) ∙ counted (controls_in b.entries) s.tables.set
    ∙ ap (λ n. n + length (controls_in b.entries)) h ∙ more_changes s.start.count (length s.controls) (length (controls_in b.entries))
    ∙ sym (ap (λ n. s.start.count + n) (length-append s.controls (controls_in b.entries)))

moment_written : (b : Option Batch) (s : State) → s.tables.moment ≤ (after_change b s).tables.moment
moment_written None s = omega arith
moment_written (Some b) s = le-max_left s.tables.moment b.moment

-- a turn wrote this, and its open claims are these
steady_written : (b : Option Batch) (s : State) (os : List OpenClaim) → IsSteady s → AreOpen (after_change b s).tables.duties (after_change b s).tables.moment os
    → IsSteady (record (after_change b s) { open_claims = os })
steady_written b s os h all = record {
  numbered = numbered_written b s h.numbered;
  opened = all;
  set = set_written b s h.set;
  version = version_written b s h.version;
}

steady_asked : (turn : Turn) (s : State) (request : Request) → IsTurnFor s turn (asked request) → IsSteady s → IsSteady (after_change turn.batch s)
steady_asked turn s request (passed, named, (reply, is), unbroken) h =
    let d = s.tables.duties in
    let all : AreOpen (after_change turn.batch s).tables.duties (after_change turn.batch s).tables.moment s.open_claims =
    every_kept d (after_change turn.batch s).tables.duties s.tables.moment (after_change turn.batch s).tables.moment s.open_claims (moment_written turn.batch s)
    (λ c o. written_keeps s.tables request.action turn.batch c.number s (request_form is.answer).writes
    (key_has (λ k. k ≤ d.created) c.number o.row d.pending h.numbered.known o.pending))
    h.opened in
    record {
      numbered = numbered_written turn.batch s h.numbered;
      opened = subst (λ (os : List OpenClaim). AreOpen (after_change turn.batch s).tables.duties (after_change turn.batch s).tables.moment os)
          (sym (open_written turn.batch s)) all;
      set = set_written turn.batch s h.set;
      version = version_written turn.batch s h.version;
    }

-- a step of the replays claims nothing, and leaves the rows that are there
steady_repeats : (turn : Turn) (s : State) (reading : ℕ) → IsRepeatBy s turn reading → IsSteady s → IsSteady (after_change turn.batch s)
steady_repeats turn s reading is h =
    let d = s.tables.duties in
    let all : AreOpen (after_change turn.batch s).tables.duties (after_change turn.batch s).tables.moment s.open_claims =
    every_kept d (after_change turn.batch s).tables.duties s.tables.moment (after_change turn.batch s).tables.moment s.open_claims (moment_written turn.batch s)
    (λ c o. repeat_keeps turn.batch c.number s (moment_at s.tables reading) is.batch is.written is.step
    (key_has (λ k. k ≤ d.created) c.number o.row d.pending h.numbered.known o.pending))
    h.opened in
    record {
      numbered = numbered_written turn.batch s h.numbered;
      opened = subst (λ (os : List OpenClaim). AreOpen (after_change turn.batch s).tables.duties (after_change turn.batch s).tables.moment os)
          (sym (open_written turn.batch s)) all;
      set = set_written turn.batch s h.set;
      version = version_written turn.batch s h.version;
    }

-- the claim of a duty that is next is open
claim_open : (s : State) (turn : Turn) (c : Claim) → IsSteady s → (is : IsClaimBy s turn c)
    → IsOpen (after_ask turn (claims c) s).tables.duties s.tables.moment c
claim_open s turn c h is =
    let now : DutyRow = record is.row { claimed = true } in
    let moment : c.moment ≡ moment_at s.tables c.reading = ap (λ (x : Claim). x.moment) is.claim in
    let there = is.next.there in
    let here = is.there in
    let same : is.next.row ≡ is.row = cc in
    record {
      row = now;
      pending = marked_row_there true c.number is.row s.tables.duties h.numbered is.there;
      claimed = refl;
      due = subst (λ x. is.row.due ≤ x) (sym moment) (subst (λ (r : DutyRow). r.due ≤ moment_at s.tables c.reading) same is.next.due);
      claim = ap (λ m. claim_of c.reading m is.row) moment ∙ sym is.claim;
      moment = omega (arith, moment);
    }

steady_claims : (turn : Turn) (s : State) (c : Claim) → IsClaimBy s turn c → IsSteady s → IsSteady (after_ask turn (claims c) s)
steady_claims turn s c is h =
    let d = s.tables.duties in
    let now : Duties = (after_ask turn (claims c) s).tables.duties in
    let last : ℕ = s.tables.moment in
    let apart : AreApart c.number s.open_claims = next_apart d last (moment_at s.tables c.reading) c.number s.open_claims is.next h.opened in
    let others : AreOpen now last s.open_claims =
    all_kept d now last last c.number s.open_claims (omega arith)
    (λ o is_open ne. marked_other true (pending_row c.number d) c.number o.number d h.numbered refl (λ e. ne (sym e)))
    apart h.opened in
    record {
      numbered = marked_numbered true c.number d h.numbered;
      opened = subst (λ (p : Option ℕ). AreOpen now last (with_claim p c s.open_claims)) (sym is.by) (claim_open s turn c h is, apart, others);
      set = h.set;
      version = h.version;
    }

-- the claim of a turn's pass ended, and the rows of other duties stay
ended_open : (s : State) (turn : Turn) (c : Claim) (now : Duties) (next : ℕ) → s.tables.moment ≤ next → IsSteady s → EndsClaim s turn c
    → ((k : ℕ) → c.number ≢ k → pending_row k now ≡ pending_row k s.tables.duties) → AreOpen now next (without_pass turn.pass s.open_claims)
ended_open s turn c now next le h ends keeps =
    let d = s.tables.duties in
    let apart = others_apart d s.tables.moment ends.pass c s.open_claims h.opened ends.own in
    let fewer = fewer_open d s.tables.moment ends.pass s.open_claims h.opened in
    subst (λ (p : Option ℕ). AreOpen now next (without_pass p s.open_claims)) (sym ends.by)
    (all_kept d now s.tables.moment next c.number (without_pass (Some ends.pass) s.open_claims) le (λ o is_open ne. keeps o.number (λ e. ne (sym e))) apart fewer)

pub steady_ask : (turn : Turn) (ask : Ask) (s : State) → IsTurnFor s turn ask → IsSteady s → IsSteady (after_ask turn ask s)
steady_ask turn (opens start found disk) s is h = absurd is
steady_ask turn (asked request) s is h = steady_asked turn s request is h
steady_ask turn (claims c) s is h = steady_claims turn s c is h
steady_ask turn (records a) s is h =
    let d = s.tables.duties in
    let c : Claim = a.claim in
    let keeps : (k : ℕ) → c.number ≢ k → pending_row k (after_change turn.batch s).tables.duties ≡ pending_row k d =
    λ k ne. ap (λ (b : Option Batch). pending_row k (after_change b s).tables.duties) is.written
    ∙ settled_other (pending_row c.number d) c.number k (moment_at s.tables c.reading) a.outcome d h.numbered refl ne in
    steady_written turn.batch s (without_pass turn.pass s.open_claims) h
    (ended_open s turn c (after_change turn.batch s).tables.duties (after_change turn.batch s).tables.moment (moment_written turn.batch s) h is.ends keeps)
steady_ask turn (puts_back c why) s (unwritten, ends, reason) h =
    let d = s.tables.duties in
    record {
      numbered = marked_numbered false c.number d h.numbered;
      opened = ended_open s turn c (after_ask turn (puts_back c why) s).tables.duties s.tables.moment (omega arith) h ends
          (λ k ne. marked_other false (pending_row c.number d) c.number k d h.numbered refl ne);
      set = h.set;
      version = h.version;
    }
steady_ask turn (repeats reading) s is h = steady_repeats turn s reading is h
steady_ask turn (breaks unsure) s is h = record { numbered = h.numbered; opened = h.opened; set = h.set; version = h.version }

pub steady_after : (turns : List Turn) (s : State) → AreTurnsFrom s turns → IsSteady s → IsSteady (state_after turns s)
steady_after [] s legal h = h
steady_after (turn ∷ turns) s legal h = steady_after turns (after_turn turn s) legal.1 (steady_ask turn turn.ask s legal.0.made_for h)

pub steady_begun : (disk : Option OpenedDisk) → IsSteady (begun_with disk first_tables)
steady_begun disk = record {
  numbered = record { sorted = tt; named = tt; known = tt };
  opened = tt;
  set = refl;
  version = refl;
}

-- batches that were found, before any claim
pub steady_found : (found : List Batch) (s : State) → s.open_claims ≡ [] → IsSteady s → IsSteady (after_all found s)
steady_found [] s none h = h
steady_found (b ∷ bs) s none h = steady_found bs (after_written b s) none (record {
  numbered = numbered_written (Some b) s h.numbered;
  opened = subst (λ (os : List OpenClaim). AreOpen (after_written b s).tables.duties (after_written b s).tables.moment os) (sym none) tt;
  set = set_written (Some b) s h.set;
  version = version_written (Some b) s h.version;
})

-- ---- the journal's disk, and the mark

disk_written : (b : Option Batch) (s : State) → (after_change b s).disk ≡ s.disk
disk_written None s = refl
disk_written (Some b) s = refl

pub broken_written : (b : Option Batch) (s : State) → (after_change b s).broken ≡ s.broken
broken_written None s = refl
broken_written (Some b) s = refl

pub disk_ask : (turn : Turn) (ask : Ask) (s : State) → IsTurnFor s turn ask → (after_ask turn ask s).disk ≡ s.disk
disk_ask turn (opens start found disk) s is = absurd is
disk_ask turn (asked request) s is = disk_written turn.batch s
disk_ask turn (claims c) s is = refl
disk_ask turn (records a) s is = disk_written turn.batch s
disk_ask turn (puts_back c why) s is = refl
disk_ask turn (repeats reading) s is = disk_written turn.batch s
disk_ask turn (breaks unsure) s is = refl

-- each book has the disk with which it was opened
pub disk_after : (turns : List Turn) (s : State) → AreTurnsFrom s turns → (state_after turns s).disk ≡ s.disk
disk_after [] s legal = refl
disk_after (turn ∷ turns) s legal = disk_after turns (after_turn turn s) legal.1 ∙ disk_ask turn turn.ask s legal.0.made_for

broken_ask : (turn : Turn) (ask : Ask) (s : State) → IsTurnFor s turn ask → s.disk ≡ None → s.broken ≡ false → (after_ask turn ask s).broken ≡ false
broken_ask turn (opens start found disk) s is none whole = absurd is
broken_ask turn (asked request) s is none whole = broken_written turn.batch s ∙ whole
broken_ask turn (claims c) s is none whole = whole
broken_ask turn (records a) s is none whole = broken_written turn.batch s ∙ whole
broken_ask turn (puts_back c why) s is none whole = whole
broken_ask turn (repeats reading) s is none whole = broken_written turn.batch s ∙ whole
broken_ask turn (breaks unsure) s is none whole = let some : false ≡ true = subst (λ (d : Option OpenedDisk). IsSome d) none is.journal in absurd (cc)

-- without a journal no turn breaks the book
pub whole_after : (turns : List Turn) (s : State) → AreTurnsFrom s turns → s.disk ≡ None → s.broken ≡ false → (state_after turns s).broken ≡ false
whole_after [] s legal none whole = whole
whole_after (turn ∷ turns) s legal none whole =
    whole_after turns (after_turn turn s) legal.1 (disk_ask turn turn.ask s legal.0.made_for ∙ none) (broken_ask turn turn.ask s legal.0.made_for none whole)

pub found_disk : (found : List Batch) (s : State) → (after_all found s).disk ≡ s.disk
found_disk [] s = refl
found_disk (b ∷ bs) s = found_disk bs (after_written b s)

pub found_whole : (found : List Batch) (s : State) → (after_all found s).broken ≡ s.broken
found_whole [] s = refl
found_whole (b ∷ bs) s = found_whole bs (after_written b s)

-- a legal history without a journal
pub legal_whole : (turns : List Turn) → IsLegal turns → (state_of turns).disk ≡ None → (state_of turns).broken ≡ false
legal_whole [] legal none = absurd legal
legal_whole (turn ∷ turns) legal none =
    let o = legal.0 in
    let s : State = after_turn turn (begun first_tables) in
    let opened : s ≡ after_all o.found (begun_with o.disk o.start) = ap (λ (a : Ask). after_ask turn a (begun first_tables)) o.ask in
    whole_after turns s legal.1 (sym (disk_after turns s legal.1) ∙ none)
    (ap (λ (x : State). x.broken) opened ∙ found_whole o.found (begun_with o.disk o.start))
