-- Batches that are applied again. Of events: `event_up`, `event_down`, `events_up`, `events_down`; that no claim comes up: `free_at`,
-- `free_batch`.
use Rattle.std.proofs.Common.{◌≡◌, ℕ, ◌+◌, ◌-◌, ◌≤◌, true, false, cond, eqb, ltb, List, [], ◌∷◌, ◌++◌, length, get_or, take, drop, map, Option, Some, None, Result, Ok, Err, inl, inr}
use Rattle.std.proofs.Common.{refl, sym, ap, ◌∙◌, subst, arith, append_assoc}
use Rattle.std.specs.Prelude.{All, OnOk, is_err, is_ok}
use Rattle.std.proofs.lemmas.Bool.{false≢true}
use Rattle.std.proofs.lemmas.List.{drop_more, take_rest}
use Rattle.std.proofs.lemmas.List.Elements.{All-head, All-tail, All-nil, All-cons}
use Rattle.key_tree.specs.Entries.{value_at, placed, without}
use Rattle.rule_table.specs.Control.{Control, bus_created, bus_deleted, rule_put, rule_deleted, state_put, targets_put, targets_removed, policy_put}
use Rattle.rule_table.specs.Control.{queue_created, queue_deleted, archive_created, archive_updated, archive_deleted}
use Rattle.rule_table.specs.RuleSet.{RuleSet}
use Rattle.delivery_duties.specs.declared.duty.DutyRow.{DutyRow}
use Rattle.delivery_duties.specs.declared.duty.NewDuty.{NewDuty}
use Rattle.delivery_duties.specs.declared.outcome.Outcome.{Outcome}
use Rattle.delivery_duties.specs.declared.verdict.Verdict.{Verdict}
use Rattle.delivery_duties.specs.declared.verdict.Verdict.TheVariants.{Deliver, Retry, Fail}
use Rattle.delivery_duties.specs.Retry.{Attempt, begun, dead_letter_queue, retried, too_long, verdict_of}
use Rattle.delivery_duties.specs.Duties.{Duties, added, added_one, attempt_of, failed, has_dead_letter_queue, pending_row, settled_by, settled_row}
use Rattle.router_requests.specs.Batch.{Accepted, Entry, control, accepted, attempt, replay_started, replay_stepped, replay_cancelled, messages_deleted, Batch}
use Rattle.router_core.specs.Tables.{Tables, duties_after, after_entry, after_entries, after_batch}
use Rattle.router_core.specs.Admitted.{AreAdmitted, AreOfOneTurn, IsAnEvent, IsEventAdmitted}
use Rattle.router_core.specs.Ready.{IsPartOf, ArePartsOf}
use Rattle.router_requests.specs.View.{entry_of}
use Rattle.router_requests.specs.declared.batch.Entry.{Entry as CodeEntry}
use Rattle.router_core.specs.declared.ready.Part.{Part}
use Rattle.duty_journal.specs.declared.fault.ReplayFault.{ReplayFault}
use Rattle.duty_journal.specs.Redo.{AreUnclaimed, HasNoClaim, IsNextEvent, AreNextEvents}

-- ---- the next events

pub event_up : (t : Tables) (e : Accepted) → IsNextEvent (t.events + 1) t.set e → IsEventAdmitted t e
event_up t e n = record {
  number = n.number_is;
  bus = n.bus;
  known = n.version;
  time = n.time;
  text = n.text;
  archive_order = n.archive_order;
  archives = n.archives;
  few = n.few;
  short = n.short;
}

-- the same, by numbers that are those of the tables
pub event_from : (t : Tables) (e : Accepted) (n : ℕ) (set : RuleSet) → n ≡ t.events → set ≡ t.set → IsNextEvent (n + 1) set e → IsEventAdmitted t e
event_from t e n set same own next = event_up t e (subst (λ m. IsNextEvent (m + 1) t.set e) same (subst (λ (s : RuleSet). IsNextEvent (n + 1) s e) own next))

pub event_down : (t : Tables) (e : Accepted) → IsEventAdmitted t e → IsNextEvent (t.events + 1) t.set e
event_down t e n = record {
  number_is = n.number;
  bus = n.bus;
  version = n.known;
  time = n.time;
  text = n.text;
  archive_order = n.archive_order;
  archives = n.archives;
  few = n.few;
  short = n.short;
}

pub events_up : (moment : ℕ) (es : List Entry) (t : Tables) → AreNextEvents (t.events + 1) t.set es → All IsAnEvent es × AreAdmitted moment es t
events_up moment [] t n = (All-nil IsAnEvent, tt)
events_up moment (accepted e ∷ es) t n =
    let rest = events_up moment es (after_entry moment (accepted e) t) n.1 in
    (All-cons IsAnEvent (accepted e) es tt rest.0, (event_up t e n.0, rest.1))
events_up moment (control c ∷ es) t n = absurd n
events_up moment (attempt duty outcome ∷ es) t n = absurd n
events_up moment (replay_started s ∷ es) t n = absurd n
events_up moment (replay_stepped s ∷ es) t n = absurd n
events_up moment (replay_cancelled name ∷ es) t n = absurd n
events_up moment (messages_deleted queue through ∷ es) t n = absurd n

pub events_down : (moment : ℕ) (es : List Entry) (t : Tables) → All IsAnEvent es → AreAdmitted moment es t → AreNextEvents (t.events + 1) t.set es
events_down moment [] t all a = tt
events_down moment (accepted e ∷ es) t all a =
    (event_down t e a.0, events_down moment es (after_entry moment (accepted e) t) (All-tail IsAnEvent (accepted e) es all) a.1)
events_down moment (control c ∷ es) t all a = absurd (All-head IsAnEvent (control c) es all)
events_down moment (attempt duty outcome ∷ es) t all a = absurd (All-head IsAnEvent (attempt duty outcome) es all)
events_down moment (replay_started s ∷ es) t all a = absurd (All-head IsAnEvent (replay_started s) es all)
events_down moment (replay_stepped s ∷ es) t all a = absurd (All-head IsAnEvent (replay_stepped s) es all)
events_down moment (replay_cancelled name ∷ es) t all a = absurd (All-head IsAnEvent (replay_cancelled name) es all)
events_down moment (messages_deleted queue through ∷ es) t all a = absurd (All-head IsAnEvent (messages_deleted queue through) es all)

pub events_from : (moment : ℕ) (es : List Entry) (t : Tables) (n : ℕ) (set : RuleSet) → n ≡ t.events → set ≡ t.set → AreNextEvents (n + 1) set es →
    All IsAnEvent es × AreAdmitted moment es t
events_from moment es t n set same own next =
    events_up moment es t (subst (λ m. AreNextEvents (m + 1) t.set es) same (subst (λ (s : RuleSet). AreNextEvents (n + 1) s es) own next))

pub events_to : (moment : ℕ) (es : List Entry) (t : Tables) (n : ℕ) (set : RuleSet) → n ≡ t.events → set ≡ t.set → All IsAnEvent es →
    AreAdmitted moment es t → AreNextEvents (n + 1) set es
events_to moment es t n set same own all admitted =
    subst (λ (s : RuleSet). AreNextEvents (n + 1) s es) (sym own) (subst (λ m. AreNextEvents (m + 1) t.set es) (sym same) (events_down moment es t all admitted))

-- the first of several operations, and those after it
pub first_entry : (entries : List CodeEntry) (first d : CodeEntry) → 1 ≤ length entries → first ≡ get_or entries 0 d →
    map entry_of entries ≡ entry_of first ∷ map entry_of (take (length entries - 1) (drop 1 entries))
first_entry entries first d some is =
    ap (map entry_of) (drop_more entries 0 d (omega (arith, some)))
    ∙ ap (λ (x : CodeEntry). entry_of x ∷ map entry_of (drop 1 entries)) (sym is)
    ∙ ap (λ (rest : List CodeEntry). entry_of first ∷ map entry_of rest) (sym (take_rest entries 1))

-- a call that did not fail succeeded
pub no_error : {T E : Type 0} (r : Result T E) → is_err r ≡ false → is_ok r ≡ true
no_error (Ok x) e = refl
no_error (Err x) e = absurd (false≢true (sym e))

-- one event more, with its part
pub step_ok : (r : Result (Unit {0}) ReplayFault) (moment number : ℕ) (known : RuleSet) (es rest : List Entry) (e : Accepted) (old mid new : List Part)
    (part : Part) → es ≡ accepted e ∷ rest → IsNextEvent number known e → ((set : RuleSet) → IsPartOf moment set (accepted e) part) →
    mid ≡ old ++ part ∷ [] →
    OnOk r (AreNextEvents (number + 1) known rest × ((x : List Part) × (new ≡ mid ++ x) × ((set : RuleSet) → ArePartsOf moment set rest x))) →
    OnOk r (AreNextEvents number known es × ((x : List Part) × (new ≡ old ++ x) × ((set : RuleSet) → ArePartsOf moment set es x)))
step_ok (Ok done) moment number known es rest e old mid new part is next fits grown h = (
  subst (AreNextEvents number known) (sym is) (next, h.0),
  (
    part ∷ h.1.0,
    h.1.1 ∙ ap (λ (m : List Part). m ++ h.1.0) grown ∙ append_assoc old (part ∷ []) h.1.0,
    λ set. subst (λ (os : List Entry). ArePartsOf moment set os (part ∷ h.1.0)) (sym is) (fits set, h.1.2 set),
  ),
)
step_ok (Err fault) moment number known es rest e old mid new part is next fits grown h = tt

-- several operations of one turn are events
pub several_events : (es : List Entry) → 2 ≤ length es → AreOfOneTurn es → All IsAnEvent es
several_events es several (inl one) = absurd (omega (arith, several, ap length one.1))
several_events es several (inr many) = many.2

-- ---- no duty is claimed

pub free_at : (n : ℕ) (row : DutyRow) (rows : List (ℕ × DutyRow)) → AreUnclaimed rows → value_at n rows ≡ Some row → row.claimed ≡ false
free_at n row [] a e = absurd cc
free_at n row (x ∷ rows) a e =
    (elim (eqb x.0 n) as (λ b. cond b (Some x.1) (value_at n rows) ≡ Some row → row.claimed ≡ false) [
      | true ↦ λ h. let same : x.1 ≡ row = cc in subst (λ (r : DutyRow). r.claimed ≡ false) same a.0
      | false ↦ λ h. free_at n row rows a.1 h
    ]) e

free_placed : (new : ℕ × DutyRow) (rows : List (ℕ × DutyRow)) → new.1.claimed ≡ false → AreUnclaimed rows → AreUnclaimed (placed new rows)
free_placed new [] f a = (f, tt)
free_placed new (x ∷ rows) f a =
    elim (ltb new.0 x.0) as (λ b. AreUnclaimed (cond b (new ∷ x ∷ rows) (x ∷ placed new rows))) [ true ↦ (f, a) | false ↦ (a.0, free_placed new rows f a.1) ]

free_without : (n : ℕ) (rows : List (ℕ × DutyRow)) → AreUnclaimed rows → AreUnclaimed (without n rows)
free_without n [] a = tt
free_without n (x ∷ rows) a =
    elim (eqb x.0 n) as (λ b. AreUnclaimed (cond b (without n rows) (x ∷ without n rows))) [
      | true ↦ free_without n rows a.1
      | false ↦ (a.0, free_without n rows a.1)
    ]

free_added_one : (duty : NewDuty) (moment : ℕ) (s : Duties) → AreUnclaimed s.pending → AreUnclaimed (added_one duty moment s).pending
free_added_one duty moment s a =
    let row : DutyRow = begun (s.created + 1) moment duty in
    elim duty.too_long as (λ b. AreUnclaimed (cond b
    (failed (dead_letter_queue duty.target (has_dead_letter_queue duty.target s.queues)) too_long row (record s { created = s.created + 1 }))
    (record s { created = s.created + 1; pending = placed (s.created + 1, row) s.pending })).pending) [
      | true ↦ free_without (s.created + 1) s.pending a
      | false ↦ free_placed (s.created + 1, row) s.pending refl a
    ]

free_added : (duties : List NewDuty) (moment : ℕ) (s : Duties) → AreUnclaimed s.pending → AreUnclaimed (added duties moment s).pending
free_added [] moment s a = a
free_added (duty ∷ duties) moment s a = free_added duties moment (added_one duty moment s) (free_added_one duty moment s a)

free_settled_by : (row : DutyRow) (made : Attempt) (v : Verdict) (s : Duties) → AreUnclaimed s.pending → AreUnclaimed (settled_by row made v s).pending
free_settled_by row made Deliver s a = free_without row.number s.pending a
free_settled_by row made (Retry due) s a =
    free_placed (row.number, retried due made.outcome row) (without row.number s.pending) refl (free_without row.number s.pending a)
free_settled_by row made (Fail failure) s a = free_without row.number s.pending a

free_settled_row : (found : Option DutyRow) (moment : ℕ) (outcome : Outcome) (s : Duties) → AreUnclaimed s.pending →
    AreUnclaimed (settled_row found moment outcome s).pending
free_settled_row None moment outcome s a = a
free_settled_row (Some row) moment outcome s a = free_settled_by row (attempt_of row moment outcome s) (verdict_of row moment outcome) s a

free_after : (c : Control) (s : Duties) → AreUnclaimed s.pending → AreUnclaimed (duties_after c s).pending
free_after (bus_created name) s a = a
free_after (bus_deleted name) s a = a
free_after (rule_put bus name pattern enabled) s a = a
free_after (rule_deleted bus name) s a = a
free_after (state_put bus name enabled) s a = a
free_after (targets_put bus rule targets) s a = a
free_after (targets_removed bus rule ids) s a = a
free_after (policy_put bus policy) s a = a
free_after (queue_created name) s a = a
free_after (queue_deleted name) s a = a
free_after (archive_created name bus pattern days) s a = a
free_after (archive_updated name pattern days) s a = a
free_after (archive_deleted name) s a = a

free_entry : (moment : ℕ) (e : Entry) (t : Tables) → HasNoClaim t → HasNoClaim (after_entry moment e t)
free_entry moment (control c) t a = free_after c t.duties a
free_entry moment (accepted e) t a = free_added e.duties moment t.duties a
free_entry moment (attempt duty outcome) t a = free_settled_row (pending_row duty t.duties) moment outcome t.duties a
free_entry moment (replay_started s) t a = a
free_entry moment (replay_stepped s) t a = free_added s.duties moment t.duties a
free_entry moment (replay_cancelled name) t a = a
free_entry moment (messages_deleted queue through) t a = a

free_entries : (moment : ℕ) (es : List Entry) (t : Tables) → HasNoClaim t → HasNoClaim (after_entries moment es t)
free_entries moment [] t a = a
free_entries moment (e ∷ es) t a = free_entries moment es (after_entry moment e t) (free_entry moment e t a)

-- a batch leaves no duty claimed
pub free_batch : (b : Batch) (t : Tables) → HasNoClaim t → HasNoClaim (after_batch b t)
free_batch b t a = free_entries b.moment b.entries t a
