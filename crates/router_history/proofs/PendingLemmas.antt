-- Pending duties: in the order of their numbers, each under its own number, and none above the number of duties made so far. Each change of
-- the tables keeps this. Other files cite `IsNumbered`, `entries_numbered`, `marked_numbered`, `key_has`, `row_number`, `ordered_of`, `marked_row_there`, `released` and
-- `restored`.
use Rattle.std.proofs.Common.{◌≡◌, ◌≢◌, ℕ, ◌+◌, ◌<◌, ◌≤◌, Bool, true, false, cond, eqb, ltb, List, [], ◌∷◌, Option, Some, None, refl, sym, ap, ◌∙◌, subst}
use Rattle.std.proofs.Common.{arith}
use Rattle.std.proofs.lemmas.Bool.{eq-eqb, eqb-true, le-ltb}
use Rattle.rule_table.specs.Control.{Control, bus_created}
use Rattle.key_tree.specs.Entries.{value_at, placed, without, AllKeys, AreSorted}
use Rattle.key_tree.proofs.EntryLemmas.{AllKeys-weaker, AllKeys-placed, AllKeys-without, others, placed_lower, sorted_placed, sorted_without}
use Rattle.key_tree.proofs.EntryLemmas.{value_at-placed, value_at-without_same, without_none}
use Rattle.delivery_duties.specs.declared.duty.DutyRow.{DutyRow}
use Rattle.delivery_duties.specs.declared.duty.NewDuty.{NewDuty}
use Rattle.delivery_duties.specs.declared.outcome.Outcome.{Outcome}
use Rattle.delivery_duties.specs.declared.verdict.Verdict.{Verdict}
use Rattle.delivery_duties.specs.declared.verdict.Verdict.TheVariants.{Deliver, Retry, Fail}
use Rattle.delivery_duties.specs.Retry.{Attempt, begun, too_long, verdict_of, dead_letter_queue}
use Rattle.delivery_duties.specs.Duties.{Duties, IsOrdered, pending_row, replaced, failed, has_dead_letter_queue, added_one, added, marked_row, claimed}
use Rattle.delivery_duties.specs.Duties.{unclaimed, settled_by, settled_row, attempt_of}
use Rattle.delivery_duties.proofs.ClaimLemmas.{put_back}
use Rattle.router_requests.specs.Batch.{Entry, control, accepted, attempt, replay_started, replay_stepped, replay_cancelled, messages_deleted}
use Rattle.router_core.specs.Tables.{Tables, duties_after, after_entry, after_entries}

-- each row is under its own number
abbrev pub AreNamed : List (ℕ × DutyRow) → Type 0
AreNamed [] = Unit {0}
AreNamed (e ∷ es) = (e.1.number ≡ e.0) × AreNamed es

-- what holds of the pending rows, after this number of duties
pub record IsNumbered (created : ℕ) (rows : List (ℕ × DutyRow)) : Type 0 where
  pub sorted : AreSorted rows
  pub named : AreNamed rows
  pub known : AllKeys (λ k. k ≤ created) rows

abbrev pub AreNumbered : Duties → Type 0
AreNumbered d = IsNumbered d.created d.pending

named_placed : (new : ℕ × DutyRow) (es : List (ℕ × DutyRow)) → new.1.number ≡ new.0 → AreNamed es → AreNamed (placed new es)
named_placed new [] h a = (h, tt)
named_placed new (e ∷ es) h a =
    elim (ltb new.0 e.0) as (λ b. AreNamed (cond b (new ∷ e ∷ es) (e ∷ placed new es))) [ true ↦ (h, a) | false ↦ (a.0, named_placed new es h a.1) ]

named_without : (key : ℕ) (es : List (ℕ × DutyRow)) → AreNamed es → AreNamed (without key es)
named_without key [] a = tt
named_without key (e ∷ es) a =
    elim (eqb e.0 key) as (λ b. AreNamed (cond b (without key es) (e ∷ without key es))) [
      | true ↦ named_without key es a.1
      | false ↦ (a.0, named_without key es a.1)
    ]

name_at : (key : ℕ) (row : DutyRow) (es : List (ℕ × DutyRow)) → AreNamed es → value_at key es ≡ Some row → row.number ≡ key
name_at key row [] a e = absurd (cc)
name_at key row (x ∷ es) a e =
    (elim (eqb x.0 key) as (λ b. eqb x.0 key ≡ b → cond b (Some x.1) (value_at key es) ≡ Some row → row.number ≡ key) [
      | true ↦ λ i h. let same : x.1 ≡ row = cc in sym (ap (λ (r : DutyRow). r.number) same) ∙ a.0 ∙ eqb-true x.0 key i
      | false ↦ λ i h. name_at key row es a.1 h
    ]) refl e

pub key_has : {V : Type 0} (P : ℕ → Type 0) (key : ℕ) (w : V) (es : List (ℕ × V)) → AllKeys P es → value_at key es ≡ Some w → P key
key_has P key w [] a e = absurd (cc)
key_has P key w (x ∷ es) a e =
    (elim (eqb x.0 key) as (λ b. eqb x.0 key ≡ b → cond b (Some x.1) (value_at key es) ≡ Some w → P key) [
      | true ↦ λ i h. subst P (eqb-true x.0 key i) a.0
      | false ↦ λ i h. key_has P key w es a.1 h
    ]) refl e

larger : (a b : ℕ) → a < b → b ≢ a
larger a b h e = absurd (omega (arith, h, e))

-- an entry that was removed is placed again
pub restored : {V : Type 0} (key : ℕ) (v : V) (es : List (ℕ × V)) → AreSorted es → value_at key es ≡ Some v → placed (key, v) (without key es) ≡ es
restored key v [] s e = absurd (cc)
restored {V} key v (x ∷ es) s e =
    (elim (eqb x.0 key) as (λ b. eqb x.0 key ≡ b → cond b (Some x.1) (value_at key es) ≡ Some v
    → placed (key, v) (cond b (without key es) (x ∷ without key es)) ≡ x ∷ es) [
      | true ↦ λ i h.
          let after : AllKeys (λ k. key < k) es = subst (λ k. AllKeys (λ j. k < j) es) (eqb-true x.0 key i) s.0 in
          let rest : without key es ≡ es = without_none key es (AllKeys-weaker (λ k. key < k) (λ k. k ≢ key) (λ k p. larger key k p) es after) in
          let value : x.1 ≡ v = cc in
          let entry : (key, v) ≡ x = sym (ap (λ k. (k, x.1)) (eqb-true x.0 key i) ∙ ap (λ w. (key, w)) value) in
          ap (placed (key, v)) rest ∙ placed_lower (key, v) [] es after ∙ ap (λ y. y ∷ es) entry
      | false ↦ λ i h.
          let below : x.0 < key = key_has (λ j. x.0 < j) key v es s.0 h in
          rw (le-ltb key x.0 (omega (arith, below))) (ap (λ rest. x ∷ rest) (restored key v es s.1 h))
    ]) refl e

-- one duty more was made
one_more : {n : ℕ} {rows : List (ℕ × DutyRow)} → IsNumbered n rows → IsNumbered (n + 1) rows
one_more {n} {rows} h = record {
  sorted = h.sorted;
  named = h.named;
  known = AllKeys-weaker (λ k. k ≤ n) (λ k. k ≤ n + 1) (λ k p. omega (arith, p)) rows h.known;
}

one_placed : {n : ℕ} {rows : List (ℕ × DutyRow)} (row : DutyRow) → row.number ≡ n + 1 → IsNumbered n rows → IsNumbered (n + 1) (placed (n + 1, row) rows)
one_placed {n} {rows} row number h = record {
  sorted = sorted_placed (n + 1, row) rows h.sorted
      (AllKeys-weaker (λ k. k ≤ n) (λ k. k ≢ n + 1) (λ k p e. absurd (omega (arith, p, e))) rows h.known);
  named = named_placed (n + 1, row) rows number h.named;
  known = AllKeys-placed (λ k. k ≤ n + 1) (n + 1, row) rows (omega arith) (one_more h).known;
}

one_less : {n : ℕ} {rows : List (ℕ × DutyRow)} (key : ℕ) → IsNumbered n rows → IsNumbered n (without key rows)
one_less {n} {rows} key h = record {
  sorted = sorted_without key rows h.sorted;
  named = named_without key rows h.named;
  known = AllKeys-without (λ k. k ≤ n) key rows h.known;
}

one_replaced : {n : ℕ} {rows : List (ℕ × DutyRow)} (key : ℕ) (row new : DutyRow) → IsNumbered n rows → value_at key rows ≡ Some row
    → new.number ≡ row.number → IsNumbered n (replaced new rows)
one_replaced {n} {rows} key row new h there number =
    let named : row.number ≡ key = name_at key row rows h.named there in
    let known : key ≤ n = key_has (λ k. k ≤ n) key row rows h.known there in
    let below : new.number ≤ n = omega (arith, named, known, number) in
    let left : List (ℕ × DutyRow) = without new.number rows in
    let less = one_less new.number h in
    record {
      sorted = sorted_placed (new.number, new) left less.sorted (others new.number left (value_at-without_same new.number rows));
      named = named_placed (new.number, new) left refl less.named;
      known = AllKeys-placed (λ k. k ≤ n) (new.number, new) left below less.known;
    }

pub row_number : (d : Duties) (n : ℕ) (row : DutyRow) → AreNumbered d → pending_row n d ≡ Some row → row.number ≡ n
row_number d n row h there = name_at n row d.pending h.named there

pub ordered_of : (d : Duties) → AreNumbered d → IsOrdered d
ordered_of d h = record { sorted = h.sorted; named = λ n row there. row_number d n row h there }

marked_by : (mark : Bool) (found : Option DutyRow) (n : ℕ) (d : Duties) → pending_row n d ≡ found → AreNumbered d → AreNumbered (marked_row mark found d)
marked_by mark None n d there h = h
marked_by mark (Some row) n d there h = one_replaced n row (record row { claimed = mark }) h there refl

-- a duty is claimed, or its claim released
pub marked_numbered : (mark : Bool) (n : ℕ) (d : Duties) → AreNumbered d → AreNumbered (marked_row mark (pending_row n d) d)
marked_numbered mark n d h = marked_by mark (pending_row n d) n d refl h

there_by : (mark : Bool) (n : ℕ) (row : DutyRow) (rows : List (ℕ × DutyRow)) → row.number ≡ n
    → value_at n (replaced (record row { claimed = mark }) rows) ≡ Some (record row { claimed = mark })
there_by mark n row rows number =
    let new : DutyRow = record row { claimed = mark } in
    let left : List (ℕ × DutyRow) = without row.number rows in
    value_at-placed n (row.number, new) left (others row.number left (value_at-without_same row.number rows)) ∙ rw (eq-eqb row.number n number) refl

-- the row of a duty with its claim made or released
pub marked_row_there : (mark : Bool) (n : ℕ) (row : DutyRow) (d : Duties) → AreNumbered d → pending_row n d ≡ Some row
    → pending_row n (marked_row mark (pending_row n d) d) ≡ Some (record row { claimed = mark })
marked_row_there mark n row d h there =
    ap (λ found. pending_row n (marked_row mark found d)) there ∙ there_by mark n row d.pending (row_number d n row h there)

-- a claim that is released at once
pub released : (n : ℕ) (row : DutyRow) (d : Duties) → AreNumbered d → pending_row n d ≡ Some row → row.claimed ≡ false → unclaimed n (claimed n d) ≡ d
released n row d h there free = put_back d n (ordered_of d h) (row, there, free)

one_added : (duty : NewDuty) (moment : ℕ) (d : Duties) → AreNumbered d → AreNumbered (added_one duty moment d)
one_added duty moment d h =
    let row : DutyRow = begun (d.created + 1) moment duty in
    elim duty.too_long as (λ b. AreNumbered (cond b
    (failed (dead_letter_queue duty.target (has_dead_letter_queue duty.target d.queues)) too_long row (record d { created = d.created + 1 }))
    (record d { created = d.created + 1; pending = placed (d.created + 1, row) d.pending }))) [
      | true ↦ one_less (d.created + 1) (one_more h)
      | false ↦ one_placed row refl h
    ]

added_numbered : (duties : List NewDuty) (moment : ℕ) (d : Duties) → AreNumbered d → AreNumbered (added duties moment d)
added_numbered [] moment d h = h
added_numbered (duty ∷ duties) moment d h = added_numbered duties moment (added_one duty moment d) (one_added duty moment d h)

settled_as : (row : DutyRow) (a : Attempt) (v : Verdict) (n : ℕ) (d : Duties) → pending_row n d ≡ Some row → AreNumbered d → AreNumbered (settled_by row a v d)
settled_as row a Deliver n d there h = one_less row.number h
settled_as row a (Retry due) n d there h = one_replaced n row _ h there refl
settled_as row a (Fail failure) n d there h = one_less row.number h

settled_there : (found : Option DutyRow) (n moment : ℕ) (outcome : Outcome) (d : Duties) → pending_row n d ≡ found → AreNumbered d
    → AreNumbered (settled_row found moment outcome d)
settled_there None n moment outcome d there h = h
settled_there (Some row) n moment outcome d there h = settled_as row (attempt_of row moment outcome d) (verdict_of row moment outcome) n d there h

control_numbered : (c : Control) (d : Duties) → AreNumbered d → AreNumbered (duties_after c d)
control_numbered (bus_created name) d h = h
control_numbered _ d h = h

entry_numbered : (moment : ℕ) (e : Entry) (t : Tables) → AreNumbered t.duties → AreNumbered (after_entry moment e t).duties
entry_numbered moment (control c) t h = control_numbered c t.duties h
entry_numbered moment (accepted e) t h = added_numbered e.duties moment t.duties h
entry_numbered moment (attempt duty outcome) t h = settled_there (pending_row duty t.duties) duty moment outcome t.duties refl h
entry_numbered moment (replay_started s) t h = h
entry_numbered moment (replay_stepped s) t h = added_numbered s.duties moment t.duties h
entry_numbered moment (replay_cancelled name) t h = h
entry_numbered moment (messages_deleted queue through) t h = h

pub entries_numbered : (moment : ℕ) (es : List Entry) (t : Tables) → AreNumbered t.duties → AreNumbered (after_entries moment es t).duties
entries_numbered moment [] t h = h
entries_numbered moment (e ∷ es) t h = entries_numbered moment es (after_entry moment e t) (entry_numbered moment e t h)
