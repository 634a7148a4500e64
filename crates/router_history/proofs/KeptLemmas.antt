-- The row of a duty, once another duty was claimed, released or attempted, or a request was answered: `marked_other`, `settled_other`, `written_keeps`; or a
-- step of the replays was made: `repeat_keeps`.
use Rattle.std.proofs.Common.{◌≡◌, ◌≢◌, ℕ, ◌+◌, ◌≤◌, Bool, true, false, cond, eqb, ltb, List, [], ◌∷◌, Option, Some, None}
use Rattle.std.proofs.Common.{refl, sym, ap, ◌∙◌, arith}
use Rattle.std.proofs.lemmas.Bool.{ne_eqb}
use Rattle.key_tree.specs.Entries.{value_at, placed, without}
use Rattle.key_tree.proofs.EntryLemmas.{value_at-without_other}
use Rattle.rule_table.specs.Control.{Control, bus_created}
use Rattle.delivery_duties.specs.declared.duty.DutyRow.{DutyRow}
use Rattle.delivery_duties.specs.declared.duty.NewDuty.{NewDuty}
use Rattle.delivery_duties.specs.declared.outcome.Outcome.{Outcome}
use Rattle.delivery_duties.specs.declared.verdict.Verdict.{Verdict}
use Rattle.delivery_duties.specs.declared.verdict.Verdict.TheVariants.{Deliver, Retry, Fail}
use Rattle.delivery_duties.specs.Retry.{Attempt, begun, retried, too_long, verdict_of, dead_letter_queue}
use Rattle.delivery_duties.specs.Duties.{Duties, pending_row, replaced, failed, has_dead_letter_queue, added_one, added, marked_row}
use Rattle.delivery_duties.specs.Duties.{settled_by, settled_row, attempt_of}
use Rattle.router_requests.specs.Batch.{Batch, Entry, control, accepted, attempt, replay_started, replay_stepped, replay_cancelled, messages_deleted}
use Rattle.router_core.specs.Tables.{Tables, duties_after, after_entry, after_entries}
use Rattle.router_core.specs.Replaying.{IsReplayStep}
use Rattle.router_requests.specs.Request.{Action}
use Rattle.router_calls.proofs.FormLemmas.{IsOf, AreOf, WritesOf}
use Rattle.router_history.specs.History.{State, after_change}
use Rattle.router_history.proofs.PendingLemmas.{AreNumbered, row_number}

-- the value of a key, once an entry was placed under another key
placed_other : {V : Type 0} (key : ℕ) (new : ℕ × V) (es : List (ℕ × V)) → new.0 ≢ key → value_at key (placed new es) ≡ value_at key es
placed_other key new [] ne = rw (ne_eqb new.0 key ne) refl
placed_other key new (e ∷ es) ne =
    elim (ltb new.0 e.0) as (λ b. value_at key (cond b (new ∷ e ∷ es) (e ∷ placed new es)) ≡ value_at key (e ∷ es)) [
      | true ↦ rw (ne_eqb new.0 key ne) refl
      | false ↦ ap (λ o. cond (eqb e.0 key) (Some e.1) o) (placed_other key new es ne)
    ]

replaced_other : (key : ℕ) (row : DutyRow) (rows : List (ℕ × DutyRow)) → row.number ≢ key
    → value_at key (replaced row rows) ≡ value_at key rows
replaced_other key row rows ne =
    placed_other key (row.number, row) (without row.number rows) ne ∙ value_at-without_other key row.number rows ne

-- the row has another number than `key`
apart : (d : Duties) (n key : ℕ) (row : DutyRow) → AreNumbered d → pending_row n d ≡ Some row → n ≢ key → row.number ≢ key
apart d n key row h there ne e = ne (sym (row_number d n row h there) ∙ e)

-- another duty is claimed, or its claim released
pub marked_other : (mark : Bool) (found : Option DutyRow) (n key : ℕ) (d : Duties) → AreNumbered d → pending_row n d ≡ found → n ≢ key
    → pending_row key (marked_row mark found d) ≡ pending_row key d
marked_other mark None n key d h there ne = refl
marked_other mark (Some row) n key d h there ne =
    replaced_other key (record row { claimed = mark }) d.pending (apart d n key row h there ne)

settled_as : (row : DutyRow) (a : Attempt) (v : Verdict) (key : ℕ) (d : Duties) → row.number ≢ key
    → pending_row key (settled_by row a v d) ≡ pending_row key d
settled_as row a Deliver key d ne = value_at-without_other key row.number d.pending ne
settled_as row a (Retry due) key d ne = replaced_other key (retried due a.outcome row) d.pending ne
settled_as row a (Fail failure) key d ne = value_at-without_other key row.number d.pending ne

-- an attempt of another duty
pub settled_other : (found : Option DutyRow) (n key moment : ℕ) (outcome : Outcome) (d : Duties) → AreNumbered d → pending_row n d ≡ found
    → n ≢ key → pending_row key (settled_row found moment outcome d) ≡ pending_row key d
settled_other None n key moment outcome d h there ne = refl
settled_other (Some row) n key moment outcome d h there ne =
    settled_as row (attempt_of row moment outcome d) (verdict_of row moment outcome) key d (apart d n key row h there ne)

-- the row of this number stays, and the number is one of those given so far
abbrev Keeps : ℕ → Duties → Duties → Type 0
Keeps key old new = (pending_row key new ≡ pending_row key old) × (key ≤ new.created)

one_more : (a b : ℕ) → a ≤ b → a ≤ b + 1
one_more a b h = omega (arith, h)

one_added : (duty : NewDuty) (moment key : ℕ) (d : Duties) → key ≤ d.created → Keeps key d (added_one duty moment d)
one_added duty moment key d known =
    let row : DutyRow = begun (d.created + 1) moment duty in
    let now : Duties = record d { created = d.created + 1 } in
    let arn : Option (List ℕ) = dead_letter_queue duty.target (has_dead_letter_queue duty.target d.queues) in
    let ne : d.created + 1 ≢ key = λ e. absurd (omega (arith, known, e)) in
    elim duty.too_long as (λ b. Keeps key d (cond b (failed arn too_long row now)
    (record now { pending = placed (d.created + 1, row) d.pending }))) [
      | true ↦ (value_at-without_other key (d.created + 1) d.pending ne, one_more key d.created known)
      | false ↦ (placed_other key (d.created + 1, row) d.pending ne, one_more key d.created known)
    ]

-- the duties of an event are added
all_added : (duties : List NewDuty) (moment key : ℕ) (d : Duties) → key ≤ d.created → Keeps key d (added duties moment d)
all_added [] moment key d known = (refl, known)
all_added (duty ∷ duties) moment key d known =
    let first = one_added duty moment key d known in
    let rest = all_added duties moment key (added_one duty moment d) first.1 in
    (rest.0 ∙ first.0, rest.1)

changed : (c : Control) (key : ℕ) (d : Duties) → key ≤ d.created → Keeps key d (duties_after c d)
changed (bus_created name) key d known = (refl, known)
changed _ key d known = (refl, known)

entry_keeps : (before : Tables) (action : Action) (moment : ℕ) (e : Entry) (key : ℕ) (t : Tables) → IsOf before action e → key ≤ t.duties.created
    → Keeps key t.duties (after_entry moment e t).duties
entry_keeps before action moment (control c) key t is known = changed c key t.duties known
entry_keeps before action moment (accepted e) key t is known = all_added e.duties moment key t.duties known
entry_keeps before action moment (attempt duty outcome) key t is known = absurd is
entry_keeps before action moment (replay_started s) key t is known = (refl, known)
entry_keeps before action moment (replay_stepped s) key t is known = absurd is
entry_keeps before action moment (replay_cancelled name) key t is known = (refl, known)
entry_keeps before action moment (messages_deleted queue through) key t is known = (refl, known)

entries_keep : (before : Tables) (action : Action) (moment : ℕ) (es : List Entry) (key : ℕ) (t : Tables) → AreOf before action es → key ≤ t.duties.created
    → Keeps key t.duties (after_entries moment es t).duties
entries_keep before action moment [] key t are known = (refl, known)
entries_keep before action moment (e ∷ es) key t are known =
    let first = entry_keeps before action moment e key t are.0 known in
    let rest = entries_keep before action moment es key (after_entry moment e t) are.1 first.1 in
    (rest.0 ∙ first.0, rest.1)

-- the row of a duty after a batch of a request, which records no attempt
pub written_keeps : (before : Tables) (action : Action) (b : Option Batch) (key : ℕ) (s : State) → WritesOf before action b → key ≤ s.tables.duties.created
    → pending_row key (after_change b s).tables.duties ≡ pending_row key s.tables.duties
written_keeps before action None key s of known = refl
written_keeps before action (Some b) key s of known = (entries_keep before action b.moment b.entries key s.tables of known).0

-- the row of a duty after a step of the replays
pub repeat_keeps : (b : Option Batch) (key : ℕ) (s : State) (moment : ℕ) (batch : Batch) → b ≡ Some batch → IsReplayStep s.tables moment batch
    → key ≤ s.tables.duties.created → pending_row key (after_change b s).tables.duties ≡ pending_row key s.tables.duties
repeat_keeps b key s moment batch wrote step known =
    ap (λ (x : Option Batch). pending_row key (after_change x s).tables.duties) (wrote ∙ ap Some step.is)
    ∙ (all_added step.duties moment key s.tables.duties known).0
