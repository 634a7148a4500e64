-- The tables after legal turns, claims set aside, are the fold of the batches that the turns wrote: `folds`, `folds_book`.
use Rattle.std.proofs.Common.{◌≡◌, ℕ, ◌+◌, Bool, max, true, false, cond, eqb, ltb, List, [], ◌∷◌, ◌++◌, map, Option, Some, None, refl, sym, ap, ◌∙◌}
use Rattle.std.specs.Option.{option_map}
use Rattle.rule_table.specs.Control.{Control, bus_created}
use Rattle.key_tree.specs.Entries.{value_at, placed, without}
use Rattle.delivery_duties.specs.declared.duty.DutyRow.{DutyRow}
use Rattle.delivery_duties.specs.declared.duty.NewDuty.{NewDuty}
use Rattle.delivery_duties.specs.declared.outcome.Outcome.{Outcome}
use Rattle.delivery_duties.specs.declared.outcome.Outcome.TheVariants.{Accepted, Code, NoAnswer, NoQueue, TooOld}
use Rattle.delivery_queues.specs.declared.failure.Failure.{Failure}
use Rattle.delivery_duties.specs.declared.verdict.Verdict.{Verdict}
use Rattle.delivery_duties.specs.declared.verdict.Verdict.TheVariants.{Deliver, Retry, Fail}
use Rattle.delivery_duties.specs.Retry.{Attempt, begun, retried, too_long, verdict_of, dead_letter_queue}
use Rattle.delivery_duties.specs.Duties.{Duties, pending_row, replaced, failed, has_dead_letter_queue, added_one, added, marked_row, settled_by, settled_row}
use Rattle.delivery_duties.specs.Duties.{settled, attempt_of}
use Rattle.router_requests.specs.Batch.{Batch, Entry, control, accepted, attempt, replay_started, replay_stepped, replay_cancelled, messages_deleted}
use Rattle.router_core.specs.Tables.{Tables, first_tables, duties_after, after_entry, after_entries, purged_at, after_batch, tables_after}
use Rattle.router_history.specs.History.{Ask, opens, asked, claims, records, puts_back, repeats, breaks, found_by, Turn, State, after_change, after_turn, state_after, state_of}
use Rattle.router_history.specs.History.{IsTurnFor, AreTurnsFrom, batches_of, with_written, begun_with, after_all, after_written}
use Rattle.router_history.specs.Folds.{unclaimed_entry, without_claims}
use Rattle.router_history.specs.Book.{IsBook}
use Rattle.router_history.proofs.PendingLemmas.{AreNumbered, row_number, restored}
use Rattle.router_history.proofs.SteadyLemmas.{IsSteady, steady_ask, steady_begun, steady_found}
use Rattle.router_history.proofs.BookLemmas.{opened_state, legal_later}

-- the row, not claimed
abbrev pub free : DutyRow → DutyRow
free row = record row { claimed = false }

abbrev pub Rows : Type 0
Rows = List (ℕ × DutyRow)

-- the rows, none of them claimed
abbrev pub freed : Rows → Rows
freed rows = map unclaimed_entry rows

-- the duties, none of them claimed
abbrev pub free_duties : Duties → Duties
free_duties d = record d { pending = freed d.pending }

freed_placed : (k : ℕ) (row : DutyRow) (es : Rows) → freed (placed (k, row) es) ≡ placed (k, free row) (freed es)
freed_placed k row [] = refl
freed_placed k row ((n, other) ∷ es) =
    elim (ltb k n) as (λ b. freed (cond b ((k, row) ∷ (n, other) ∷ es) ((n, other) ∷ placed (k, row) es))
    ≡ cond b ((k, free row) ∷ (n, free other) ∷ freed es) ((n, free other) ∷ placed (k, free row) (freed es))) [
      | true ↦ refl
      | false ↦ ap (λ (rows : Rows). (n, free other) ∷ rows) (freed_placed k row es)
    ]

freed_without : (k : ℕ) (es : Rows) → freed (without k es) ≡ without k (freed es)
freed_without k [] = refl
freed_without k ((n, other) ∷ es) =
    elim (eqb n k) as (λ b. freed (cond b (without k es) ((n, other) ∷ without k es))
    ≡ cond b (without k (freed es)) ((n, free other) ∷ without k (freed es))) [
      | true ↦ freed_without k es
      | false ↦ ap (λ (rows : Rows). (n, free other) ∷ rows) (freed_without k es)
    ]

pub freed_value : (k : ℕ) (es : Rows) → value_at k (freed es) ≡ option_map free (value_at k es)
freed_value k [] = refl
freed_value k ((n, other) ∷ es) =
    elim (eqb n k) as (λ b. cond b (Some (free other)) (value_at k (freed es)) ≡ option_map free (cond b (Some other) (value_at k es))) [
      | true ↦ refl
      | false ↦ freed_value k es
    ]

freed_replaced : (row : DutyRow) (es : Rows) → freed (replaced row es) ≡ replaced (free row) (freed es)
freed_replaced row es = freed_placed row.number row (without row.number es) ∙ ap (placed (row.number, free row)) (freed_without row.number es)

-- a claim, or its release, changes nothing but the claim
marked_freed : (mark : Bool) (found : Option DutyRow) (n : ℕ) (d : Duties) → pending_row n d ≡ found → AreNumbered d
    → free_duties (marked_row mark found d) ≡ free_duties d
marked_freed mark None n d there h = refl
marked_freed mark (Some row) n d there h =
    let number : row.number ≡ n = row_number d n row h there in
    let same : replaced row d.pending ≡ d.pending = ap (λ k. placed (k, row) (without k d.pending)) number ∙ restored n row d.pending h.sorted there in
    ap (λ (rows : Rows). record d { pending = rows })
    (freed_replaced (record row { claimed = mark }) d.pending ∙ sym (freed_replaced row d.pending) ∙ ap freed same)

pub claim_freed : (mark : Bool) (n : ℕ) (d : Duties) → AreNumbered d → free_duties (marked_row mark (pending_row n d) d) ≡ free_duties d
claim_freed mark n d h = marked_freed mark (pending_row n d) n d refl h

one_freed : (duty : NewDuty) (moment : ℕ) (d : Duties) → free_duties (added_one duty moment d) ≡ added_one duty moment (free_duties d)
one_freed duty moment d =
    let row : DutyRow = begun (d.created + 1) moment duty in
    let now : Duties = record d { created = d.created + 1 } in
    let arn : Option (List ℕ) = dead_letter_queue duty.target (has_dead_letter_queue duty.target d.queues) in
    elim duty.too_long as (λ b. free_duties (cond b (failed arn too_long row now) (record now { pending = placed (d.created + 1, row) d.pending }))
    ≡ cond b (failed arn too_long row (free_duties now)) (record (free_duties now) { pending = placed (d.created + 1, row) (freed d.pending) })) [
      | true ↦ ap (λ (rows : Rows). record (failed arn too_long row now) { pending = rows }) (freed_without (d.created + 1) d.pending)
      | false ↦ ap (λ (rows : Rows). record now { pending = rows }) (freed_placed (d.created + 1) row d.pending)
    ]

added_freed : (duties : List NewDuty) (moment : ℕ) (d : Duties) → free_duties (added duties moment d) ≡ added duties moment (free_duties d)
added_freed [] moment d = refl
added_freed (duty ∷ duties) moment d = added_freed duties moment (added_one duty moment d) ∙ ap (added duties moment) (one_freed duty moment d)

same_verdict : (row : DutyRow) (moment : ℕ) (outcome : Outcome) → verdict_of (free row) moment outcome ≡ verdict_of row moment outcome
same_verdict row moment Accepted = refl
same_verdict row moment (Code code) = refl
same_verdict row moment NoAnswer = refl
same_verdict row moment NoQueue = refl
same_verdict row moment TooOld = refl

failed_freed : (arn : Option (List ℕ)) (failure : Failure) (row : DutyRow) (d : Duties)
    → free_duties (failed arn failure row d) ≡ failed arn failure (free row) (free_duties d)
failed_freed None failure row d = ap (λ (rows : Rows). record (failed None failure row d) { pending = rows }) (freed_without row.number d.pending)
failed_freed (Some arn) failure row d = ap (λ (rows : Rows). record (failed (Some arn) failure row d) { pending = rows }) (freed_without row.number d.pending)

settled_as : (row : DutyRow) (a : Attempt) (v : Verdict) (d : Duties) → free_duties (settled_by row a v d) ≡ settled_by (free row) a v (free_duties d)
settled_as row a Deliver d = ap (λ (rows : Rows). record (settled_by row a Deliver d) { pending = rows }) (freed_without row.number d.pending)
settled_as row a (Retry due) d = ap (λ (rows : Rows). record d { pending = rows }) (freed_replaced (retried due a.outcome row) d.pending)
settled_as row a (Fail failure) d = failed_freed (dead_letter_queue row.duty.target a.has_dead_letter_queue) failure row d

settled_there : (found : Option DutyRow) (moment : ℕ) (outcome : Outcome) (d : Duties)
    → free_duties (settled_row found moment outcome d) ≡ settled_row (option_map free found) moment outcome (free_duties d)
settled_there None moment outcome d = refl
settled_there (Some row) moment outcome d =
    settled_as row (attempt_of row moment outcome d) (verdict_of row moment outcome) d
    ∙ ap (λ v. settled_by (free row) (attempt_of row moment outcome d) v (free_duties d)) (sym (same_verdict row moment outcome))

settled_freed : (n moment : ℕ) (outcome : Outcome) (d : Duties) → free_duties (settled n moment outcome d) ≡ settled n moment outcome (free_duties d)
settled_freed n moment outcome d =
    settled_there (pending_row n d) moment outcome d
    ∙ ap (λ found. settled_row found moment outcome (free_duties d)) (sym (freed_value n d.pending))

control_freed : (c : Control) (d : Duties) → free_duties (duties_after c d) ≡ duties_after c (free_duties d)
control_freed (bus_created name) d = refl
control_freed _ d = refl

pub entry_freed : (moment : ℕ) (e : Entry) (t : Tables) → without_claims (after_entry moment e t) ≡ after_entry moment e (without_claims t)
entry_freed moment (control c) t = ap (λ d. record (after_entry moment (control c) t) { duties = d }) (control_freed c t.duties)
entry_freed moment (accepted e) t = ap (λ d. record (after_entry moment (accepted e) t) { duties = d }) (added_freed e.duties moment t.duties)
entry_freed moment (attempt duty outcome) t =
    ap (λ d. record (after_entry moment (attempt duty outcome) t) { duties = d }) (settled_freed duty moment outcome t.duties)
entry_freed moment (replay_started s) t = refl
entry_freed moment (replay_stepped s) t = ap (λ d. record (after_entry moment (replay_stepped s) t) { duties = d }) (added_freed s.duties moment t.duties)
entry_freed moment (replay_cancelled name) t = refl
entry_freed moment (messages_deleted queue through) t = refl

entries_freed : (moment : ℕ) (es : List Entry) (t : Tables) → without_claims (after_entries moment es t) ≡ after_entries moment es (without_claims t)
entries_freed moment [] t = refl
entries_freed moment (e ∷ es) t = entries_freed moment es (after_entry moment e t) ∙ ap (after_entries moment es) (entry_freed moment e t)

pub batch_freed : (b : Batch) (t : Tables) → without_claims (after_batch b t) ≡ after_batch b (without_claims t)
batch_freed b t =
    ap (λ (now : Tables). record (purged_at b.moment now) { batches = t.batches + 1; moment = max t.moment b.moment }) (entries_freed b.moment b.entries t)

written_freed : (b : Option Batch) (s : State) (bs : List Batch)
    → tables_after bs (without_claims (after_change b s).tables) ≡ tables_after (with_written b bs) (without_claims s.tables)
written_freed None s bs = refl
written_freed (Some b) s bs = ap (tables_after bs) (batch_freed b s.tables)

-- the tables with one duty claimed or released, in a turn without a batch
unwritten_freed : (mark : Bool) (n : ℕ) (b : Option Batch) (t : Tables) (bs : List Batch) → b ≡ None → AreNumbered t.duties
    → tables_after bs (without_claims (record t { duties = marked_row mark (pending_row n t.duties) t.duties }))
    ≡ tables_after (with_written b bs) (without_claims t)
unwritten_freed mark n b t bs none h =
    ap (λ d. tables_after bs (record t { duties = d })) (claim_freed mark n t.duties h)
    ∙ ap (λ w. tables_after (with_written w bs) (without_claims t)) (sym none)

turn_freed : (turn : Turn) (ask : Ask) (s : State) (bs : List Batch) → turn.ask ≡ ask → IsSteady s → IsTurnFor s turn ask
    → tables_after bs (without_claims (after_turn turn s).tables) ≡ tables_after (found_by turn.ask ++ with_written turn.batch bs) (without_claims s.tables)
turn_freed turn (opens start found disk) s bs e h is = absurd is
turn_freed turn (asked request) s bs e h is = rw e (written_freed turn.batch s bs)
turn_freed turn (claims c) s bs e h is = rw e (unwritten_freed true c.number turn.batch s.tables bs is.unwritten h.numbered)
turn_freed turn (records a) s bs e h is = rw e (written_freed turn.batch s bs)
turn_freed turn (puts_back c why) s bs e h is = rw e (unwritten_freed false c.number turn.batch s.tables bs is.0 h.numbered)
turn_freed turn (repeats reading) s bs e h is = rw e (written_freed turn.batch s bs)
turn_freed turn (breaks unsure) s bs e h is = rw e (ap (λ w. tables_after (with_written w bs) (without_claims s.tables)) (sym is.unwritten))

pub folds : (s : State) (turns : List Turn) → AreTurnsFrom s turns → IsSteady s
    → without_claims (state_after turns s).tables ≡ tables_after (batches_of turns) (without_claims s.tables)
folds s [] legal h = refl
folds s (turn ∷ turns) legal h =
    folds (after_turn turn s) turns legal.1 (steady_ask turn turn.ask s legal.0.made_for h) ∙ turn_freed turn turn.ask s (batches_of turns) refl h legal.0.made_for

-- batches that were found
pub found_tables : (found : List Batch) (s : State) → (after_all found s).tables ≡ tables_after found s.tables
found_tables [] s = refl
found_tables (b ∷ bs) s = found_tables bs (after_written b s)

pub tables_freed : (bs : List Batch) (t : Tables) → without_claims (tables_after bs t) ≡ tables_after bs (without_claims t)
tables_freed [] t = refl
tables_freed (b ∷ bs) t = tables_freed bs (after_batch b t) ∙ ap (tables_after bs) (batch_freed b t)

tables_more : (xs ys : List Batch) (t : Tables) → tables_after (xs ++ ys) t ≡ tables_after ys (tables_after xs t)
tables_more [] ys t = refl
tables_more (x ∷ xs) ys t = tables_more xs ys (after_batch x t)

-- a book since it was opened
pub folds_book : (turns : List Turn) → IsBook turns → without_claims (state_of turns).tables ≡ tables_after (batches_of turns) first_tables
folds_book turns h =
    let first : State = opened_state h.found h.disk in
    ap (λ (ts : List Turn). without_claims (state_of ts).tables) h.opened
    ∙ folds first h.later (legal_later turns h) (steady_found h.found (begun_with h.disk first_tables) refl (steady_begun h.disk))
    ∙ ap (λ (t : Tables). tables_after (batches_of h.later) t) (ap without_claims (found_tables h.found (begun_with h.disk first_tables)) ∙ tables_freed h.found first_tables)
    ∙ sym (tables_more h.found (batches_of h.later) first_tables)
    ∙ ap (λ (ts : List Turn). tables_after (batches_of ts) first_tables) (sym h.opened)
