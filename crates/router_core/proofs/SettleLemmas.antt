-- An attempt of a duty that is claimed for it alone is one of the free duty. The answers of `Tables::settle_at` cite `settled_at` and `fate_at`,
-- those of `Tables::finish` `attempted`, and both `with_attempt`.
use Rattle.std.proofs.Common.{◌≡◌, ◌≢◌, ℕ, ◌+◌, ◌≤◌, true, false, cond, ltb, List, [], ◌∷◌, ◌++◌, Option, Some, None, max}
use Rattle.std.proofs.Common.{refl, sym, ap, ◌∙◌, subst, arith, map}
use Rattle.std.specs.Prelude.{All}
use Rattle.std.proofs.lemmas.Bool.{ne_eqb, eq-eqb}
use Rattle.key_tree.specs.Entries.{value_at, placed, without, AllKeys}
use Rattle.key_tree.proofs.EntryLemmas.{others, value_at-placed, value_at-without_same, without_none}
use Rattle.delivery_duties.specs.declared.duty.DutyRow.{DutyRow}
use Rattle.delivery_duties.specs.declared.outcome.Outcome.{Outcome}
use Rattle.delivery_duties.specs.declared.outcome.Fate.{Fate}
use Rattle.delivery_duties.specs.declared.verdict.Verdict.{Verdict}
use Rattle.delivery_duties.specs.declared.verdict.Verdict.TheVariants.{Deliver, Retry, Fail}
use Rattle.delivery_queues.specs.declared.failure.Failure.{Failure}
use Rattle.delivery_duties.specs.Retry.{Attempt, after_attempt, dead_letter_queue, fate_of, state_by, verdict_of, waits}
use Rattle.delivery_duties.specs.Duties.{Duties, attempt_of, claimed, failed, marked_row, pending_row, replaced, settled, settled_by, settled_row}
use Rattle.archive_keep.specs.Archive.{Archive}
use Rattle.archive_keep.specs.Archives.{all_purged, name_of}
use Rattle.delivery_queues.specs.Queues.{Queue}
use Rattle.router_core.specs.Tables.{Tables, after_batch, number_limit, KeepsUpTo, IsConsistent}
use Rattle.router_core.proofs.KeepingLemmas.{all_purged_up, names_purged}
use Rattle.router_core.proofs.BatchLemmas.{below_limit}
use Rattle.router_core.specs.Admitted.{IsAdmitted}
use Rattle.router_requests.specs.Batch as batch
use Rattle.router_requests.specs.View.{entry_of}
use Rattle.router_core.specs.Steps.{fate_after, record_of}
use Rattle.router_requests.specs.declared.batch.Entry.{Entry as CodeEntry}
use Rattle.router_requests.specs.declared.batch.Entry.TheVariants as code_entry

-- a row that was put among others that lack its key is taken out
gone : (key : ℕ) (row : DutyRow) (rows : List (ℕ × DutyRow)) → AllKeys (λ k. k ≢ key) rows → without key (placed (key, row) rows) ≡ rows
gone key row [] a = rw (eq-eqb key key refl) refl
gone key row (e ∷ rows) a =
    elim (ltb key e.0) as (λ b. without key (cond b ((key, row) ∷ e ∷ rows) (e ∷ placed (key, row) rows)) ≡ e ∷ rows) [
      | true ↦ rw (eq-eqb key key refl) (without_none key (e ∷ rows) a)
      | false ↦ rw (ne_eqb e.0 key a.0) (ap (λ rest. e ∷ rest) (gone key row rows a.1))
    ]

abbrev marked : DutyRow → DutyRow
marked row = record row { claimed = true }

-- the duties with this row claimed
abbrev claiming_row : DutyRow → Duties → Duties
claiming_row row s = record s { pending = replaced (marked row) s.pending }

taken : (row : DutyRow) (rows : List (ℕ × DutyRow)) → without row.number (replaced (marked row) rows) ≡ without row.number rows
taken row rows = gone row.number (marked row) (without row.number rows) (others row.number (without row.number rows) (value_at-without_same row.number rows))

there_again : (row : DutyRow) (rows : List (ℕ × DutyRow)) → value_at row.number (replaced (marked row) rows) ≡ Some (marked row)
there_again row rows =
    let left = without row.number rows in
    value_at-placed row.number (row.number, marked row) left (others row.number left (value_at-without_same row.number rows))
    ∙ rw (eq-eqb row.number row.number refl) refl

same_failed : (arn : Option (List ℕ)) (failure : Failure) (row : DutyRow) (s : Duties) → failed arn failure (marked row) (claiming_row row s) ≡ failed arn failure row s
same_failed None failure row s = ap (λ rows. record (failed None failure row s) { pending = rows }) (taken row s.pending)
same_failed (Some arn) failure row s = ap (λ rows. record (failed (Some arn) failure row s) { pending = rows }) (taken row s.pending)

same_end : (row : DutyRow) (attempt : Attempt) (v : Verdict) (s : Duties) → settled_by (marked row) attempt v (claiming_row row s) ≡ settled_by row attempt v s
same_end row attempt Deliver s = ap (λ rows. record (settled_by row attempt Deliver s) { pending = rows }) (taken row s.pending)
same_end row attempt (Retry due) s =
    ap (λ rows. record s { pending = placed (row.number, record row { due = due; attempts = row.attempts + 1; last = Some attempt.outcome; claimed = false }) rows })
    (taken row s.pending)
same_end row attempt (Fail failure) s = same_failed (dead_letter_queue row.duty.target attempt.has_dead_letter_queue) failure row s

claimed_is : (s : Duties) (n : ℕ) (row : DutyRow) → pending_row n s ≡ Some row → claimed n s ≡ claiming_row row s
claimed_is s n row there = ap (λ o. marked_row true o s) there

claimed_there : (s : Duties) (n : ℕ) (row : DutyRow) → row.number ≡ n → pending_row n (claiming_row row s) ≡ Some (marked row)
claimed_there s n row named = subst (λ k. pending_row k (claiming_row row s) ≡ Some (marked row)) named (there_again row s.pending)

pub settled_claimed : (s : Duties) (n moment : ℕ) (outcome : Outcome) (row : DutyRow) → pending_row n s ≡ Some row → row.number ≡ n →
    settled n moment outcome (claimed n s) ≡ settled n moment outcome s
settled_claimed s n moment outcome row there named =
    ap (settled n moment outcome) (claimed_is s n row there)
    ∙ ap (λ o. settled_row o moment outcome (claiming_row row s)) (claimed_there s n row named)
    ∙ same_end row (attempt_of row moment outcome s) (verdict_of row moment outcome) s
    ∙ sym (ap (λ o. settled_row o moment outcome s) there)

max_later : (a b : ℕ) → a ≤ b → max a b ≡ b
max_later a b le = omega (arith, le)

-- the tables after a batch of one attempt
pub attempted : (t now : Tables) (n moment : ℕ) (outcome : Outcome) (new : Duties) (archives : List Archive) → t ≡ now → IsAdmitted now (record_of moment n outcome)
    → new ≡ settled n moment outcome t.duties → archives ≡ all_purged moment t.archives
    → record t { duties = new; archives = archives; entries = t.entries + 1; batches = t.batches + 1; moment = moment } ≡ after_batch (record_of moment n outcome) now
attempted t now n moment outcome new archives same admitted is left =
    ap (λ (d : Duties). record t { duties = d; archives = archives; entries = t.entries + 1; batches = t.batches + 1; moment = moment }) is
    ∙ ap (λ (rows : List Archive). record t {
      duties = settled n moment outcome t.duties;
      archives = rows;
      entries = t.entries + 1;
      batches = t.batches + 1;
      moment = moment;
    }) left
    ∙ ap (λ (s : Tables). record s {
      duties = settled n moment outcome s.duties;
      archives = all_purged moment s.archives;
      entries = s.entries + 1;
      batches = s.batches + 1;
      moment = moment;
    }) same
    ∙ ap (λ (m : ℕ). record now {
      duties = settled n moment outcome now.duties;
      archives = all_purged moment now.archives;
      entries = now.entries + 1;
      batches = now.batches + 1;
      moment = m;
    }) (sym (max_later now.moment moment admitted.later))

pub settled_at : (t now : Tables) (n moment : ℕ) (outcome : Outcome) (mid new : Duties) (archives : List Archive) (row : DutyRow) → t ≡ now
    → IsAdmitted now (record_of moment n outcome) → pending_row n now.duties ≡ Some row → row.number ≡ n → mid ≡ claimed n t.duties
    → new ≡ settled n moment outcome mid → archives ≡ all_purged moment t.archives
    → record t { duties = new; archives = archives; entries = t.entries + 1; batches = t.batches + 1; moment = moment } ≡ after_batch (record_of moment n outcome) now
settled_at t now n moment outcome mid new archives row same admitted there named first last left =
    attempted t now n moment outcome new archives same admitted
    (last ∙ ap (settled n moment outcome) first
    ∙ settled_claimed t.duties n moment outcome row (subst (λ (s : Tables). pending_row n s.duties ≡ Some row) (sym same) there) named) left

-- an attempt keeps tables consistent
pub with_attempt : (t now : Tables) (n moment : ℕ) (outcome : Outcome) (new : Duties) (archives : List Archive) → t ≡ now
    → IsAdmitted now (record_of moment n outcome) → map (λ (m : Queue). m.name) new.queues ≡ map (λ (m : Queue). m.name) t.duties.queues
    → new.created ≡ t.duties.created → archives ≡ all_purged moment t.archives → IsConsistent t
    → IsConsistent (record t { duties = new; archives = archives; entries = t.entries + 1; batches = t.batches + 1; moment = moment })
with_attempt t now n moment outcome new archives same admitted names made left was =
    let below = below_limit number_limit now.entries now.duties.created admitted.numbered in
    let le : t.moment ≤ moment = omega (arith, admitted.later, ap (λ (s : Tables). s.moment) same) in
    record {
      queues = names ∙ was.queues;
      moment = admitted.moment;
      count = omega (arith, was.count);
      events = omega (arith, was.events);
      batches = omega (arith, was.batches);
      entries = omega (arith, below.0, ap (λ (s : Tables). s.entries) same);
      created = omega (arith, was.created, made);
      archives = ap (map name_of) left ∙ names_purged moment t.archives ∙ was.archives;
      kept = subst (All (KeepsUpTo t.events moment)) (sym left) (all_purged_up t.events t.moment moment moment t.archives le was.kept);
      starts = omega (arith, was.starts);
    }

same_fate : (row : DutyRow) (attempt : Attempt) (v : Verdict) → fate_of (state_by (marked row) attempt v) ≡ fate_of (state_by row attempt v)
same_fate row attempt Deliver = refl
same_fate row attempt (Retry due) = refl
same_fate row attempt (Fail failure) = refl

pub fate_at : (t now : Tables) (n moment : ℕ) (outcome : Outcome) (mid : Duties) (fate : Fate) (row own : DutyRow) → t ≡ now →
    pending_row n now.duties ≡ Some row → row.number ≡ n → mid ≡ claimed n t.duties →
    ((other : DutyRow) → pending_row n mid ≡ Some other → fate ≡ fate_of (after_attempt (waits other) (attempt_of other moment outcome mid))) →
    pending_row n now.duties ≡ Some own → fate ≡ fate_after now.duties.queues moment own outcome
fate_at t now n moment outcome mid fate row own same there named first found own_there =
    let one : row ≡ own = cc in
    let before = subst (λ (s : Tables). pending_row n s.duties ≡ Some row) (sym same) there in
    let is : mid ≡ claiming_row row t.duties = first ∙ claimed_is t.duties n row before in
    let made = subst (λ (d : Duties). (other : DutyRow) → pending_row n d ≡ Some other → fate ≡ fate_of (after_attempt (waits other) (attempt_of other moment outcome d))) is found in
    made (marked row) (claimed_there t.duties n row named)
    ∙ same_fate row (attempt_of row moment outcome t.duties) (verdict_of row moment outcome)
    ∙ ap (λ (s : Tables). fate_after s.duties.queues moment row outcome) same
    ∙ ap (λ (r : DutyRow). fate_after now.duties.queues moment r outcome) one

-- the outcome that is taken off a batch of one attempt is the one that it records
pub last_is : (items front : List CodeEntry) (n duty : ℕ) (popped ended : Outcome) → items ≡ front ++ code_entry.Attempt duty popped ∷ []
    → map entry_of items ≡ batch.attempt n ended ∷ [] → popped ≡ ended
last_is items [] n duty popped ended parts only =
    let one : batch.attempt duty popped ∷ [] ≡ batch.attempt n ended ∷ [] = sym (ap (map entry_of) parts) ∙ only in
    cc
last_is items (x ∷ []) n duty popped ended parts only =
    let two : entry_of x ∷ batch.attempt duty popped ∷ [] ≡ batch.attempt n ended ∷ [] = sym (ap (map entry_of) parts) ∙ only in
    absurd (cc)
last_is items (x ∷ y ∷ front) n duty popped ended parts only =
    let more : entry_of x ∷ entry_of y ∷ map entry_of (front ++ code_entry.Attempt duty popped ∷ []) ≡ batch.attempt n ended ∷ [] = sym (ap (map entry_of) parts) ∙ only in
    absurd (cc)

-- a claim changes no queue and makes no duty
pub claimed_kept : (n : ℕ) (s : Duties) → ((claimed n s).queues ≡ s.queues) × ((claimed n s).created ≡ s.created)
claimed_kept n s = by_row (pending_row n s)
  where
    by_row : (o : Option DutyRow) → ((marked_row true o s).queues ≡ s.queues) × ((marked_row true o s).created ≡ s.created)
    by_row None = (refl, refl)
    by_row (Some row) = (refl, refl)
