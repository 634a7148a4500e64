-- From which moment on each batch is in every image: `each_opened`, `each_same`, `each_appended`, `each_lost`. What is kept, of equal lists: `kept_as`.
use Rattle.std.proofs.Common.{◌≡◌, ℕ, ◌+◌, ◌*◌, ◌≤◌, true, false, List, [], ◌∷◌, ◌++◌, length, Ok, Err, refl, sym, ap, ◌∙◌, subst, arith, append-nil, length-append}
use Rattle.std.proofs.lemmas.Bool.{true≢false}
use Rattle.router_disk.specs.declared.disk_call.DiskCall.{DiskCall}
use Rattle.router_disk.specs.Disk.{AreAnswers, IsImageSince}
use Rattle.router_disk.proofs.DiskLemmas.{IsImageSince-now}
use Rattle.router_requests.specs.Batch.{Batch}
use Rattle.router_core.specs.Tables.{first_tables}
use Rattle.duty_journal.specs.declared.fault.DiskFault.{DiskFault}
use Rattle.duty_journal.specs.Journal.{AreKept, StayKept}
use Rattle.router_history.specs.History.{Turn, state_of, batches_of, unacknowledged_of}
use Rattle.router_history.specs.Home.{KeepsEach, found_of, appended_of}

pub kept_as : (first : List ℕ) (calls : List DiskCall) (since : ℕ) (found found_new safe safe_new all all_new : List Batch) → found_new ≡ found → safe_new ≡ safe
    → all_new ≡ all → AreKept first calls first_tables found since safe all → AreKept first calls first_tables found_new since safe_new all_new
kept_as first calls since found found_new safe safe_new all all_new found_is safe_is all_is kept =
    subst (λ (bs : List Batch). AreKept first calls first_tables bs since safe_new all_new) (sym found_is)
    (subst (λ (bs : List Batch). AreKept first calls first_tables found since bs all_new) (sym safe_is)
    (subst (λ (bs : List Batch). AreKept first calls first_tables found since safe bs) (sym all_is) kept))

-- from now on each image has what is safe
kept_now : (first : List ℕ) (calls : List DiskCall) (found : List Batch) (since : ℕ) (safe all : List Batch) (now : ℕ) → now ≡ length calls
    → AreKept first calls first_tables found since safe all → AreKept first calls first_tables safe now safe all
kept_now first calls found since safe all now is kept = record {
  order = ([], sym (append-nil safe));
  each = λ image left. kept.now image (IsImageSince-now first calls image (subst (λ n. IsImageSince first calls n image) is left));
  now = kept.now;
}

-- ---- lists

no_end : (ys : List Batch) (r : Batch) (rs : List Batch) → [] ≡ ys ++ r ∷ rs → ⊥
no_end [] r rs e = absurd (cc (e))
no_end (y ∷ ys) r rs e = absurd (cc (e))

-- a first part of a longer list that is not all of it is a first part of the list
split_last : (xs ys : List Batch) (b r : Batch) (rs : List Batch) → xs ++ b ∷ [] ≡ ys ++ r ∷ rs → (zs : List Batch) × (xs ≡ ys ++ zs)
split_last xs [] b r rs e = (xs, refl)
split_last [] (y ∷ ys) b r rs e = absurd (no_end ys r rs (cc (e)))
split_last (x ∷ xs) (y ∷ ys) b r rs e =
    let same : x ≡ y = cc (e) in
    let more : (zs : List Batch) × (xs ≡ ys ++ zs) = split_last xs ys b r rs (cc (e)) in
    (more.0, cc (same, more.1))

-- ---- a book that was just opened

pub each_opened : (calls : List DiskCall) (turns : List Turn) (found : List Batch) → found_of turns ≡ found → batches_of turns ≡ found → appended_of turns ≡ []
    → batches_of turns ++ unacknowledged_of turns ≡ found
    → ((first : List ℕ) → AreAnswers first calls → AreKept first calls first_tables found 1 found found) → KeepsEach (length calls) calls turns
each_opened calls turns found found_is batches none all kept = record {
  past = (let n : length (appended_of turns) ≡ 0 = ap (λ (bs : List Batch). length bs) none in omega (arith, n));
  made = λ whole. (let n : length (appended_of turns) ≡ 0 = ap (λ (bs : List Batch). length bs) none in omega (arith, n));
  each = λ first answers before after split. first_of first answers before after (sym none ∙ split);
}
  where
    first_of : (first : List ℕ) → AreAnswers first calls → (before after : List Batch) → [] ≡ before ++ after
        → AreKept first calls first_tables (found_of turns ++ before) (length calls + 4 * length before) (batches_of turns) (batches_of turns ++ unacknowledged_of turns)
    first_of first answers [] after split =
        let now : length calls + 4 * 0 ≡ length calls = omega arith in
        kept_as first calls (length calls + 4 * 0) found (found_of turns ++ []) found (batches_of turns) found
        (batches_of turns ++ unacknowledged_of turns) (append-nil (found_of turns) ∙ found_is) batches all
        (kept_now first calls found 1 found found (length calls + 4 * 0) now (kept first answers))
    first_of first answers (b ∷ bs) after split = absurd (cc (split))

-- ---- a turn that neither writes nor breaks

pub each_same : (was : ℕ) (calls : List DiskCall) (old new : List Turn) → found_of new ≡ found_of old → batches_of new ≡ batches_of old → appended_of new ≡ appended_of old
    → batches_of new ++ unacknowledged_of new ≡ batches_of old ++ unacknowledged_of old → (state_of new).broken ≡ (state_of old).broken → KeepsEach was calls old
    → KeepsEach was calls new
each_same was calls old new found batches appended all broken e = record {
  past = subst (λ (bs : List Batch). was + 4 * length bs ≤ length calls) (sym appended) e.past;
  made = λ whole. e.made (sym broken ∙ whole) ∙ ap (λ (bs : List Batch). was + 4 * length bs) (sym appended);
  each = λ first answers before after split.
      kept_as first calls (was + 4 * length before) (found_of old ++ before) (found_of new ++ before) (batches_of old) (batches_of new)
      (batches_of old ++ unacknowledged_of old) (batches_of new ++ unacknowledged_of new) (ap (λ bs. bs ++ before) found) batches all
      (e.each first answers before after (sym appended ∙ split));
}

-- ---- an append

module _ (was : ℕ) (calls_old calls : List DiskCall) (old new : List Turn) (b : Batch) (found : found_of new ≡ found_of old) (none : unacknowledged_of old ≡ [])
    (answers_before : (first : List ℕ) → AreAnswers first calls → AreAnswers first calls_old) (e : KeepsEach was calls_old old) where
  -- what was kept of the batches that were appended before
  earlier : (first : List ℕ) → AreAnswers first calls → (before after : List Batch) → appended_of old ≡ before ++ after
      → AreKept first calls_old first_tables (found_of new ++ before) (was + 4 * length before) (batches_of old) (batches_of old)
  earlier first answers before after split =
      kept_as first calls_old (was + 4 * length before) (found_of old ++ before) (found_of new ++ before) (batches_of old) (batches_of old)
      (batches_of old ++ unacknowledged_of old) (batches_of old) (ap (λ bs. bs ++ before) found) refl
      (sym (append-nil (batches_of old)) ∙ ap (λ bs. batches_of old ++ bs) (sym none)) (e.each first (answers_before first answers) before after split)

  -- it succeeded
  pub each_appended : batches_of new ≡ batches_of old ++ b ∷ [] → appended_of new ≡ appended_of old ++ b ∷ [] → batches_of new ≡ found_of new ++ appended_of new
      → batches_of new ++ unacknowledged_of new ≡ batches_of old ++ b ∷ [] → (state_of old).broken ≡ false → length calls ≡ length calls_old + 4
      → StayKept calls_old calls first_tables (batches_of old) (b ∷ []) (Ok tt)
      → ((first : List ℕ) → AreAnswers first calls → AreKept first calls first_tables (found_of new) 1 (batches_of old ++ b ∷ []) (batches_of old ++ b ∷ []))
      → KeepsEach was calls new
  each_appended batches appended all_of all whole four stays kept =
      let longer : length (appended_of new) ≡ length (appended_of old) + 1 = ap (λ (bs : List Batch). length bs) appended ∙ length-append (appended_of old) (b ∷ []) in
      let now : length calls ≡ was + 4 * length (appended_of new) = omega (arith, e.made whole, longer, four) in
      record {
        past = omega (arith, now);
        made = λ still. now;
        each = λ first answers before after split. each_of now first answers before after split;
      }
    where
      each_of : length calls ≡ was + 4 * length (appended_of new) → (first : List ℕ) → AreAnswers first calls → (before after : List Batch)
          → appended_of new ≡ before ++ after
          → AreKept first calls first_tables (found_of new ++ before) (was + 4 * length before) (batches_of new) (batches_of new ++ unacknowledged_of new)
      each_of now first answers before [] split =
          let is : appended_of new ≡ before = split ∙ append-nil before in
          let moment : was + 4 * length before ≡ length calls = ap (λ (bs : List Batch). was + 4 * length bs) (sym is) ∙ sym now in
          kept_as first calls (was + 4 * length before) (batches_of old ++ b ∷ []) (found_of new ++ before) (batches_of old ++ b ∷ [])
          (batches_of new) (batches_of old ++ b ∷ []) (batches_of new ++ unacknowledged_of new)
          (ap (λ bs. found_of new ++ bs) (sym is) ∙ sym all_of ∙ batches) batches all
          (kept_now first calls (found_of new) 1 (batches_of old ++ b ∷ []) (batches_of old ++ b ∷ []) (was + 4 * length before) moment (kept first answers))
      each_of now first answers before (r ∷ rs) split =
          let part : (zs : List Batch) × (appended_of old ≡ before ++ zs) = split_last (appended_of old) before b r rs (sym appended ∙ split) in
          kept_as first calls (was + 4 * length before) (found_of new ++ before) (found_of new ++ before) (batches_of old ++ b ∷ [])
          (batches_of new) (batches_of old ++ b ∷ []) (batches_of new ++ unacknowledged_of new) refl batches all
          (stays first (found_of new ++ before) (was + 4 * length before) answers (earlier first answers before part.0 part.1))

  -- it failed
  pub each_lost : (fault : DiskFault) → batches_of new ≡ batches_of old → appended_of new ≡ appended_of old
      → batches_of new ++ unacknowledged_of new ≡ batches_of old ++ b ∷ [] → (state_of new).broken ≡ true → length calls_old ≤ length calls
      → StayKept calls_old calls first_tables (batches_of old) (b ∷ []) (Err fault) → KeepsEach was calls new
  each_lost fault batches appended all broken later stays = record {
    past = subst (λ (bs : List Batch). was + 4 * length bs ≤ length calls) (sym appended) (omega (arith, e.past, later));
    made = λ whole. absurd (true≢false (sym broken ∙ whole));
    each = λ first answers before after split.
        kept_as first calls (was + 4 * length before) (found_of new ++ before) (found_of new ++ before) (batches_of old) (batches_of new)
        (batches_of old ++ b ∷ []) (batches_of new ++ unacknowledged_of new) refl batches all
        (stays first (found_of new ++ before) (was + 4 * length before) answers (earlier first answers before after (sym appended ∙ split)));
  }
