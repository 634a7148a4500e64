-- A journal's batches and its payloads. `found_all`, `recordable_front`, `recordable_back`, `recordable_join`; what an append makes of a
-- journal is `appended`, and what the record of an attempt is, `attempt_text`.
use Rattle.std.proofs.Common.{◌≡◌, ℕ, ◌+◌, true, false, List, [], ◌∷◌, ◌++◌, length, take, drop, map, Result, Ok, Err, IsErr}
use Rattle.std.proofs.Common.{refl, sym, ap, subst, inl, inr, ⊎_elim, ◌∙◌, arith, append_assoc, length-append}
use Rattle.std.specs.Prelude.{is_err, if◌then◌else◌}
use Rattle.std.proofs.Math.Seq.{take-append_seam, take-append-add}
use Rattle.std.proofs.lemmas.List.{append-nil, map-append, length-map, take-map, take-append-drop, take_at, drop_at}
use Rattle.router_disk.specs.declared.disk_call.DiskCall.{DiskCall}
use Rattle.router_disk.specs.declared.fault.Failed.{Failed}
use Rattle.router_disk.specs.Faults.{CountsFaults}
use Rattle.router_disk.specs.Disk.{AreAnswers}
use Rattle.record_file.specs.declared.record_file.RecordFile.{RecordFile}
use Rattle.record_file.specs.Records.{length_bytes, laid, IsFileOf, IsText}
use Rattle.record_file.specs.Kept.{Begins, Between, IsKept}
use Rattle.record_file.specs.State.{IsSound, payloads_of}
use Rattle.record_file.specs.Append.{LeavesBoth, MadeCalls, StaysKept}
use Rattle.record_file.proofs.RecordLemmas.{length-length_bytes}
use Rattle.router_requests.specs.Batch.{Batch}
use Rattle.router_core.specs.Tables.{Tables, after_batch, tables_after}
use Rattle.duty_journal.specs.declared.fault.DiskFault.{DiskFault}
use Rattle.duty_journal.specs.declared.journal.Journal.{Journal}
use Rattle.duty_journal.specs.Batch.{batch_bytes}
use Rattle.duty_journal.specs.Reading.{batch_at}
use Rattle.duty_journal.specs.Journal.{AreRecordable, IsFrontOf, IsJournalBetween, AreKept, whole_batch, batches_in, batches_of, IsSoundJournal, LeavesBothJournals, StayKept, IsAppended}
use Rattle.duty_journal.proofs.Readable.{read_whole}

-- ---- batches in payloads

pub found_all : (t : Tables) (bs : List Batch) → AreRecordable t bs → batches_in (map batch_bytes bs) ≡ bs
found_all t [] r = refl
found_all t (b ∷ bs) r =
    ap (λ m. whole_batch m ++ batches_in (map batch_bytes bs)) (read_whole b (batch_bytes b) r.0 refl)
    ∙ ap (λ (m : List Batch). b ∷ m) (found_all (after_batch b t) bs r.2)

pub in-append : (ps qs : List (List ℕ)) → batches_in (ps ++ qs) ≡ batches_in ps ++ batches_in qs
in-append [] qs = refl
in-append (p ∷ ps) qs =
    ap (λ (m : List Batch). whole_batch (batch_at p) ++ m) (in-append ps qs)
    ∙ sym (append_assoc (whole_batch (batch_at p)) (batches_in ps) (batches_in qs))

-- ---- batches that can be recorded

pub recordable_front : (t : Tables) (xs ys : List Batch) → AreRecordable t (xs ++ ys) → AreRecordable t xs
recordable_front t [] ys r = tt
recordable_front t (x ∷ xs) ys r = (r.0, r.1, recordable_front (after_batch x t) xs ys r.2)

pub recordable_back : (t : Tables) (xs ys : List Batch) → AreRecordable t (xs ++ ys) → AreRecordable (tables_after xs t) ys
recordable_back t [] ys r = r
recordable_back t (x ∷ xs) ys r = recordable_back (after_batch x t) xs ys r.2

pub recordable_join : (t : Tables) (xs ys : List Batch) → AreRecordable t xs → AreRecordable (tables_after xs t) ys → AreRecordable t (xs ++ ys)
recordable_join t [] ys first second = second
recordable_join t (x ∷ xs) ys first second = (first.0, first.1, recordable_join (after_batch x t) xs ys first.2 second)

-- ---- what is kept, of payloads and of batches

begins_of : (xs ys : List Batch) → IsFrontOf xs ys → Begins (map batch_bytes xs) (map batch_bytes ys)
begins_of xs ys f = (map batch_bytes f.0, ap (map batch_bytes) f.1 ∙ map-append batch_bytes xs f.0)

between_down : (start : Tables) (least most : List Batch) (image : List ℕ) → IsJournalBetween start least most image →
    Between (map batch_bytes least) (map batch_bytes most) image
between_down start least most image b = (map batch_bytes b.0, b.1.0, begins_of least b.0 b.2, begins_of b.0 most b.3)

pub kept_down : (first : List ℕ) (calls : List DiskCall) (start : Tables) (found : List Batch) (since : ℕ) (safe all : List Batch) →
    AreKept first calls start found since safe all → IsKept first calls (map batch_bytes found) since (map batch_bytes safe) (map batch_bytes all)
kept_down first calls start found since safe all k = record {
  order = begins_of found safe k.order;
  each = λ image left. between_down start found all image (k.each image left);
  now = λ image left. between_down start safe all image (k.now image left);
}

-- payloads at the front of those of batches are those of the batches at their front
cut_all : (ps rest : List (List ℕ)) (all : List Batch) → map batch_bytes all ≡ ps ++ rest → ps ≡ map batch_bytes (take (length ps) all)
cut_all ps rest all is = sym (take-append_seam ps rest) ∙ ap (take (length ps)) (sym is) ∙ take-map batch_bytes (length ps) all

front_cut : (least r all : List Batch) (n : ℕ) → all ≡ least ++ r → IsFrontOf least (take (length least + n) all)
front_cut least r all n is = (take n r, ap (take (length least + n)) is ∙ take-append-add least r n)

pub between_up : (start : Tables) (least all : List Batch) (image : List ℕ) → AreRecordable start all → IsFrontOf least all →
    Between (map batch_bytes least) (map batch_bytes all) image → IsJournalBetween start least all image
between_up start least all image r l (ps, file, low, high) =
    let n : ℕ = length ps in
    let is : ps ≡ map batch_bytes (take n all) = cut_all ps high.0 all high.1 in
    let grow : length least + length low.0 ≡ n =
    sym (ap length low.1 ∙ length-append (map batch_bytes least) low.0 ∙ ap (λ k. k + length low.0) (length-map least batch_bytes)) in
    let parts : take n all ++ drop n all ≡ all = take-append-drop n all in (
      take n all,
      (subst (IsFileOf image) is file, recordable_front start (take n all) (drop n all) (subst (AreRecordable start) (sym parts) r)),
      subst (λ k. IsFrontOf least (take k all)) grow (front_cut least l.0 all (length low.0) l.1),
      (drop n all, sym parts),
    )

front_on : (xs ys zs : List Batch) → IsFrontOf xs ys → IsFrontOf ys zs → IsFrontOf xs zs
front_on xs ys zs f g = (f.0 ++ g.0, g.1 ∙ ap (λ m. m ++ g.0) f.1 ∙ append_assoc xs f.0 g.0)

pub kept_up : (first : List ℕ) (calls : List DiskCall) (start : Tables) (found : List Batch) (since : ℕ) (safe all : List Batch) →
    AreRecordable start all → IsFrontOf found safe → IsFrontOf safe all →
    IsKept first calls (map batch_bytes found) since (map batch_bytes safe) (map batch_bytes all) → AreKept first calls start found since safe all
kept_up first calls start found since safe all r low high k = record {
  order = low;
  each = λ image left. between_up start found all image r (front_on found safe all low high) (k.each image left);
  now = λ image left. between_up start safe all image r high (k.now image left);
}

-- ---- an append

-- what an append does to a file of records
pub record IsFileAppended {D : Type 0} (calls : D → List DiskCall) (faults : D → ℕ) (old new : RecordFile D) (ps : List (List ℕ))
    (result : Result (Unit {0}) Failed) : Type 0 where
  pub sound : IsSound calls new
  pub payloads : payloads_of new ≡ (if is_err result then payloads_of old else payloads_of old ++ ps)
  pub broken : new.broken ≡ is_err result
  pub no_more : old.broken ≡ true → IsErr result × (new ≡ old)
  pub count : old.broken ≡ false → CountsFaults (faults old.disk) (faults new.disk) result
  pub answers : (first : List ℕ) → AreAnswers first (calls new.disk) → AreAnswers first (calls old.disk)
  pub made : MadeCalls (calls old.disk) (calls new.disk) result
  pub any_moment : old.broken ≡ false → LeavesBoth (calls old.disk) (calls new.disk) (payloads_of old) ps
  pub kept : old.broken ≡ false → StaysKept (calls old.disk) (calls new.disk) (payloads_of old) ps result

-- the answer of a journal to that of its file
abbrev pub told : Result (Unit {0}) Failed → Result (Unit {0}) DiskFault
told (Ok done) = Ok done
told (Err fault) = Err (record {})

module _ (start : Tables) (old ps : List (List ℕ)) (more : List Batch) (held : old ≡ map batch_bytes (batches_in old)) (same : ps ≡ map batch_bytes more)
    (r : AreRecordable start (batches_in old ++ more)) where
  -- the batches after an append
  grown : batches_in (old ++ ps) ≡ batches_in old ++ more
  grown =
      in-append old ps
      ∙ ap (λ (m : List Batch). batches_in old ++ m)
      (ap batches_in same ∙ found_all (tables_after (batches_in old) start) more (recordable_back start (batches_in old) more r))

  all_payloads : old ++ ps ≡ map batch_bytes (batches_in old ++ more)
  all_payloads = ap (λ m. m ++ ps) held ∙ ap (λ m. map batch_bytes (batches_in old) ++ m) same ∙ sym (map-append batch_bytes (batches_in old) more)

  held_again : old ++ ps ≡ map batch_bytes (batches_in (old ++ ps))
  held_again = all_payloads ∙ ap (map batch_bytes) (sym grown)

leaves_up : (start : Tables) (calls after : List DiskCall) (old ps : List (List ℕ)) (more : List Batch) → old ≡ map batch_bytes (batches_in old) →
    ps ≡ map batch_bytes more → LeavesBoth calls after old ps → AreRecordable start (batches_in old ++ more) →
    LeavesBothJournals calls after start (batches_in old) more
leaves_up start calls after old ps more held same leaves r first answers image left =
    ⊎_elim
    (λ file. inl (subst (IsFileOf image) held file, recordable_front start (batches_in old) more r))
    (λ file. inr (subst (IsFileOf image) (all_payloads start old ps more held same r) file, r))
    (leaves first answers image left)

-- what is kept, by the file's answer
stays_up : (start : Tables) (calls after : List DiskCall) (old ps : List (List ℕ)) (more : List Batch) → old ≡ map batch_bytes (batches_in old) →
    ps ≡ map batch_bytes more → AreRecordable start (batches_in old ++ more) → (result : Result (Unit {0}) Failed) →
    StaysKept calls after old ps result → StayKept calls after start (batches_in old) more (told result)
stays_up start calls after old ps more held same r (Ok done) stays first found since answers kept =
    let before : List Batch = batches_in old in
    let down = subst (λ m. IsKept first calls (map batch_bytes found) since m m) (sym held) (kept_down first calls start found since before before kept) in
    kept_up first after start found since (before ++ more) (before ++ more) r (front_on found before (before ++ more) kept.order (more, refl))
    ([], sym (append-nil (before ++ more)))
    (subst (λ m. IsKept first after (map batch_bytes found) since m m) (all_payloads start old ps more held same r)
    (stays first (map batch_bytes found) since answers down))
stays_up start calls after old ps more held same r (Err fault) stays first found since answers kept =
    let before : List Batch = batches_in old in
    let down = subst (λ m. IsKept first calls (map batch_bytes found) since m m) (sym held) (kept_down first calls start found since before before kept) in
    kept_up first after start found since before (before ++ more) r kept.order (more, refl)
    (subst (λ m. IsKept first after (map batch_bytes found) since m (map batch_bytes (before ++ more))) held
    (subst (λ m. IsKept first after (map batch_bytes found) since old m) (all_payloads start old ps more held same r)
    (stays first (map batch_bytes found) since answers down)))

-- the same journal around the same file
same_journal : {D : Type 0} (old new : Journal D) → new.file ≡ old.file → new ≡ old
same_journal {D} old new is = ap (λ (f : RecordFile D). let j : Journal D = record { file = f } in j) is

pub appended : {D : Type 0} (calls : D → List DiskCall) (faults : D → ℕ) (old new : Journal D) (ps : List (List ℕ)) (result : Result (Unit {0}) Failed) →
    IsSoundJournal calls old → IsFileAppended calls faults old.file new.file ps result → (start : Tables) (more : List Batch) → ps ≡ map batch_bytes more →
    AreRecordable start (batches_of old ++ more) → IsAppended calls faults old new more (told result)
appended calls faults old new ps (Ok done) (sound, held) f start more same r = record {
  sound = (f.sound, f.payloads ∙ held_again start (payloads_of old.file) ps more held same r ∙ ap (λ m. map batch_bytes (batches_in m)) (sym f.payloads));
  batches = ap batches_in f.payloads ∙ grown start (payloads_of old.file) ps more held same r;
  broken = f.broken;
  no_more = λ whole. ((f.no_more whole).0, same_journal old new (f.no_more whole).1);
  count = λ whole. let c = f.count whole in record { later = c.later; rose = c.rose; same = c.same; spent = c.spent };
  answers = f.answers;
  made = f.made;
  any_moment = λ whole from all.
      leaves_up from (calls old.file.disk) (calls new.file.disk) (payloads_of old.file) ps more held same (f.any_moment whole) all;
  kept = λ whole from all.
      stays_up from (calls old.file.disk) (calls new.file.disk) (payloads_of old.file) ps more held same all (Ok done) (f.kept whole);
}
appended calls faults old new ps (Err fault) (sound, held) f start more same r = record {
  sound = (f.sound, f.payloads ∙ held ∙ ap (λ m. map batch_bytes (batches_in m)) (sym f.payloads));
  batches = ap batches_in f.payloads;
  broken = f.broken;
  no_more = λ broken. ((f.no_more broken).0, same_journal old new (f.no_more broken).1);
  count = λ whole. let c = f.count whole in record { later = c.later; rose = c.rose; same = c.same; spent = c.spent };
  answers = f.answers;
  made = f.made;
  any_moment = λ whole from all.
      leaves_up from (calls old.file.disk) (calls new.file.disk) (payloads_of old.file) ps more held same (f.any_moment whole) all;
  kept = λ whole from all.
      stays_up from (calls old.file.disk) (calls new.file.disk) (payloads_of old.file) ps more held same all (Err fault) (f.kept whole);
}

-- ---- the record of an attempt

laid_one : (p : List ℕ) → laid (p ∷ []) ≡ length_bytes (length p) ++ (p ++ 0 ∷ [])
laid_one p =
    ap (λ m. m ++ 0 ∷ []) (append-nil (length_bytes (length p) ++ p)) ∙ append_assoc (length_bytes (length p)) p (0 ∷ [])

pub attempt_text : (text p : List ℕ) → length text ≡ 31 → text ≡ laid (p ∷ []) → (take 22 (drop 8 text) ≡ p) × IsText (p ∷ []) text
attempt_text text p size is =
    let whole : text ≡ length_bytes (length p) ++ (p ++ 0 ∷ []) = is ∙ laid_one p in
    let long : length p ≡ 22 =
    omega (arith, size, ap length whole, length-append (length_bytes (length p)) (p ++ 0 ∷ []), length-append p (0 ∷ []), length-length_bytes (length p)) in (
      ap (λ m. take 22 (drop 8 m)) whole
          ∙ ap (take 22) (drop_at (length_bytes (length p)) (p ++ 0 ∷ []) 8 (length-length_bytes (length p)))
          ∙ take_at p (0 ∷ []) 22 long,
      record { some = omega arith; fit = (omega (arith, long), tt); is = is },
    )
