-- What opening and reading a journal show: `sized`, `empty_now`, `not_ours_now`, `found_so`, `payloads_so`, `file_so`, `opened_so`, `begun_so`,
-- `stopped_by_looks`, `stopped_begun`, `empty_journal`.
use Rattle.std.proofs.Common.{◌≡◌, ℕ, ◌≤◌, false, List, [], ◌∷◌, length, map, Some, Result, Ok, Err, IfOk, refl, sym, ap, subst, inl, inr, ◌∙◌, arith}
use Rattle.std.proofs.lemmas.List.{append-nil}
use Rattle.router_disk.specs.declared.disk_call.DiskCall.{DiskCall}
use Rattle.router_disk.specs.Disk.{AreAnswers, IsImageSince, file_of}
use Rattle.router_disk.proofs.DiskLemmas.{IsImage_now}
use Rattle.record_file.specs.declared.scan.Scan.{Scan}
use Rattle.record_file.specs.declared.kind.FileKind.{FileKind}
use Rattle.record_file.specs.declared.kind.FileKind.TheVariants as kinds
use Rattle.record_file.specs.declared.record_file.RecordFile.{RecordFile}
use Rattle.record_file.specs.FileKind.{IsKind}
use Rattle.record_file.specs.Records.{first_gate, AreFrom, IsFileOf}
use Rattle.record_file.specs.Kept.{Begins, IsKept, IsOpened, IsSettledSince}
use Rattle.record_file.specs.State.{IsEmptyFile, IsScan, IsSound, OnlyLooks, payloads_of}
use Rattle.record_file.specs.Next.{IsClosedScan}
use Rattle.record_file.proofs.LookLemmas.{OnlyLooks-file}
use Rattle.router_requests.specs.Batch.{Batch}
use Rattle.router_core.specs.Tables.{Tables, first_tables, tables_after}
use Rattle.duty_journal.specs.declared.fault.JournalFault.{JournalFault}
use Rattle.duty_journal.specs.declared.recover.Found.{Found}
use Rattle.duty_journal.specs.Batch.{batch_bytes}
use Rattle.duty_journal.specs.Journal.{AreRecordable, IsJournal, IsJournalBetween, batches_in}
use Rattle.duty_journal.specs.Recovery.{HasOpened, IsFound, KeepsFile, IsNotOurs, IsOfSize, IsReadTo, IsStoppedOpening, batches_found}
use Rattle.duty_journal.proofs.JournalLemmas.{found_all, kept_up}

-- ---- what the file is

abbrev Kinds : List DiskCall → List DiskCall → FileKind → Type 0
Kinds old new kind = (first file : List ℕ) → AreAnswers first new → file_of first old ≡ Some file → IsKind file kind

pub sized : (old new : List DiskCall) (size : ℕ) → OnlyLooks old new → Kinds old new (kinds.Records size) → IsOfSize size new
sized old new size looks kind first file answers known =
    let k = kind first file answers (sym (OnlyLooks-file first old new looks) ∙ known) in (k.0, k.2, k.3)

pub empty_now : (old new : List DiskCall) → OnlyLooks old new → Kinds old new kinds.Empty → IsEmptyFile new
empty_now old new looks kind first file answers known = kind first file answers (sym (OnlyLooks-file first old new looks) ∙ known)

pub not_ours_now : (old new : List DiskCall) → OnlyLooks old new → Kinds old new kinds.NotOurs → IsNotOurs new
not_ours_now old new looks kind first file answers known = kind first file answers (sym (OnlyLooks-file first old new looks) ∙ known)

-- ---- what was found

pub same_batches : (start : Tables) (s : Scan) (t : Tables) → (read : IsReadTo start s t) → batches_in s.found ≡ read.batches
same_batches start s t read = ap batches_in read.payloads ∙ found_all start read.batches read.recordable

pub found_so : (start : Tables) (f : Found) (s : Scan) (t : Tables) → batches_found f ≡ batches_in s.found → f.tables ≡ t → IsReadTo start s t → IsFound start f
found_so start f s t batches tables read =
    let own = batches ∙ same_batches start s t read in
    record {
      recordable = subst (AreRecordable start) (sym own) read.recordable;
      tables = tables ∙ read.tables ∙ ap (λ (bs : List Batch). tables_after bs start) (sym own);
    }

pub payloads_so : (start : Tables) (f : Found) (s : Scan) (t : Tables) → batches_found f ≡ batches_in s.found → IsReadTo start s t →
    s.found ≡ map batch_bytes (batches_found f)
payloads_so start f s t batches read = read.payloads ∙ ap (map batch_bytes) (sym (batches ∙ same_batches start s t read))

-- a file that was read up to a closed gate
pub file_so : (start : Tables) (f : Found) (s : Scan) (t : Tables) (calls : List DiskCall) → batches_found f ≡ batches_in s.found → IsReadTo start s t →
    IsScan calls s → IsClosedScan calls s → s.first ≡ first_gate → (first file : List ℕ) → AreAnswers first calls → file_of first calls ≡ Some file →
    IsJournal file start (batches_found f)
file_so start f s t calls batches read scan closed gate first file answers known =
    let of = scan first file answers known in
    let end = closed first file answers known in (
      subst (IsFileOf file) (payloads_so start f s t batches read) (inr (of.begins, subst (λ (at : ℕ). AreFrom at file s.found) gate end)),
      subst (AreRecordable start) (sym (batches ∙ same_batches start s t read)) read.recordable,
    )

-- ---- opening

-- a file that was only looked at
kept_looks : (first : List ℕ) (calls : List DiskCall) → IsSettledSince first calls 1 first → KeepsFile first calls
kept_looks first calls o image left =
    let same = o.each image left in (
      λ long. same,
      λ short. (subst (λ f. IsFileOf f []) (sym same) (inl (short, refl)), tt),
    )

-- a disk that shows nothing but the file of these batches
pub opened_so : (first : List ℕ) (calls : List DiskCall) (batches : List Batch) → IsSettledSince first calls 1 first → IsJournal first first_tables batches →
    HasOpened first calls batches
opened_so first calls batches o journal =
    let all : IsJournalBetween first_tables batches batches first = (batches, journal, ([], sym (append-nil batches)), ([], sym (append-nil batches))) in
    let same : (image : List ℕ) → image ≡ first → IsJournalBetween first_tables batches batches image =
    λ image is. subst (IsJournalBetween first_tables batches batches) (sym is) all in
    record {
      held = journal;
      recovered = record { file = first; known = o.known; read = journal; each = λ image left. subst (λ f. IsJournal f first_tables batches) (sym (o.each image left)) journal };
      kept = record {
        order = ([], sym (append-nil batches));
        each = λ image left. same image (o.each image left);
        now = λ image left. same image (o.each image (IsImage_now first calls 1 image o.past left));
      };
      file = kept_looks first calls o;
    }

pub stopped_by_looks : (calls : List DiskCall) → IsOpened calls 1 → IsStoppedOpening calls
stopped_by_looks calls opened = inr (λ first answers. kept_looks first calls (opened first answers))

no_more : (ps : List (List ℕ)) → Begins ps [] → ps ≡ []
no_more [] b = refl
no_more (p ∷ ps) b = absurd (cc (b.1))

-- each image of a file that is begun has no payload
begun_image : (first : List ℕ) (calls : List DiskCall) → IsKept first calls [] 1 [] [] → (image : List ℕ) → IsImageSince first calls 1 image → IsFileOf image []
begun_image first calls kept image left =
    let b = kept.each image left in subst (IsFileOf image) (no_more b.0 b.3) b.1

-- a file that was begun
kept_begun : (first : List ℕ) (calls : List DiskCall) → length first ≤ 9 → IsKept first calls [] 1 [] [] → KeepsFile first calls
kept_begun first calls short kept image left = (
  λ long. absurd (omega (arith, short, long)),
  λ low. (begun_image first calls kept image left, tt),
)

pub stopped_begun : (old new : List DiskCall) → IsOpened old 1 → IsEmptyFile old → ((first : List ℕ) → AreAnswers first new → AreAnswers first old) →
    ((first : List ℕ) → AreAnswers first new → IsKept first new [] 1 [] []) → IsStoppedOpening new
stopped_begun old new opened empty front kept =
    inr (λ first answers.
    let before = front first answers in
    kept_begun first new (empty first first before (opened first before).known) (kept first answers))

pub begun_so : {D : Type 0} (calls : D → List DiskCall) (old : List DiskCall) (f : RecordFile D) → IsOpened old 1 → IsEmptyFile old →
    ((first : List ℕ) → AreAnswers first (calls f.disk) → AreAnswers first old) → IsSound calls f → f.broken ≡ false → payloads_of f ≡ [] →
    ((first : List ℕ) → AreAnswers first (calls f.disk) → IsKept first (calls f.disk) [] 1 [] []) → (first : List ℕ) → AreAnswers first (calls f.disk) →
    HasOpened first (calls f.disk) []
begun_so calls old f opened empty front sound whole none kept first answers =
    let before = front first answers in
    let rests = sound whole first answers in
    let read : IsFileOf rests.file [] = subst (IsFileOf rests.file) none (inr (rests.begins, (rests.gate, rests.rest, rests.has, rests.closed))) in
    record {
      held = (inl (empty first first before (opened first before).known, refl), tt);
      recovered = record {
        file = rests.file;
        known = rests.settled.known;
        read = (read, tt);
        each = λ image left. (begun_image first (calls f.disk) (kept first answers) image left, tt);
      };
      kept = kept_up first (calls f.disk) first_tables [] 1 [] [] tt ([], refl) ([], refl) (kept first answers);
      file = kept_begun first (calls f.disk) (empty first first before (opened first before).known) (kept first answers);
    }

-- a file of at most nine bytes, if nothing was found
pub empty_journal : (calls : List DiskCall) (result : Result Found JournalFault) → IsEmptyFile calls →
    IfOk result (λ f. IsFound first_tables f × (batches_found f ≡ [])) →
    IfOk result (λ f. (first file : List ℕ) → AreAnswers first calls → file_of first calls ≡ Some file → IsJournal file first_tables (batches_found f))
empty_journal calls (Ok f) empty found = λ first file answers known.
    (inl (empty first file answers known, ap (map batch_bytes) found.1), subst (AreRecordable first_tables) (sym found.1) tt)
empty_journal calls (Err fault) empty found = tt
