-- Where batches are appended: `prepared_in`; what a journal asks of its caller, `sound_in`, `next_in`, `none_in`; what an append did, `appended_in`,
-- `nowhere_appended`; and the same of the record of an attempt: `record_fits`, `record_next`, `recorded_in`.
use Rattle.std.proofs.Common.{◌≡◌, ℕ, ◌^◌, ◌<◌, List, [], ◌∷◌, ◌++◌, Option, Some, None, Result, Ok, refl, sym, ap, subst, ◌∙◌, arith}
use Rattle.router_disk.specs.declared.disk_call.DiskCall.{DiskCall}
use Rattle.delivery_duties.specs.declared.outcome.Outcome.{Outcome}
use Rattle.record_file.specs.Records.{laid}
use Rattle.entry_bytes.specs.Duty.{IsOutcome}
use Rattle.entry_bytes.proofs.Formats.{some_is}
use Rattle.router_core.specs.Admitted.{IsAdmitted}
use Rattle.router_requests.specs.Batch.{Batch}
use Rattle.router_core.specs.Steps.{record_of}
use Rattle.router_core.specs.Tables.{Tables, tables_after}
use Rattle.duty_journal.specs.declared.fault.DiskFault.{DiskFault}
use Rattle.duty_journal.specs.declared.journal.Journal as journals
use Rattle.duty_journal.specs.declared.home.Home.{Home}
use Rattle.duty_journal.specs.declared.home.Home.TheVariants.{Nowhere, Journal}
use Rattle.duty_journal.specs.Batch.{batch_bytes, FitsBytes}
use Rattle.duty_journal.specs.Home.{CanAppend, HasAppended, IsNextOf, IsPreparedFor, IsSoundHome}
use Rattle.duty_journal.specs.Journal.{AreRecordable, IsAppended, IsSoundJournal, batches_of}
use Rattle.duty_journal.proofs.JournalLemmas.{recordable_join}
use Rattle.duty_journal.proofs.Readable.{admitted_readable}

pub prepared_in : {D : Type 0} (h : Home D) (j : journals.Journal D) (prepared : List Batch) (b : Batch) → h ≡ Journal j → prepared ≡ b ∷ [] → FitsBytes b
    → IsPreparedFor h (Some prepared) b
prepared_in {D} h j prepared b is one fits =
    subst (λ (x : Home D). IsPreparedFor x (Some prepared) b) (sym is) (ap (λ (bs : List Batch). Some bs) one, fits)

pub sound_in : {D : Type 0} (calls : D → List DiskCall) (h : Home D) (j : journals.Journal D) → h ≡ Journal j → IsSoundHome calls h → IsSoundJournal calls j
sound_in {D} calls h j is sound = subst (λ (x : Home D). IsSoundHome calls x) is sound

-- from each start
more_recordable : {D : Type 0} (j : journals.Journal D) (b : Batch) → IsNextOf j b → FitsBytes b → (start : Tables) → AreRecordable start (batches_of j)
    → IsAdmitted (tables_after (batches_of j) start) b → AreRecordable start (batches_of j ++ b ∷ [])
more_recordable j b next fits start are admitted =
    recordable_join start (batches_of j) (b ∷ []) are (admitted_readable (tables_after (batches_of j) start) b fits next.names admitted, admitted, tt)

abbrev HasNext : {D : Type 0} → Home D → Option (List Batch) → Type 0
HasNext h prepared = (b : Batch) × IsPreparedFor h prepared b × CanAppend h b

pub next_in : {D : Type 0} (h : Home D) (j : journals.Journal D) (prepared : Option (List Batch)) (bs : List Batch) → h ≡ Journal j → prepared ≡ Some bs
    → HasNext h prepared → (start : Tables) × AreRecordable start (batches_of j ++ bs)
next_in {D} h j prepared bs is some has =
    let own : HasNext (Journal j) prepared = subst (λ (x : Home D). HasNext x prepared) is has in
    let next : IsNextOf j own.0 = own.2 in (
      next.start,
      subst (λ (cs : List Batch). AreRecordable next.start (batches_of j ++ cs)) (sym (some_is bs (own.0 ∷ []) (sym some ∙ own.1.0)))
          (more_recordable j own.0 next own.1.1 next.start next.recordable next.admitted),
    )

pub none_in : {D : Type 0} (h : Home D) (j : journals.Journal D) (prepared : Option (List Batch)) → h ≡ Journal j → prepared ≡ None → HasNext h prepared → ⊥
none_in {D} h j prepared is none has =
    let own : HasNext (Journal j) prepared = subst (λ (x : Home D). HasNext x prepared) is has in
    apart (own.0 ∷ []) (sym none ∙ own.1.0)
  where
    apart : (bs : List Batch) → None ≡ Some bs → ⊥
    apart bs is = absurd (cc)

pub appended_in : {D : Type 0} (calls : D → List DiskCall) (faults : D → ℕ) (h h_new : Home D) (j k : journals.Journal D) (prepared : Option (List Batch))
    (bs : List Batch) (b : Batch) (result : Result (Unit {0}) DiskFault) → h ≡ Journal j → h_new ≡ Journal k → prepared ≡ Some bs → IsPreparedFor h prepared b
    → CanAppend h b → IsAppended calls faults j k bs result → HasAppended calls faults h h_new b result
appended_in {D} calls faults h h_new j k prepared bs b result is is_new some fits can did =
    let own : IsPreparedFor (Journal j) prepared b = subst (λ (x : Home D). IsPreparedFor x prepared b) is fits in
    let next : IsNextOf j b = subst (λ (x : Home D). CanAppend x b) is can in
    subst (λ (x : Home D). HasAppended calls faults x h_new b result) (sym is) (
      k,
      is_new,
      record {
        appended = subst (λ (cs : List Batch). IsAppended calls faults j k cs result) (some_is bs (b ∷ []) (sym some ∙ own.0)) did;
        recordable = λ start are admitted. more_recordable j b next own.1 start are admitted;
      },
    )

pub nowhere_appended : {D : Type 0} (calls : D → List DiskCall) (faults : D → ℕ) (h : Home D) (b : Batch) → h ≡ Nowhere → HasAppended calls faults h h b (Ok tt)
nowhere_appended {D} calls faults h b is = subst (λ (x : Home D). HasAppended calls faults x h b (Ok tt)) (sym is) (is, refl)

-- ---- the record of an attempt

pub record_fits : (moment duty : ℕ) (outcome : Outcome) → moment < 2 ^ 64 → duty < 2 ^ 64 → IsOutcome outcome → FitsBytes (record_of moment duty outcome)
record_fits moment duty outcome low few has = record { moment = low; some = omega arith; few = omega arith; operations = ((few, has), tt) }

pub record_next : {D : Type 0} (h : Home D) (j : journals.Journal D) (text : List ℕ) (b : Batch) → h ≡ Journal j → text ≡ laid (batch_bytes b ∷ []) → FitsBytes b
    → CanAppend h b → (start : Tables) × (c : Batch) × (text ≡ laid (batch_bytes c ∷ [])) × AreRecordable start (batches_of j ++ c ∷ [])
record_next {D} h j text b is bytes fits can =
    let next : IsNextOf j b = subst (λ (x : Home D). CanAppend x b) is can in
    (next.start, b, bytes, more_recordable j b next fits next.start next.recordable next.admitted)

pub recorded_in : {D : Type 0} (calls : D → List DiskCall) (faults : D → ℕ) (h h_new : Home D) (j k : journals.Journal D) (text : List ℕ) (b : Batch)
    (result : Result (Unit {0}) DiskFault) → h ≡ Journal j → h_new ≡ Journal k → text ≡ laid (batch_bytes b ∷ []) → FitsBytes b → CanAppend h b
    → ((start : Tables) (c : Batch) → text ≡ laid (batch_bytes c ∷ []) → AreRecordable start (batches_of j ++ c ∷ []) → IsAppended calls faults j k (c ∷ []) result)
    → HasAppended calls faults h h_new b result
recorded_in {D} calls faults h h_new j k text b result is is_new bytes fits can did =
    let next : IsNextOf j b = subst (λ (x : Home D). CanAppend x b) is can in
    subst (λ (x : Home D). HasAppended calls faults x h_new b result) (sym is) (
      k,
      is_new,
      record {
        appended = did next.start b bytes (more_recordable j b next fits next.start next.recordable next.admitted);
        recordable = λ start are admitted. more_recordable j b next fits start are admitted;
      },
    )
