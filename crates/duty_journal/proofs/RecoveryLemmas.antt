-- What reading records finds, step by step: `not_redone`, `record_step`, `damaged_step`, `ended`; over the loop `reads_on`, `all_read`,
-- `all_stopped`, `fault_of_read`.
use Rattle.std.proofs.Common.{◌≡◌, ℕ, ◌+◌, ◌^◌, ◌<◌, List, [], ◌∷◌, ◌++◌, length, map, Some, Err}
use Rattle.std.proofs.Common.{refl, sym, ap, subst, ◌∙◌, arith, length-append, length-drop}
use Rattle.std.proofs.lemmas.List.{map-append, length-map}
use Rattle.router_disk.specs.declared.disk_call.DiskCall.{DiskCall}
use Rattle.router_disk.specs.Disk.{AreAnswers, file_of}
use Rattle.record_file.specs.declared.scan.Scan.{Scan}
use Rattle.record_file.specs.declared.scan.Next.{Next}
use Rattle.record_file.specs.declared.scan.Next.TheVariants as nexts
use Rattle.record_file.specs.Records.{first_gate, length_bytes, records, Fits, HasRecords, HasNoRecord}
use Rattle.record_file.specs.State.{IsScan, IsScanOf, OnlyLooks, payload_of}
use Rattle.record_file.specs.Next.{IsNext}
use Rattle.record_file.proofs.RecordLemmas.{HasRecords-last, length-length_bytes, payload_same}
use Rattle.record_file.proofs.LookLemmas.{OnlyLooks-then}
use Rattle.router_requests.specs.Batch.{Batch}
use Rattle.router_core.specs.Tables.{Tables, after_batch, tables_after}
use Rattle.router_core.specs.Admitted.{IsAdmitted}
use Rattle.duty_journal.specs.declared.fault.JournalFault.{JournalFault}
use Rattle.duty_journal.specs.declared.fault.JournalFault.TheVariants.{NotOurs, Damaged, Failed, NoMemory}
use Rattle.duty_journal.specs.declared.recover.Step.{Step}
use Rattle.duty_journal.specs.declared.recover.Step.TheVariants as steps
use Rattle.duty_journal.specs.Batch.{batch_bytes, IsReadable}
use Rattle.duty_journal.specs.Journal.{HasNoBatch, IsDamagedJournal}
use Rattle.duty_journal.specs.Redo.{HasNoClaim}
use Rattle.duty_journal.specs.Recovery.{HasEnded, HasFault, HasGone, HasNotRedone, HasRedone, HasStopped, IsPlaced, IsRead, IsReadTo, IsReading, IsRedone, IsStep}
use Rattle.duty_journal.proofs.JournalLemmas.{recordable_join}
use Rattle.duty_journal.proofs.RedoLemmas.{free_batch}

pub tables_after-append : (bs cs : List Batch) (t : Tables) → tables_after (bs ++ cs) t ≡ tables_after cs (tables_after bs t)
tables_after-append [] cs t = refl
tables_after-append (b ∷ bs) cs t = tables_after-append bs cs (after_batch b t)

-- ---- an open gate with no record of an admitted batch

fits_within : (rest p more : List ℕ) (gate : ℕ) → length rest < 2 ^ 64 → rest ≡ length_bytes (length p) ++ (p ++ (gate ∷ more)) → Fits p
fits_within rest p more gate short is =
    omega (
      arith,
      short,
      ap (λ m. length m) is,
      length-append (length_bytes (length p)) (p ++ (gate ∷ more)),
      length-append p (gate ∷ more),
      length-length_bytes (length p),
    )

no_record : (t : Tables) (rest : List ℕ) → length rest < 2 ^ 64 → HasNoRecord rest → HasNoBatch t rest
no_record t rest short none b gate more readable admitted is = none (batch_bytes b) more gate (fits_within rest (batch_bytes b) more gate short is) is

other_record : (t : Tables) (rest p more : List ℕ) (gate : ℕ) → length rest < 2 ^ 64 → Fits p → rest ≡ length_bytes (length p) ++ (p ++ (gate ∷ more)) →
    ((b : Batch) → IsReadable b → IsAdmitted t b → p ≡ batch_bytes b → ⊥) → HasNoBatch t rest
other_record t rest p more gate short fits is none b other_gate others readable admitted own =
    let own_fits = fits_within rest (batch_bytes b) others other_gate short own in
    let both = payload_same p (batch_bytes b) (gate ∷ more) (other_gate ∷ others) fits own_fits (sym is ∙ own) in
    none b readable admitted both.0

rest_short : (at : ℕ) (file : List ℕ) (ps : List (List ℕ)) (gate : ℕ) (rest : List ℕ) → length file < 2 ^ 63 → HasRecords at file ps gate rest →
    length rest < 2 ^ 64
rest_short at file ps gate rest short has =
    omega (arith, short, ap (λ m. length m) has.is, length-drop at file, length-append (records ps) (gate ∷ rest))

module _ (start : Tables) (file : List ℕ) (s : Scan) (t : Tables) (place byte : ℕ) (read : IsReadTo start s t) (of : IsScanOf file s)
    (at : (place ≡ length s.found + 1) × (byte ≡ s.first + length (records s.found))) where
  damaged_so : (rest : List ℕ) → HasRecords s.first file s.found 1 rest → HasNoBatch t rest → (batches : List Batch) × IsDamagedJournal file s.first start batches place byte
  damaged_so rest has none = (
    read.batches,
    record {
      long = of.long;
      begins = of.begins;
      recordable = read.recordable;
      rest = rest;
      has = subst (λ ps. HasRecords s.first file ps 1 rest) read.payloads has;
      none = subst (λ (u : Tables). HasNoBatch u rest) read.tables none;
      is_place = at.0 ∙ ap (λ (ps : List (List ℕ)). length ps + 1) read.payloads ∙ ap (λ n. n + 1) (length-map read.batches batch_bytes);
      is_byte = at.1 ∙ ap (λ (ps : List (List ℕ)). s.first + length (records ps)) read.payloads;
    },
  )

  no_gate_after : IsNext file s nexts.Damaged → (batches : List Batch) × IsDamagedJournal file s.first start batches place byte
  no_gate_after next = damaged_so next.0 next.1 (no_record t next.0 (rest_short s.first file s.found 1 next.0 of.short next.1) next.2)

  no_batch : IsNext file s nexts.Record → ((b : Batch) → IsReadable b → IsAdmitted t b → payload_of s ≡ batch_bytes b → ⊥) →
      (batches : List Batch) × IsDamagedJournal file s.first start batches place byte
  no_batch next none =
      let p = payload_of s in
      let last = HasRecords-last s.first file s.found p next.1 next.0 next.2 in
      let rest = length_bytes (length p) ++ (p ++ (next.0 ∷ next.1)) in
      damaged_so rest last.0 (other_record t rest p next.1 next.0 (rest_short s.first file s.found 1 rest of.short last.0) last.1 refl none)

-- ---- one step

-- the first gate of the scan
at_first : (start : Tables) (file : List ℕ) (s : Scan) (place byte : ℕ) → s.first ≡ first_gate →
    (batches : List Batch) × IsDamagedJournal file s.first start batches place byte →
    (batches : List Batch) × IsDamagedJournal file first_gate start batches place byte
at_first start file s place byte is damage =
    subst (λ (at : ℕ). (batches : List Batch) × IsDamagedJournal file at start batches place byte) is damage

-- what `Scan::next` says of the scan after it
pub record IsLooked (old calls : List DiskCall) (s new : Scan) (next : Next) : Type 0 where
  pub found : new.found ≡ s.found
  pub place : new.place ≡ s.place
  pub size : new.size ≡ s.size
  pub first : new.first ≡ s.first
  pub ahead : next ≡ nexts.Record → new.place < new.next_place
  pub scan : IsScan old s → IsScan calls new
  pub next_is : IsScan old s → (first file : List ℕ) → AreAnswers first calls → file_of first calls ≡ Some file → IsNext file new next

read_same : (start : Tables) (s new : Scan) (t : Tables) → new.found ≡ s.found → IsReadTo start s t → IsReadTo start new t
read_same start s new t same read =
    record { batches = read.batches; payloads = same ∙ read.payloads; recordable = read.recordable; tables = read.tables }

pub gone_on : (old calls : List DiskCall) (s mid new : Scan) (t after : Tables) → HasNoClaim t → IsLooked old calls s mid nexts.Record →
    HasRedone mid new t after → HasGone old calls s new t after
gone_on old calls s mid new t after free look done =
    let b = done.batch in
    record {
      scan = λ scan first file answers known. done.scan file (look.scan scan first file answers known) (look.next_is scan first file answers known);
      ahead = omega (arith, done.place, look.place, look.ahead refl);
      size = done.size ∙ look.size;
      first = done.first ∙ look.first;
      read = λ start read. record {
        batches = read.batches ++ b ∷ [];
        payloads = done.found ∙ ap (λ (ps : List (List ℕ)). ps ++ payload_of mid ∷ []) (look.found ∙ read.payloads)
            ∙ ap (λ p. map batch_bytes read.batches ++ p ∷ []) done.payload ∙ sym (map-append batch_bytes read.batches (b ∷ []));
        recordable = recordable_join start read.batches (b ∷ []) read.recordable
            (done.readable, subst (λ (u : Tables). IsAdmitted u b) read.tables done.admitted, tt);
        tables = done.tables ∙ ap (after_batch b) read.tables ∙ sym (tables_after-append read.batches (b ∷ []) start);
      };
      unclaimed = subst HasNoClaim (sym done.tables) (free_batch b t free);
    }

pub ended : (old calls : List DiskCall) (s mid : Scan) (t : Tables) → IsLooked old calls s mid nexts.Closed → HasEnded old calls s mid t t
ended old calls s mid t look = record {
  scan = look.scan;
  closed = look.next_is;
  first = look.first;
  read = λ start read. read_same start s mid t look.found read;
}

pub stopped_here : (old calls : List DiskCall) (s mid : Scan) (t : Tables) (place byte : ℕ) → IsLooked old calls s mid nexts.Damaged →
    ((file : List ℕ) → IsScanOf file mid → (place ≡ length mid.found + 1) × (byte ≡ mid.first + length (records mid.found))) → HasStopped old calls s t place byte
stopped_here old calls s mid t place byte look at start gate read scan first file answers known =
    let of = look.scan scan first file answers known in
    at_first start file mid place byte (look.first ∙ gate) (no_gate_after start file mid t place byte (read_same start s mid t look.found read) of (at file of) (look.next_is scan first file answers known))

pub stopped_by : (old calls : List DiskCall) (s mid : Scan) (t : Tables) (place byte : ℕ) → IsLooked old calls s mid nexts.Record →
    HasNotRedone mid t place byte → HasStopped old calls s t place byte
stopped_by old calls s mid t place byte look not start gate read scan first file answers known =
    let of = look.scan scan first file answers known in
    at_first start file mid place byte (look.first ∙ gate)
    (no_batch start file mid t place byte (read_same start s mid t look.found read) of (not.at file of) (look.next_is scan first file answers known) not.none)

-- a record that is not replayed, by what is said of its place
pub not_redone : (s new : Scan) (t after : Tables) (step : Step) → IsPlaced s step →
    ((b : Batch) → IsReadable b → IsAdmitted t b → payload_of s ≡ batch_bytes b → ⊥) → IsRedone s t new after step
not_redone s new t after steps.Went placed none = absurd placed
not_redone s new t after steps.Closed placed none = absurd placed
not_redone s new t after (steps.Damaged place byte) placed none = record { none = none; at = placed }
not_redone s new t after steps.Failed placed none = absurd placed
not_redone s new t after steps.NoMemory placed none = tt

-- the step of a record
pub record_step : (old calls : List DiskCall) (s mid new : Scan) (t after : Tables) (step : Step) → HasNoClaim t → IsLooked old calls s mid nexts.Record →
    IsRedone mid t new after step → IsStep old calls s t new after step
record_step old calls s mid new t after steps.Went free look done = gone_on old calls s mid new t after free look done
record_step old calls s mid new t after steps.Closed free look done = absurd done
record_step old calls s mid new t after (steps.Damaged place byte) free look done = stopped_by old calls s mid t place byte look done
record_step old calls s mid new t after steps.Failed free look done = tt
record_step old calls s mid new t after steps.NoMemory free look done = tt

-- the step of an open gate with no record
pub damaged_step : (old calls : List DiskCall) (s mid new : Scan) (t after : Tables) (step : Step) → IsLooked old calls s mid nexts.Damaged → IsPlaced mid step →
    IsStep old calls s t new after step
damaged_step old calls s mid new t after steps.Went look placed = absurd placed
damaged_step old calls s mid new t after steps.Closed look placed = absurd placed
damaged_step old calls s mid new t after (steps.Damaged place byte) look placed = stopped_here old calls s mid t place byte look placed
damaged_step old calls s mid new t after steps.Failed look placed = tt
damaged_step old calls s mid new t after steps.NoMemory look placed = tt

-- ---- the loop

pub reads_on : (old mid calls : List DiskCall) (before between now : ℕ) (s here new : Scan) (t u after : Tables) → IsReading old mid before between s here t u →
    OnlyLooks mid calls → now ≡ between → HasGone mid calls here new u after → IsReading old calls before now s new t after
reads_on old mid calls before between now s here new t u after r looks same gone = record {
  looks = OnlyLooks-then old mid calls r.looks looks;
  same = same ∙ r.same;
  scan = λ scan. gone.scan (r.scan scan);
  first = gone.first ∙ r.first;
  read = λ start read. gone.read start (r.read start read);
  unclaimed = gone.unclaimed;
}

pub all_read : (old mid calls : List DiskCall) (before between : ℕ) (s here new : Scan) (t u after : Tables) → IsReading old mid before between s here t u →
    HasEnded mid calls here new u after → HasEnded old calls s new t after
all_read old mid calls before between s here new t u after r end = record {
  scan = λ scan. end.scan (r.scan scan);
  closed = λ scan. end.closed (r.scan scan);
  first = end.first ∙ r.first;
  read = λ start read. end.read start (r.read start read);
}

pub all_stopped : (old mid calls : List DiskCall) (before between : ℕ) (s here : Scan) (t u : Tables) (place byte : ℕ) →
    IsReading old mid before between s here t u → HasStopped mid calls here u place byte → HasStopped old calls s t place byte
all_stopped old mid calls before between s here t u place byte r stop start gate read scan =
    stop start (r.first ∙ gate) (r.read start read) (r.scan scan)

-- the fault of records that were read from the first one on
pub fault_of_read : (start : Tables) (old calls : List DiskCall) (s new : Scan) (t after : Tables) (fault : JournalFault) → s.first ≡ first_gate →
    IsReadTo start s t → IsScan old s → IsRead old calls s t new after (Err fault) → HasFault start calls fault
fault_of_read start old calls s new t after NotOurs gate read scan done = absurd done
fault_of_read start old calls s new t after (Damaged place byte) gate read scan done = done start gate read scan
fault_of_read start old calls s new t after Failed gate read scan done = tt
fault_of_read start old calls s new t after NoMemory gate read scan done = tt
