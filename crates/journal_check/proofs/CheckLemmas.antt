-- What a check of a journal shows, from what reading it found.
use Rattle.std.proofs.Common.{◌≡◌, ◌≢◌, ℕ, List, [], ◌++◌, Some, Err}
use Rattle.std.proofs.Common.{refl, sym, ap, subst, inl, inr, ◌∙◌}
use Rattle.std.specs.List.{AllByRecursion}
use Rattle.router_disk.specs.declared.disk_call.DiskCall.{DiskCall}
use Rattle.router_disk.specs.Disk.{AreAnswers, file_of}
use Rattle.router_disk.specs.Faults.{CountsFaults, Rose}
use Rattle.record_file.specs.State.{Counts, IsLook, OnlyLooks}
use Rattle.record_file.proofs.LookLemmas.{OnlyLooks-file}
use Rattle.bus_host.specs.HostFault.{host_outcome}
use Rattle.bus_host.specs.declared.host.HostFault.{HostFault}
use Rattle.bus_host.specs.declared.host.HostFault.TheVariants as host
use Rattle.program_lines.specs.declared.status.Status.{Status}
use Rattle.program_lines.specs.declared.status.Status.TheVariants as statuses
use Rattle.program_lines.specs.Printed.{summary_lines}
use Rattle.router_requests.specs.Batch.{Batch}
use Rattle.router_core.specs.Tables.{Tables, first_tables, tables_after}
use Rattle.duty_journal.specs.declared.fault.JournalFault.{JournalFault}
use Rattle.duty_journal.specs.declared.fault.JournalFault.TheVariants as faults
use Rattle.duty_journal.specs.Journal.{IsJournal}
use Rattle.duty_journal.specs.Recovery.{HasFault, outcome_of}
use Rattle.tables_summary.specs.Summary.{IsSummed, WritesPart, summary_of}
use Rattle.journal_check.specs.Check.{AroundDisk, HasStatus, IsJournalPrinted, IsUnchecked, status_of_fault, status_of_opening}

-- only looks were made of a disk that was just opened
pub all_looks : (old new : List DiskCall) → old ≡ [] → OnlyLooks old new → AllByRecursion IsLook new
all_looks old new none looks = subst (AllByRecursion IsLook) (sym (looks.1 ∙ ap (λ (m : List DiskCall). m ++ looks.0) none)) looks.2

-- a read gives what it gave at first
pub known_first : (first : List ℕ) (old new : List DiskCall) → old ≡ [] → OnlyLooks old new → file_of first new ≡ Some first
known_first first old new none looks = OnlyLooks-file first old new looks ∙ ap (λ (calls : List DiskCall). file_of first calls) none

-- no status of a summary is a fault of the disk
done_is_no_fault : (status : Status) → status ≡ statuses.Done → status ≢ statuses.DiskFault
done_is_no_fault status is e = cc

write_is_no_fault : (status : Status) → status ≡ statuses.WriteFault → status ≢ statuses.DiskFault
write_is_no_fault status is e = cc

memory_is_no_fault : (status : Status) → status ≡ statuses.NoMemory → status ≢ statuses.DiskFault
memory_is_no_fault status is e = cc

-- what was summed up
pub summed_found : (calls : List DiskCall) (batches : List Batch) (t : Tables) (old new : List ℕ) (status : Status) →
    ((first : List ℕ) → AreAnswers first calls → IsJournal first first_tables batches) → t ≡ tables_after batches first_tables → IsSummed t old new status →
    HasStatus calls old new status × (status ≢ statuses.DiskFault)
summed_found calls batches t old new status journal is (inl (done, written)) =
    let printed : IsJournalPrinted calls (λ text. new ≡ old ++ text) =
    record { batches = batches; journal = journal; printed = written ∙ ap (λ (u : Tables). old ++ summary_lines (summary_of u)) is } in
    (subst (HasStatus calls old new) (sym done) printed, done_is_no_fault status done)
summed_found calls batches t old new status journal is (inr (inl (fault, part))) =
    let printed : IsJournalPrinted calls (λ text. WritesPart old new text) =
    record {
      batches = batches;
      journal = journal;
      printed = (part.0, part.1, sym (ap (λ (u : Tables). summary_lines (summary_of u)) is) ∙ part.2, part.3);
    } in
    (subst (HasStatus calls old new) (sym fault) printed, write_is_no_fault status fault)
summed_found calls batches t old new status journal is (inr (inr (none, unwritten))) =
    (subst (HasStatus calls old new) (sym none) unwritten, memory_is_no_fault status none)

-- a journal that is not read
pub fault_found : (calls : List DiskCall) (fault : JournalFault) (old new : List ℕ) → ((first : List ℕ) → file_of first calls ≡ Some first) →
    HasFault first_tables calls fault → new ≡ old → HasStatus calls old new (status_of_fault fault)
fault_found calls faults.NotOurs old new known has same = (λ first answers. has first first answers (known first), same)
fault_found calls (faults.Damaged place byte) old new known has same = (λ first answers. has first first answers (known first), same)
fault_found calls faults.Failed old new known has same = same
fault_found calls faults.NoMemory old new known has same = same

-- what it does to the disk's count of faults
pub fault_count : (T : Type 0) (before now : ℕ) (fault : JournalFault) → Counts before now (outcome_of {T = T} (Err fault)) →
    (status_of_fault fault ≡ statuses.DiskFault → Rose before now) × (status_of_fault fault ≢ statuses.DiskFault → now ≡ before)
fault_count T before now faults.NotOurs c = (λ e. cc, λ _. c.same)
fault_count T before now (faults.Damaged place byte) c = (λ e. cc, λ _. c.same)
fault_count T before now faults.Failed c = (λ _. c.rose, λ other. absurd (other refl))
fault_count T before now faults.NoMemory c = (λ e. cc, λ _. c.same)

-- the host gave no disk
pub unopened : {D : Type 0} (T : Type 0) (fault : HostFault) (old new : AroundDisk D) (status : Status) → status ≡ status_of_opening fault →
    new.written ≡ old.written → new.disks ≡ old.disks → new.disks_back ≡ old.disks_back →
    CountsFaults old.disk_faults new.disk_faults (host_outcome {T = T} (Err fault)) → IsUnchecked old new status
unopened T host.Failed old new status is w d b count = record { unwritten = w; none_given = d; none_back = b; cause = inl (is, count.rose) }
unopened T host.NoMemory old new status is w d b count = record { unwritten = w; none_given = d; none_back = b; cause = inr (is, count.same) }

-- no fault is one of the output
pub no_write_fault_found : (fault : JournalFault) (status : Status) → status ≡ status_of_fault fault → status ≢ statuses.WriteFault
no_write_fault_found faults.NotOurs status is e = cc
no_write_fault_found (faults.Damaged place byte) status is e = cc
no_write_fault_found faults.Failed status is e = cc
no_write_fault_found faults.NoMemory status is e = cc

pub no_write_fault_opening : (fault : HostFault) (status : Status) → status ≡ status_of_opening fault → status ≢ statuses.WriteFault
no_write_fault_opening host.Failed status is e = cc
no_write_fault_opening host.NoMemory status is e = cc
