-- The program: its session, its status, and the line that reports the status.
use Rattle.std.specs.Prelude.{◌≡◌, ◌≢◌, ℕ, ◌≤◌, ◌⊎◌, Bool, true, false, List, [], ◌∷◌, ◌++◌, Option, Some, None, Result, All, Contains}
use Rattle.router_disk.specs.Faults.{CountsFaults, Rose}
use Rattle.router_disk.specs.Link.{Exchange}
use Rattle.router_disk.specs.Sink.{AddsBytes}
use Rattle.router_disk.specs.declared.fault.Failed.{Failed}
use Rattle.delivery_duties.specs.declared.outcome.Fate.{Fate}
use Rattle.program_lines.specs.declared.status.Status.{Status}
use Rattle.program_lines.specs.declared.status.Status.TheVariants as statuses
use Rattle.program_lines.specs.Status.{fault_line}
use Rattle.courier_run.specs.Claim.{NeedsSend}
use Rattle.courier_run.specs.Act.{Try, makes, tries_in}
use Rattle.message_streams.specs.declared.farewell.SessionEnd.{SessionEnd}
use Rattle.message_streams.specs.declared.farewell.SessionEnd.TheVariants as ends
use Rattle.router_history.specs.History.{Turn, Placed, records, state_of}
use Rattle.router_history.specs.Book.{opening}
use Rattle.router_history.specs.Acts.{Act, Breaks, World, world}
use Rattle.router_history.specs.Session.{IsSession}
use Rattle.drill_run.specs.OnePass.{only_seat, IsOfOnePass}

-- The status of a session's end. `Closed` is `Done`; each other end has the status of its own name.
-- Shown by: cut-message.
abbrev pub status_of : SessionEnd → Status
status_of ends.Closed = statuses.Done
status_of ends.Cut = statuses.Cut
status_of ends.Refused = statuses.Refused
status_of ends.Long = statuses.Long
status_of ends.ReadFault = statuses.ReadFault
status_of ends.WriteFault = statuses.WriteFault
status_of ends.NoMemory = statuses.NoMemory

-- The status's line was written, or a first part of it if the write failed, which the count of faults shows.
-- Shown by: bad-arguments.
abbrev pub IsReported : Status → List ℕ → List ℕ → ℕ → ℕ → Type 0
IsReported status old new faults faults_new =
    (result : Result (Unit {0}) Failed) × AddsBytes old new result (fault_line status) × CountsFaults faults faults_new result

-- Something may have been written before, which says why, with or without faults; and then the status is `IsReported`. So its line is the last
-- one.
-- Shown by: bad-arguments; help-of-serve.
pub record IsReportedLast (status : Status) (old new : List ℕ) (faults faults_new : ℕ) : Type 0 where
  pub why : List ℕ
  pub faults_before : ℕ
  pub later : faults ≤ faults_before
  pub reported : IsReported status (old ++ why) new faults_before faults_new

-- The source's count of faults rose, or was at its last value, if the status is `ReadFault`, and is unchanged at every other status. The
-- same holds of the sink's count and `WriteFault`.
-- Shown by: always_answers_write_fault.edit.
pub record FaultsMatch (status : Status) (reads reads_new writes writes_new : ℕ) : Type 0 where
  pub read_fault : status ≡ statuses.ReadFault → Rose reads reads_new
  pub input_faultless : status ≢ statuses.ReadFault → reads_new ≡ reads
  pub write_fault : status ≡ statuses.WriteFault → Rose writes writes_new
  pub output_faultless : status ≢ statuses.WriteFault → writes_new ≡ writes

-- One of these acts is a turn that records the attempt, with its outcome.
-- Shown by: recorded_without_a_send.edit.
abbrev pub IsRecorded : List Act → Try → Type 0
IsRecorded acts t =
    (p : Placed) × (fate : Fate) × Contains acts (makes p) × (p.turn.ask ≡ records (record { claim = t.claim; outcome = t.outcome; fate = fate }))

-- One of these acts is the turn that breaks the book, since the attempt's record could not be appended.
-- Shown by: proofs alone.
abbrev pub IsLost : List Act → Try → Type 0
IsLost acts t = (p : Placed) × Contains acts (makes p) × Breaks p t.claim t.outcome

-- Each attempt whose text was sent is recorded. If the book is broken, its record may be the one that broke it.
-- Shown by: recorded_without_a_send.edit.
abbrev pub AreRecorded : Bool → List Act → Type 0
AreRecorded false acts = (t : Try) → Contains (tries_in acts) t → NeedsSend t.claim → IsRecorded acts t
AreRecorded true acts = (t : Try) → Contains (tries_in acts) t → NeedsSend t.claim → IsRecorded acts t ⊎ IsLost acts t

-- One session over a book that was just opened, by this turn. Its history is `IsOfOnePass`, and its attempts are `AreRecorded`. `Ends` holds of
-- how the session ended, and of whether the book is broken.
-- Shown by: first-run.
pub record RunsOnce (start : Turn) (Ends : SessionEnd → Bool → Type 0) (old new : World) : Type 0 where
  pub end : SessionEnd
  pub session : IsSession only_seat old new end
  pub recorded : AreRecorded (state_of new.turns).broken session.0
  pub first : old.turns ≡ start ∷ []
  pub ends : Ends end (state_of new.turns).broken
  pub history : IsOfOnePass new.turns

-- What is known around a run: what the reads gave, the bytes written and the readings of the clock; the links that the host gave, and those
-- that it took back.
-- Shown by: program_tests program.rt: a_run_gives_its_link_back.
pub record Around (L : Type 0) : Type 0 where
  pub gave : List (List ℕ)
  pub written : List ℕ
  pub readings : List ℕ
  pub given : List L
  pub back : List L

-- The `Around` with these parts.
-- Shown by: program_tests program.rt: a_run_gives_its_link_back.
abbrev pub around : {L : Type 0} → List (List ℕ) → List ℕ → List ℕ → List L → List L → Around L
around gave written readings given back = record { gave = gave; written = written; readings = readings; given = given; back = back }

-- Nothing was read, no reading was taken, and no link was given or taken back.
-- Shown by: drill-three-events; the_drill_reads_the_clock.edit.
pub record IsUntouched {L : Type 0} (old new : Around L) : Type 0 where
  pub unread : new.gave ≡ old.gave
  pub unclocked : new.readings ≡ old.readings
  pub none_given : new.given ≡ old.given
  pub none_back : new.back ≡ old.back

-- `IsUntouched`, and nothing was written.
-- Shown by: bad-arguments.
pub record IsUnbegun {L : Type 0} (old new : Around L) : Type 0 where
  pub untouched : IsUntouched old new
  pub unwritten : new.written ≡ old.written

-- `RunsOnce` by the clock, or with every reading the given one while the clock is not read.
-- Shown by: first-run; .ci/checks/deliveries.py.
abbrev pub RunsBy : Turn → (SessionEnd → Bool → Type 0) → Option ℕ → World → World → Type 0
RunsBy start Ends None old new = RunsOnce start Ends old new
RunsBy start Ends (Some moment) old new = (readings : List ℕ) × All (λ r. r ≡ moment) readings
    × RunsOnce start Ends (record old { readings = [] }) (record new { readings = readings }) × (new.readings ≡ old.readings)

-- The host gave one link, a session had it (`RunsBy`), and the host took it back. `answered` and `faults` are what a link shows.
-- Shown by: program_tests program.rt: a_run_gives_its_link_back; delivers_by_its_own_link.edit.
pub record RunsLinked {L : Type 0} (answered : L → List Exchange) (faults : L → ℕ) (start : Turn) (Ends : SessionEnd → Bool → Type 0)
    (now : Option ℕ) (old new : Around L) : Type 0 where
  -- the link as it was given, and as it was taken back
  pub lent : L
  pub returned : L
  pub given : new.given ≡ old.given ++ lent ∷ []
  pub back : new.back ≡ old.back ++ returned ∷ []
  pub turns : List Turn
  pub runs : RunsBy start Ends now (world (start ∷ []) old.gave old.written old.readings (answered lent) (faults lent))
      (world turns new.gave new.written new.readings (answered returned) (faults returned))

-- The book is not broken, and the status is that of the session's end.
-- Shown by: first-run.
abbrev pub EndsWhole : Status → SessionEnd → Bool → Type 0
EndsWhole status end broken = (broken ≡ false) × (status ≡ status_of end)

-- Without a journal: `RunsLinked` from the first tables, with the status of the session's end; or `NoMemory` or `DoorFault` and nothing begun.
-- Shown by: first-run.
abbrev pub IsRun : {L : Type 0} (answered : L → List Exchange) (faults : L → ℕ) → Option ℕ → Around L → Around L → Status → Type 0
IsRun answered faults now old new status = RunsLinked answered faults opening (EndsWhole status) now old new
    ⊎ (((status ≡ statuses.NoMemory) ⊎ (status ≡ statuses.DoorFault)) × IsUnbegun old new)

-- The host's count of faults of links rose, or was at its last value, if the status is `DoorFault`, and is unchanged at every other status;
-- the count of faults of doors is unchanged.
-- Shown by: program_tests program.rt: a_host_that_fails_ends_a_run.
pub record HostMatches {H : Type 0} (door link : H → ℕ) (status : Status) (old new : H) : Type 0 where
  pub same_door : door new ≡ door old
  pub door_fault : status ≡ statuses.DoorFault → Rose (link old) (link new)
  pub link_faultless : status ≢ statuses.DoorFault → link new ≡ link old
