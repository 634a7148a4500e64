-- Which batches the tables admit, whoever made them: nothing here depends on why an entry was written. A journal may hold any admitted
-- batch, and no other.
use Rattle.std.specs.Prelude.{◌≡◌, ◌<◌, ◌≤◌, ◌+◌, ◌^◌, ◌⊎◌, ℕ, true, false, List, [], ◌∷◌, length, Some, None, IfSome, All, IsTrue}
use Rattle.json_text.specs.Limits.{most_text}
use Rattle.json_text.specs.Moment.{IsMoment}
use Rattle.event_shape.specs.Names.{IsBusName, IsQueueArn, IsShortName, is_account}
use Rattle.event_shape.specs.Event.{Event, IsEventText}
use Rattle.name_rows.specs.Rows.{AreSorted}
use Rattle.archive_keep.specs.declared.event_ref.KeptEvent.{KeptEvent}
use Rattle.rule_table.specs.Control.{Control, bus_deleted, queue_deleted}
use Rattle.rule_table.specs.RuleSet.{has_archive}
use Rattle.rule_table.specs.Refusal.{IsAllowed}
use Rattle.rule_table.specs.WellFormed.{IsWellFormed}
use Rattle.delivery_duties.specs.declared.duty.DutyRow.{DutyRow}
use Rattle.delivery_duties.specs.declared.duty.NewDuty.{NewDuty}
use Rattle.delivery_duties.specs.declared.outcome.Outcome.{Outcome}
use Rattle.delivery_duties.specs.declared.outcome.Outcome.TheVariants.{Accepted}
use Rattle.delivery_queues.specs.Queues.{has_queue, messages_of, messages_through}
use Rattle.delivery_duties.specs.Duties.{names_queue, pending_row}
use Rattle.replay_run.specs.declared.row.ReplayRow.{ReplayRow}
use Rattle.replay_run.specs.Replays.{found, is_sent_to, most_running, running, running_named}
use Rattle.router_requests.specs.declared.batch.StartedReplay.{StartedReplay}
use Rattle.router_requests.specs.Batch.{Accepted as AcceptedEvent, Stepped, Entry, control, accepted, attempt, replay_started, replay_stepped, replay_cancelled, messages_deleted, Batch}
use Rattle.router_core.specs.Tables.{Tables, after_entry, after_batch, is_full}

-- The bytes are the text of an event that has a number, from 1 on, and the account of a caller, which has 12 digits. The number and the
-- time need not be those of an operation that has the text.
-- Shown by: proofs alone.
pub record IsTextAdmitted (bytes : List ℕ) : Type 0 where
  pub event : Event
  pub text : IsEventText bytes event
  pub number : 1 ≤ event.number
  pub account : IsTrue (is_account event.account)

-- The next event: its number follows, its bus has a bus's name, its configuration version is known, its text is an event's
-- (`IsTextAdmitted`), its archives exist, each named once and in byte order, and it has at most 1,500 duties (five targets of each of 300 rules), each with a text of at most 1,048,576 bytes.
-- Shown by: proofs alone.
pub record IsEventAdmitted (t : Tables) (e : AcceptedEvent) : Type 0 where
  pub number : e.number ≡ t.events + 1
  pub bus : IsBusName e.bus
  pub known : e.k ≤ t.set.count
  pub time : IsMoment e.time
  pub text : IsTextAdmitted e.text
  pub archive_order : AreSorted (λ name. name) e.archives
  pub archives : All (λ name. has_archive name t.set ≡ true) e.archives
  pub few : length e.duties ≤ 1500
  pub short : All (λ (duty : NewDuty). length duty.text ≤ most_text) e.duties

-- An attempt of a pending duty that is due by the moment. If a queue accepted the text, that queue exists.
-- Shown by: a_missing_queue_accepts.edit.
pub record IsAttemptAdmitted (t : Tables) (moment duty : ℕ) (outcome : Outcome) : Type 0 where
  pub row : DutyRow
  pub pending : pending_row duty t.duties ≡ Some row
  pub due : row.due ≤ moment
  pub queue : outcome ≡ Accepted → (queue : List ℕ) → IsQueueArn row.duty.target.endpoint queue → has_queue queue t.duties.queues ≡ true

-- A deletion of messages: the queue exists, and at least one of its messages has a number up to the one given, which is below 2^48.
-- Shown by: empty-a-queue.
pub record IsDeletionAdmitted (t : Tables) (queue : List ℕ) (through : ℕ) : Type 0 where
  pub there : has_queue queue t.duties.queues ≡ true
  pub bounded : through < 2 ^ 48
  pub some : 1 ≤ length (messages_through through (messages_of queue t.duties.queues))

-- A start of a replay, as a request could write it: no replay has its name, its archive exists, its range of times is not empty, and fewer
-- than ten replays are running. The rules of its filter need not exist.
-- Shown by: proofs alone.
pub record IsStartAdmitted (t : Tables) (s : StartedReplay) : Type 0 where
  pub name : IsShortName s.name
  pub new : found s.name t.replays ≡ None
  pub archive : has_archive s.archive t.set ≡ true
  pub start : IsMoment s.range.start
  pub end : IsMoment s.range.end
  pub order : s.range.start ≤ s.range.end
  pub few : length (running t.replays) < most_running
  pub rules : IfSome s.rules (All IsShortName)

-- The next step of the replay that it names, which is running: its event is the next one that the replay selected. It has at most 1,500
-- duties, each with a text of at most 1,048,576 bytes. The replay need not be the first of those that are running.
-- Shown by: proofs alone.
pub record IsStepAdmitted (t : Tables) (s : Stepped) : Type 0 where
  pub row : ReplayRow
  pub runs : running_named s.name t.replays ≡ Some row
  pub event : KeptEvent
  pub rest : List KeptEvent
  pub next : row.replay.left ≡ event ∷ rest
  pub number : s.event ≡ event.number
  pub few : length s.duties ≤ 1500
  pub short : All (λ (duty : NewDuty). length duty.text ≤ most_text) s.duties

-- A cancellation of a replay: it is running.
-- Shown by: proofs alone.
abbrev pub IsCancellationAdmitted : Tables → List ℕ → Type 0
IsCancellationAdmitted t name = (row : ReplayRow) × (running_named name t.replays ≡ Some row)

-- No pending duty and no message names a queue that the change deletes, and no running replay sends its events to a bus that it deletes.
-- Shown by: delete-queue.
abbrev pub IsUnnamed : Control → Tables → Type 0
IsUnnamed (queue_deleted name) t = names_queue name t.duties ≡ false
IsUnnamed (bus_deleted name) t = is_sent_to name t.replays ≡ false
IsUnnamed _ t = Unit {0}

-- The operation is admitted at a moment: a change is well formed, allowed and `IsUnnamed`, and for the others see `IsEventAdmitted`,
-- `IsAttemptAdmitted`, `IsStartAdmitted`, `IsStepAdmitted`, `IsCancellationAdmitted`, `IsDeletionAdmitted`.
-- Shown by: proofs alone.
abbrev pub IsEntryAdmitted : ℕ → Entry → Tables → Type 0
IsEntryAdmitted moment (control c) t = IsWellFormed c × IsAllowed c t.set × IsUnnamed c t
IsEntryAdmitted moment (accepted e) t = IsEventAdmitted t e
IsEntryAdmitted moment (attempt duty outcome) t = IsAttemptAdmitted t moment duty outcome
IsEntryAdmitted moment (replay_started s) t = IsStartAdmitted t s
IsEntryAdmitted moment (replay_stepped s) t = IsStepAdmitted t s
IsEntryAdmitted moment (replay_cancelled name) t = IsCancellationAdmitted t name
IsEntryAdmitted moment (messages_deleted queue through) t = IsDeletionAdmitted t queue through

-- Each operation is admitted on the tables after the operations before it.
-- Shown by: proofs alone.
abbrev pub AreAdmitted : ℕ → List Entry → Tables → Type 0
AreAdmitted moment [] t = Unit {0}
AreAdmitted moment (e ∷ es) t = IsEntryAdmitted moment e t × AreAdmitted moment es (after_entry moment e t)

-- The operation is an accepted event.
-- Shown by: proofs alone.
abbrev pub IsAnEvent : Entry → Type 0
IsAnEvent (control c) = ⊥
IsAnEvent (accepted e) = Unit {0}
IsAnEvent (attempt duty outcome) = ⊥
IsAnEvent (replay_started s) = ⊥
IsAnEvent (replay_stepped s) = ⊥
IsAnEvent (replay_cancelled name) = ⊥
IsAnEvent (messages_deleted queue through) = ⊥

-- The operation changes no configuration: it is an event, an attempt, a deletion of messages, or the start, a step or the cancellation of a
-- replay.
-- Shown by: law a_prepared_batch_stays_prepared.
abbrev pub IsNoChange : Entry → Type 0
IsNoChange (control c) = ⊥
IsNoChange (accepted e) = Unit {0}
IsNoChange (attempt duty outcome) = Unit {0}
IsNoChange (replay_started s) = Unit {0}
IsNoChange (replay_stepped s) = Unit {0}
IsNoChange (replay_cancelled name) = Unit {0}
IsNoChange (messages_deleted queue through) = Unit {0}

-- One operation, or from one to ten events.
-- Shown by: proofs alone.
abbrev pub AreOfOneTurn : List Entry → Type 0
AreOfOneTurn entries = ((e : Entry) × (entries ≡ e ∷ [])) ⊎ ((1 ≤ length entries) × (length entries ≤ 10) × All IsAnEvent entries)

-- The tables admit the batch, whoever made it: its moment is not before theirs, they are not full, and its operations are of one turn and
-- admitted.
-- Shown by: proofs alone.
pub record IsAdmitted (t : Tables) (b : Batch) : Type 0 where
  pub moment : IsMoment b.moment
  pub later : t.moment ≤ b.moment
  pub numbered : is_full t ≡ false
  pub one_turn : AreOfOneTurn b.entries
  pub entries : AreAdmitted b.moment b.entries t

-- Each batch is admitted on the tables after the batches before it.
-- Shown by: law a_replay_repeats_a_front_of_its_selection.
abbrev pub AreBatchesAdmitted : Tables → List Batch → Type 0
AreBatchesAdmitted t [] = Unit {0}
AreBatchesAdmitted t (b ∷ bs) = IsAdmitted t b × AreBatchesAdmitted (after_batch b t) bs
