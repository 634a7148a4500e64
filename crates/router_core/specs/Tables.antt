-- The tables of the router, as a fold over batches.
use Rattle.std.specs.Prelude.{◌≡◌, ℕ, ◌+◌, ◌^◌, ◌<◌, ◌≤◌, max, Bool, ◌||◌, nat_le, List, [], ◌∷◌, ◌++◌, map, length, Option, Some, None, All}
use Rattle.json_text.specs.Moment.{IsMoment}
use Rattle.name_rows.specs.Rows.{named, placed, without}
use Rattle.archive_keep.specs.declared.event_ref.KeptEvent.{KeptEvent}
use Rattle.archive_keep.specs.Archive.{Archive, empty_archive}
use Rattle.archive_keep.specs.Archives.{name_of, keeping, kept_in, kept_for, all_purged}
use Rattle.rule_table.specs.Control.{Control, queue_created, queue_deleted, archive_created, archive_updated, archive_deleted}
use Rattle.rule_table.specs.RuleSet.{RuleSet, first_set, applied, archive_at}
use Rattle.rule_table.specs.RuleSet.{Archive as Row}
use Rattle.replay_run.specs.declared.settings.ReplaySettings.{ReplaySettings}
use Rattle.replay_run.specs.declared.row.ReplayRow.{ReplayRow}
use Rattle.replay_run.specs.Replays.{first_row, next_number, stepped_in, cancelled_in}
use Rattle.rule_table.specs.WellFormed.{most_days}
use Rattle.delivery_duties.specs.Duties.{Duties, no_duties, with_new_queue, forgotten, with_deleted, added, settled}
use Rattle.router_requests.specs.declared.batch.StartedReplay.{StartedReplay}
use Rattle.router_requests.specs.Batch.{Accepted, Entry, control, accepted, attempt, replay_started, replay_stepped, replay_cancelled, messages_deleted, Batch}

-- The state of the router: the rule set, the duties and the queue messages, the archives with their events, all replays in the order of their
-- starts, the numbers of events, of operations and of batches so far, and the moment of the last batch.
-- Shown by: tables router_core.rows: the_first_tables_are_empty.
pub record Tables : Type 0 where
  pub set : RuleSet
  pub duties : Duties
  pub archives : List Archive
  pub replays : List ReplayRow
  pub events : ℕ
  pub entries : ℕ
  pub batches : ℕ
  pub moment : ℕ

-- The tables before any batch; all numbers and the moment are 0.
-- Shown by: tables router_core.rows: the_first_tables_are_empty.
abbrev pub first_tables : Tables
first_tables = record { set = first_set; duties = no_duties; archives = []; replays = []; events = 0; entries = 0; batches = 0; moment = 0 }

-- The duties after a configuration change: one that creates a queue adds that queue, one that deletes a queue removes it with its messages,
-- any other changes nothing.
-- Shown by: a_deleted_queue_keeps_its_messages.edit.
abbrev pub duties_after : Control → Duties → Duties
duties_after (queue_created name) duties = with_new_queue name duties
duties_after (queue_deleted name) duties = forgotten name duties
duties_after _ duties = duties

-- The archives after a configuration change at a moment: one that creates an archive adds it without events, one that updates an archive first
-- drops what it does not retain by its old days, one that deletes an archive removes it with its events, any other changes nothing.
-- Shown by: proofs alone.
abbrev pub archives_after : Control → ℕ → List Archive → List Archive
archives_after (archive_created name bus pattern days) moment archives = placed name_of keeping (empty_archive name days moment) archives
archives_after (archive_updated name pattern days) moment archives = kept_for name days moment archives
archives_after (archive_deleted name) moment archives = without name_of name archives
archives_after _ moment archives = archives

-- What archives keep of an event that is accepted at a moment.
-- Shown by: proofs alone.
abbrev pub kept_event : ℕ → Accepted → KeptEvent
kept_event moment e = record { number = e.number; accepted = moment; time = e.time; text = e.text }

-- The archives of these names keep one event more.
-- Shown by: proofs alone.
abbrev pub kept_by : List (List ℕ) → KeptEvent → List Archive → List Archive
kept_by [] e archives = archives
kept_by (name ∷ names) e archives = kept_by names e (kept_in name e archives)

-- What a replay of the archive of this row was asked for, at the moment of its start. Its events go to the archive's bus.
-- Shown by: proofs alone.
abbrev pub settings_of : ℕ → Row → StartedReplay → ReplaySettings
settings_of moment row s =
    record { name = s.name; archive = s.archive; bus = row.bus; range = s.range; rules = s.rules; started_at = moment }

-- the replays with one more, of the archive that has this row, if there is one
abbrev pub with_start : ℕ → StartedReplay → Option Row → Option Archive → List ReplayRow → List ReplayRow
with_start moment s None archive all = all
with_start moment s (Some row) None all = all
with_start moment s (Some row) (Some archive) all = all ++ first_row archive (settings_of moment row s) (next_number all) ∷ []

-- The replays after a start at a moment: one more, which selects of what its archive retains then.
-- Shown by: proofs alone.
abbrev pub replays_started : ℕ → StartedReplay → Tables → List ReplayRow
replays_started moment s t = with_start moment s (archive_at s.archive t.set) (named name_of s.archive t.archives) t.replays

-- The tables after one operation (`Entry`) at a moment. The duties of an event are due at once, its archives keep it,
-- and the tables' moment is not before it. A step makes the duties of an event that was accepted before: it counts no event, and no archive
-- keeps it.
-- Shown by: first-run.
abbrev pub after_entry : ℕ → Entry → Tables → Tables
after_entry moment (control c) t = record t {
  set = applied c t.set;
  duties = duties_after c t.duties;
  archives = archives_after c moment t.archives;
  entries = t.entries + 1;
}
after_entry moment (accepted e) t = record t {
  duties = added e.duties moment t.duties;
  archives = kept_by e.archives (kept_event moment e) t.archives;
  events = t.events + 1;
  entries = t.entries + 1;
  moment = max t.moment moment;
}
after_entry moment (attempt duty outcome) t = record t { duties = settled duty moment outcome t.duties; entries = t.entries + 1 }
after_entry moment (replay_started s) t = record t { replays = replays_started moment s t; entries = t.entries + 1 }
after_entry moment (replay_stepped s) t =
    record t { duties = added s.duties moment t.duties; replays = stepped_in s.name moment t.replays; entries = t.entries + 1 }
after_entry moment (replay_cancelled name) t = record t { replays = cancelled_in name moment t.replays; entries = t.entries + 1 }
after_entry moment (messages_deleted queue through) t = record t { duties = with_deleted queue through t.duties; entries = t.entries + 1 }

-- The tables after operations, in their order.
-- Shown by: entries.
abbrev pub after_entries : ℕ → List Entry → Tables → Tables
after_entries moment [] t = t
after_entries moment (e ∷ es) t = after_entries moment es (after_entry moment e t)

-- the tables with these archives after the events that are not retained at the moment are gone
abbrev pub purged_at : ℕ → Tables → Tables
purged_at moment t = record t { archives = all_purged moment t.archives }

-- The tables after a batch: archives hold only what is retained at its moment. The moment never falls: it is the greater one of the tables'
-- and the batch's.
-- Shown by: a_change_is_made_at_moment_0.edit.
abbrev pub after_batch : Batch → Tables → Tables
after_batch b t = record (purged_at b.moment (after_entries b.moment b.entries t)) { batches = t.batches + 1; moment = max t.moment b.moment }

-- The fold: the tables after a list of batches, oldest first.
-- Shown by: proofs alone.
abbrev pub tables_after : List Batch → Tables → Tables
tables_after [] t = t
tables_after (b ∷ bs) t = tables_after bs (after_batch b t)

-- 2^48 = 281,474,976,710,656: no further batch is made once there are this many operations or duties (this project's own limit).
-- Shown by: full_comes_one_later.edit.
abbrev pub number_limit : ℕ
number_limit = 2 ^ 48

-- The number limit is reached: there were 2^48 operations or 2^48 duties, so no further batch may begin. One that begins below the limit
-- may end above it.
-- Shown by: full_comes_one_later.edit.
abbrev pub is_full : Tables → Bool
is_full t = nat_le number_limit t.entries || nat_le number_limit t.duties.created

-- The moment of a turn: the clock's reading, or the moment of the last batch if that is greater.
-- Shown by: session_tests tests.rt: a_delivery_has_the_reading_of_its_own_step.
abbrev pub moment_at : Tables → ℕ → ℕ
moment_at t reading = max reading t.moment

-- the archive keeps events up to this number and this moment alone, no more than there are, for at most `most_days`
pub record KeepsUpTo (events moment : ℕ) (a : Archive) : Type 0 where
  pub days : a.days ≤ most_days
  pub earlier : All (λ (e : KeptEvent). (e.number ≤ events) × (e.accepted ≤ moment)) a.events
  pub few : length a.events ≤ events

-- What holds of all tables that admitted batches make from the first ones: the queues with messages are those of the rule set, in the same
-- order, and so are the archives; what these keep was accepted before; and all numbers are in range.
-- Shown by: tables router_core.rows: the_first_tables_are_empty.
pub record IsConsistent (t : Tables) : Type 0 where
  pub queues : map (λ queue. queue.name) t.duties.queues ≡ t.set.queues
  pub moment : IsMoment t.moment
  pub count : t.set.count ≤ t.entries
  pub events : t.events ≤ t.entries
  pub batches : t.batches ≤ t.entries
  pub entries : t.entries < number_limit + 2 ^ 20
  pub created : t.duties.created < number_limit + 2 ^ 20
  pub archives : map name_of t.archives ≡ map (λ archive. archive.name) t.set.archives
  pub kept : All (KeepsUpTo t.events t.moment) t.archives
  pub starts : length t.replays ≤ t.entries
