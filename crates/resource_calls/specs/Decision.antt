-- What is decided of a call: the operations that it writes, and its reply. The calls on event buses, archives, replays and queues.
use Rattle.std.specs.Prelude.{◌≡◌, ℕ, is_some, not, ◌&&◌, nat_lt, if◌then◌else◌, List, [], ◌∷◌, length}
use Rattle.std.specs.Prelude.{Option, Some, None, unwrap_or}
use Rattle.std.specs.Option.{option_or}
use Rattle.std.specs.Str.{bytes_eq}
use Rattle.rule_table.specs.declared.control.ControlFault.{ControlFault}
use Rattle.rule_table.specs.Control.{Control, bus_deleted}
use Rattle.rule_table.specs.Control.{queue_deleted, archive_updated}
use Rattle.archive_keep.specs.Archive.{Archive}
use Rattle.archive_keep.specs.Archives.{name_of}
use Rattle.name_rows.specs.Rows.{named}
use Rattle.rule_table.specs.RuleSet.{Archive as Row, RuleSet, archive_at, has_queue}
use Rattle.rule_table.specs.Refusal as table
use Rattle.delivery_queues.specs.declared.stored.StoredMessage.{StoredMessage}
use Rattle.delivery_queues.specs.Queues.{messages_of, messages_through}
use Rattle.delivery_duties.specs.Duties.{names_queue}
use Rattle.replay_run.specs.declared.row.ReplayRow.{ReplayRow}
use Rattle.replay_run.specs.Replays.{first_row, found, is_running, is_sent_to, most_running, next_number, running}
use Rattle.api_replies.specs.declared.kind.Kind.TheVariants as kind
use Rattle.api_replies.specs.declared.cause.Cause.{Cause}
use Rattle.api_replies.specs.declared.cause.Cause.TheVariants as cause
use Rattle.api_replies.specs.Reply.{Reply, refused, no_memory}
use Rattle.router_requests.specs.declared.batch.StartedReplay.{StartedReplay}
use Rattle.router_requests.specs.Batch as batch
use Rattle.router_core.specs.Tables.{Tables, settings_of}
use Rattle.config_views.specs.Archives.{archive_reply}
use Rattle.config_views.specs.Replays.{started_reply, cancelled_reply}
use Rattle.call_replies.specs.Causes.{change_cause}
use Rattle.call_replies.specs.Replies.{empty_reply, deletion_reply}

-- What is decided of a request: the operations that it writes, and its reply.
-- Shown by: tables router_calls.rows: each_request_is_answered.
pub record Decided : Type 0 where
  pub entries : List batch.Entry
  pub reply : Reply

-- A reply, and nothing to write.
-- Shown by: tables router_calls.rows: each_request_is_answered.
abbrev pub shown : Reply → Decided
shown reply = record { entries = []; reply = reply }

-- A refusal for a cause, and nothing to write.
-- Shown by: tables router_calls.rows: each_request_is_answered.
abbrev pub refusal : Cause → Decided
refusal c = shown (refused c)

-- One operation with its reply.
-- Shown by: tables router_calls.rows: each_request_is_answered.
abbrev pub writes : batch.Entry → Reply → Decided
writes entry reply = record { entries = entry ∷ []; reply = reply }

-- the reply to a change that is refused for this cause; a change without one is out of memory
abbrev pub change_reply : Option Cause → Reply
change_reply (Some c) = refused c
change_reply None = no_memory

-- what is decided of a change: without a fault it is written with this reply, with one it is refused
abbrev pub unless_refused : Option ControlFault → Control → Reply → Decided
unless_refused None control reply = writes (batch.control control) reply
unless_refused (Some fault) control reply = shown (change_reply (change_cause control fault))

-- A configuration change is written with its reply if it is allowed, and else refused for its first fault.
-- Shown by: a_refused_change_is_reported_as_done.edit.
abbrev pub controlled : RuleSet → Control → Reply → Decided
controlled set control reply = unless_refused (table.refusal control set) control reply

-- DeleteQueue. An existing queue that a pending delivery or a message names is in use; else it is a change like others. A missing queue is
-- refused as such, whatever names it.
-- Shown by: a_queue_with_messages_is_deleted.edit.
abbrev pub queue_deletion : Tables → List ℕ → Decided
queue_deletion t name =
    if has_queue name t.set && names_queue name t.duties then refusal (cause.InUse kind.Queue name)
    else controlled t.set (queue_deleted name) empty_reply

-- DeleteEventBus: what the rule set refuses is refused as such; else a bus to which a running replay sends its events is in use.
-- Shown by: proofs alone.
abbrev pub bus_deletion : Tables → List ℕ → Decided
bus_deletion t name =
    if not (is_some (table.refusal (bus_deleted name) t.set)) && is_sent_to name t.replays then refusal (cause.InUse kind.EventBus name)
    else controlled t.set (bus_deleted name) empty_reply

-- The deletion of these messages, which have numbers up to `through`, is one operation of a batch; without a message nothing is written.
-- Shown by: empty-a-queue.
abbrev pub deletion_of : List ℕ → ℕ → List StoredMessage → Decided
deletion_of queue through [] = shown (deletion_reply 0)
deletion_of queue through (m ∷ ms) = writes (batch.messages_deleted queue through) (deletion_reply (length (m ∷ ms)))

-- DeleteMessages: the queue's messages with numbers up to `Through` are deleted; a missing queue is refused.
-- Shown by: tables router_calls.rows: a_queue_is_deleted_once_nothing_names_it.
abbrev pub messages_deletion : Tables → List ℕ → ℕ → Decided
messages_deletion t queue through =
    if has_queue queue t.set then deletion_of queue through (messages_through through (messages_of queue t.duties.queues))
    else refusal (cause.NotFound kind.Queue queue)

-- the change of an archive to this pattern and these days; those that are not given stay as they are
abbrev pub update_of : List ℕ → Option (List ℕ) → Option ℕ → Row → Archive → Control
update_of name pattern days row archive = archive_updated name (option_or pattern row.pattern) (unwrap_or days archive.days)

-- what is decided for the archive that is there, or the refusal of an archive of this name
abbrev pub for_archive : List ℕ → (Row → Archive → Decided) → Option Row → Option Archive → Decided
for_archive name decided (Some row) (Some archive) = decided row archive
for_archive name decided _ _ = refusal (cause.NotFound kind.Archive name)

-- What is decided of a call on an archive: a missing one is refused. The rule set and the archives of tables have the same names
-- (router_core `IsConsistent`).
-- Shown by: tables router_calls.rows: archives_are_changed.
abbrev pub on_archive : Tables → List ℕ → (Row → Archive → Decided) → Decided
on_archive t name decided = for_archive name decided (archive_at name t.set) (named name_of name t.archives)

-- UpdateArchive: an archive gets the pattern and the days that are given, also where nothing changes by it. Its reply has the moment of the
-- archive's creation.
-- Shown by: an_update_forgets_the_days.edit; tables router_calls.rows: archives_are_changed.
abbrev pub archive_update : Tables → List ℕ → Option (List ℕ) → Option ℕ → Decided
archive_update t name pattern days =
    on_archive t name (λ row archive. controlled t.set (update_of name pattern days row archive) (archive_reply name archive.created))

-- A start is written, with the reply of the replay as it is after it.
-- Shown by: replays.
abbrev pub start_written : Tables → ℕ → StartedReplay → Row → Archive → Decided
start_written t moment s row archive =
    writes (batch.replay_started s) (started_reply (first_row archive (settings_of moment row s) (next_number t.replays)))

-- A start of a replay of the archive that is there, to this bus. It is refused if the bus is not the archive's; if its range ends before it
-- begins; and if ten replays are running, also if this one would select nothing. The reply is of the replay as it is after the start.
-- Shown by: replays.
abbrev pub start_of : Tables → ℕ → StartedReplay → List ℕ → Row → Archive → Decided
start_of t moment s bus row archive =
    if not (bytes_eq bus row.bus) then refusal cause.OtherDestination else (
    if nat_lt s.range.end s.range.start then refusal cause.EmptyRange else (
    if nat_lt (length (running t.replays)) most_running then start_written t moment s row archive else refusal (cause.LimitReached kind.Replay)))

-- for private clauses: what is decided is the start, whichever archive of its name is there
abbrev pub IsStarting : Tables → ℕ → StartedReplay → Decided → Type 0
IsStarting t moment s d = (row : Row) (archive : Archive) → archive_at s.archive t.set ≡ Some row → named name_of s.archive t.archives ≡ Some archive
    → d ≡ start_written t moment s row archive

-- StartReplay: a name that a replay has already, ended or not, is refused first, then a missing archive, then by `start_of`.
-- Shown by: replays.
abbrev pub replay_start : Tables → ℕ → StartedReplay → List ℕ → Decided
replay_start t moment s bus =
    if is_some (found s.name t.replays) then refusal (cause.Exists kind.Replay s.name) else on_archive t s.archive (start_of t moment s bus)

-- what is decided of a cancellation of the replay that is there, or the refusal of a replay of this name
abbrev pub cancellation_of : List ℕ → Option ReplayRow → Decided
cancellation_of name None = refusal (cause.NotFound kind.Replay name)
cancellation_of name (Some row) =
    if is_running row then writes (batch.replay_cancelled name) (cancelled_reply name) else refusal (cause.NotRunning name)

-- CancelReplay: a missing replay is refused, and one that is not running.
-- Shown by: replays.
abbrev pub replay_cancellation : Tables → List ℕ → Decided
replay_cancellation t name = cancellation_of name (found name t.replays)
