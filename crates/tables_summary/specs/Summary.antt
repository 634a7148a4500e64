-- The last lines of a program that serves or drills: what its tables count.
use Rattle.std.specs.Prelude.{◌≡◌, ◌⊎◌, ℕ, List, ◌++◌, length}
use Rattle.archive_keep.specs.Archives.{event_count}
use Rattle.delivery_duties.specs.Duties.{delivered_of, dead_lettered_of, dropped_of}
use Rattle.delivery_queues.specs.Queues.{message_count}
use Rattle.program_lines.specs.declared.printed.Summary.{Summary}
use Rattle.program_lines.specs.declared.status.Status.{Status}
use Rattle.program_lines.specs.declared.status.Status.TheVariants as statuses
use Rattle.program_lines.specs.Printed.{summary_lines}
use Rattle.router_core.specs.Tables.{Tables}

-- What the tables count: batches, their operations and configuration changes, events, the events that archives keep, an event once for each
-- of its archives, replays, deliveries by their states, and messages in queues. Archives keep only what they retain at the moment of the last
-- batch (router_core `after_batch`). A replay that has ended is counted too.
-- Shown by: program_tests serve.rt: two_workers_serve_the_first_run; archived_events_are_not_counted.edit.
abbrev pub summary_of : Tables → Summary
summary_of t = record {
  records = t.batches;
  entries = t.entries;
  control = t.set.count;
  events = t.events;
  archived = event_count t.archives;
  replays = length t.replays;
  duties = t.duties.created;
  pending = length t.duties.pending;
  delivered = delivered_of t.duties.ended;
  dead_lettered = dead_lettered_of t.duties.ended;
  dropped = dropped_of t.duties.ended;
  messages = message_count t.duties.queues;
}

-- A first part of these bytes was written, perhaps none.
-- Shown by: program_tests serve.rt: without_its_first_line_nothing_is_served.
abbrev pub WritesPart : List ℕ → List ℕ → List ℕ → Type 0
WritesPart old new bytes = (first rest : List ℕ) × (bytes ≡ first ++ rest) × (new ≡ old ++ first)

-- The summary was written, with `Done`; a first part of it, with `WriteFault`; or nothing, with `NoMemory`.
-- Shown by: program_tests serve.rt: a_rule_of_one_connection_holds_for_the_next.
abbrev pub IsSummed : Tables → List ℕ → List ℕ → Status → Type 0
IsSummed t old new status =
    ((status ≡ statuses.Done) × (new ≡ old ++ summary_lines (summary_of t)))
    ⊎ (((status ≡ statuses.WriteFault) × WritesPart old new (summary_lines (summary_of t))) ⊎ ((status ≡ statuses.NoMemory) × (new ≡ old)))
