-- A batch that the tables admit is admitted with their claims set aside: `admitted_freed`; so it can be recorded after the batches of a history:
-- `recordable_more`.
use Rattle.std.proofs.Common.{◌≡◌, ℕ, List, [], ◌∷◌, ◌++◌, refl, ap, ◌∙◌, subst}
use Rattle.std.specs.Prelude.{◌||◌, not, ◌==◌, length}
use Rattle.std.specs.List.{list_any}
use Rattle.std.specs.Option.{option_map}
use Rattle.rule_table.specs.Control.{Control, bus_deleted, queue_deleted}
use Rattle.delivery_duties.specs.Duties.{Duties, is_for_queue, names_queue}
use Rattle.delivery_queues.specs.Queues.{messages_of}
use Rattle.router_requests.specs.Batch.{Entry, control, accepted, attempt, replay_started, replay_stepped, replay_cancelled, messages_deleted, Batch}
use Rattle.router_core.specs.Tables.{Tables, after_entry, tables_after}
use Rattle.router_core.specs.Admitted.{IsEntryAdmitted, AreAdmitted, IsAdmitted, IsUnnamed}
use Rattle.duty_journal.specs.Batch.{IsReadable}
use Rattle.duty_journal.specs.Journal.{AreRecordable}
use Rattle.duty_journal.proofs.JournalLemmas.{recordable_join}
use Rattle.router_history.specs.Folds.{without_claims}
use Rattle.router_history.proofs.FoldLemmas.{free, Rows, freed, free_duties, freed_value, entry_freed}

any_freed : (queue : List ℕ) (rows : Rows) → list_any (λ p. is_for_queue queue p.1) (freed rows) ≡ list_any (λ p. is_for_queue queue p.1) rows
any_freed queue [] = refl
any_freed queue ((n, row) ∷ rows) = ap (λ b. is_for_queue queue row || b) (any_freed queue rows)

names_freed : (queue : List ℕ) (d : Duties) → names_queue queue (free_duties d) ≡ names_queue queue d
names_freed queue d = ap (λ b. b || not (length (messages_of queue d.queues) == 0)) (any_freed queue d.pending)

unnamed_freed : (c : Control) (t : Tables) → IsUnnamed c t → IsUnnamed c (without_claims t)
unnamed_freed (queue_deleted name) t is = names_freed name t.duties ∙ is
unnamed_freed (bus_deleted name) t is = is
unnamed_freed _ t is = tt

entry_admitted : (moment : ℕ) (e : Entry) (t : Tables) → IsEntryAdmitted moment e t → IsEntryAdmitted moment e (without_claims t)
entry_admitted moment (control c) t (form, allowed, unnamed) = (form, allowed, unnamed_freed c t unnamed)
entry_admitted moment (accepted e) t is = record {
  number = is.number;
  bus = is.bus;
  known = is.known;
  time = is.time;
  text = is.text;
  archive_order = is.archive_order;
  archives = is.archives;
  few = is.few;
  short = is.short;
}
entry_admitted moment (attempt duty outcome) t is = record {
  row = free is.row;
  pending = freed_value duty t.duties.pending ∙ ap (option_map free) is.pending;
  due = is.due;
  queue = is.queue;
}
entry_admitted moment (replay_started s) t is = record {
  name = is.name;
  new = is.new;
  archive = is.archive;
  start = is.start;
  end = is.end;
  order = is.order;
  few = is.few;
  rules = is.rules;
}
entry_admitted moment (replay_stepped s) t is = record {
  row = is.row;
  runs = is.runs;
  event = is.event;
  rest = is.rest;
  next = is.next;
  number = is.number;
  few = is.few;
  short = is.short;
}
entry_admitted moment (replay_cancelled name) t is = is
entry_admitted moment (messages_deleted queue through) t is = record { there = is.there; bounded = is.bounded; some = is.some }

entries_admitted : (moment : ℕ) (es : List Entry) (t : Tables) → AreAdmitted moment es t → AreAdmitted moment es (without_claims t)
entries_admitted moment [] t are = tt
entries_admitted moment (e ∷ es) t (one, more) =
    (entry_admitted moment e t one, subst (AreAdmitted moment es) (entry_freed moment e t) (entries_admitted moment es (after_entry moment e t) more))

pub admitted_freed : (t : Tables) (b : Batch) → IsAdmitted t b → IsAdmitted (without_claims t) b
admitted_freed t b is = record {
  moment = is.moment;
  later = is.later;
  numbered = is.numbered;
  one_turn = is.one_turn;
  entries = entries_admitted b.moment b.entries t is.entries;
}

pub recordable_more : (t : Tables) (bs : List Batch) (b : Batch) → AreRecordable t bs → IsReadable b → IsAdmitted (tables_after bs t) b → AreRecordable t (bs ++ b ∷ [])
recordable_more t bs b are readable admitted = recordable_join t bs (b ∷ []) are (readable, admitted, tt)
