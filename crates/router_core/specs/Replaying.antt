-- The steps of replays: which event is repeated next, the duties that a step makes of it, and what the steps of a replay repeat in all.
use Rattle.std.specs.Prelude.{◌≡◌, ℕ, Bool, true, if◌then◌else◌, List, [], ◌∷◌, ◌++◌, filter, flat_map, Option, Some, None}
use Rattle.std.specs.List.{list_any}
use Rattle.std.specs.Str.{bytes_eq}
use Rattle.json_text.specs.Tree.{Tree}
use Rattle.event_time.specs.Time.{IsIso}
use Rattle.event_shape.specs.Event.{Event, IsEventText, event_tree}
use Rattle.name_rows.specs.Rows.{named}
use Rattle.archive_keep.specs.declared.event_ref.KeptEvent.{KeptEvent}
use Rattle.archive_keep.specs.Archive.{Archive}
use Rattle.archive_keep.specs.Archives.{name_of}
use Rattle.replay_run.specs.declared.settings.ReplaySettings.{ReplaySettings}
use Rattle.replay_run.specs.declared.row.ReplayRow.{ReplayRow}
use Rattle.replay_run.specs.declared.state.ReplayState.TheVariants.{Completed}
use Rattle.replay_run.specs.Selection.{selection_of}
use Rattle.replay_run.specs.Replay.{replay_state}
use Rattle.replay_run.specs.Replays.{found, running}
use Rattle.replay_run.specs.Replays as replays
use Rattle.rule_table.specs.RuleSet.{Rule, RuleSet, rules_of}
use Rattle.delivery_duties.specs.declared.duty.NewDuty.{NewDuty}
use Rattle.router_requests.specs.declared.batch.StartedReplay.{StartedReplay}
use Rattle.router_requests.specs.declared.seen.SeenTarget.{SeenTarget}
use Rattle.router_core.specs.declared.ready.Ready.{Ready}
use Rattle.router_requests.specs.Batch.{Entry, Stepped, replay_started, replay_stepped, Batch}
use Rattle.router_requests.specs.View.{batch_of}
use Rattle.router_core.specs.Ready.{ArePartsOf}
use Rattle.router_core.specs.Tables.{Tables, first_tables, tables_after}
use Rattle.router_requests.specs.Matching.{AreMatched}
use Rattle.router_requests.specs.Duties.{AreDuties}

-- A replay with this filter repeats events for the rule of this name: it has no filter, or the filter has the name.
-- Shown by: proofs alone.
abbrev pub passes : Option (List (List ℕ)) → List ℕ → Bool
passes None name = true
passes (Some names) name = list_any (bytes_eq name) names

-- The rules that see the events of a replay: those of its bus that pass its filter.
-- Shown by: proofs alone.
abbrev pub rules_for : ReplaySettings → RuleSet → List Rule
rules_for settings set = filter (λ rule. passes settings.rules rule.name) (rules_of settings.bus set)

-- The event that is repeated next, the bus to which it goes, and the name of its replay: of those that are running, the one that started first.
-- Shown by: proofs alone.
pub record IsNextReplayed (t : Tables) (bus : List ℕ) (event : Event) (name : List ℕ) : Type 0 where
  pub row : ReplayRow
  pub others : List ReplayRow
  pub first : running t.replays ≡ row ∷ others
  pub own : found (replays.name_of row) t.replays ≡ Some row
  pub kept : KeptEvent
  pub rest : List KeptEvent
  pub left : row.replay.left ≡ kept ∷ rest
  pub text : IsEventText kept.text event
  pub bus_is : bus ≡ row.settings.bus
  pub name_is : name ≡ replays.name_of row

-- The batch is the next step of the replays, at this moment. It has a duty for each target of the rules of the replay's bus, in the tables'
-- own rule set, that match the event with `replay-name` as its last member, and that pass the replay's filter.
-- Shown by: proofs alone.
pub record IsReplayStep (t : Tables) (moment : ℕ) (b : Batch) : Type 0 where
  pub bus : List ℕ
  pub event : Event
  pub name : List ℕ
  pub next : IsNextReplayed t bus event name
  pub targets : List SeenTarget
  pub matched : AreMatched (rules_for next.row.settings t.set) (event_tree event (Some name)) targets
  pub time : List ℕ
  pub is_time : IsIso moment time
  pub duties : List NewDuty
  pub owed : AreDuties (event_tree event (Some name)) time targets duties
  pub is : b ≡ record { moment = moment; entries = replay_stepped (record { name = name; event = next.kept.number; duties = duties }) ∷ [] }

-- The number of the event that the operation repeats, if it is a step of the replay of this name.
-- Shown by: law a_replay_repeats_a_front_of_its_selection.
abbrev pub repeated_by : List ℕ → Entry → List ℕ
repeated_by name (replay_stepped s) = if bytes_eq s.name name then s.event ∷ [] else []
repeated_by name entry = []

-- The numbers of the events that steps of the replay of this name repeat, in order.
-- Shown by: law a_replay_repeats_a_front_of_its_selection.
abbrev pub repeated_in : List ℕ → List Batch → List ℕ
repeated_in name batches = flat_map (λ b. flat_map (repeated_by name) b.entries) batches

-- One of the batches is this start of a replay, and the selection is that of its archive as it was before the start, from the first tables on.
-- Shown by: law a_replay_repeats_a_front_of_its_selection.
pub record IsStartIn (batches : List Batch) (s : StartedReplay) (selection : List KeptEvent) : Type 0 where
  pub before : List Batch
  pub batch : Batch
  pub after : List Batch
  pub are : batches ≡ before ++ batch ∷ after
  pub starts : batch.entries ≡ replay_started s ∷ []
  pub archive : Archive
  pub kept : named name_of s.archive (tables_after before first_tables).archives ≡ Some archive
  pub is : selection ≡ selection_of s.range batch.moment archive

-- The replay of this name is completed.
-- Shown by: law a_replay_repeats_a_front_of_its_selection.
abbrev pub IsCompleted : List ℕ → Tables → Type 0
IsCompleted name t = (row : ReplayRow) × (found name t.replays ≡ Some row) × (replay_state row.replay ≡ Completed)

-- for private clauses: the batch of this step alone, with its part
pub record IsOneStep (moment : ℕ) (s : Stepped) (r : Ready) : Type 0 where
  pub batch : batch_of r.batch ≡ record { moment = moment; entries = replay_stepped s ∷ [] }
  pub prepared : (set : RuleSet) → ArePartsOf r.batch.moment set (batch_of r.batch).entries r.parts.items

-- for private clauses: the replay is the first one that runs, and the event is its next one
pub record IsNextOf (t : Tables) (row : ReplayRow) (kept : KeptEvent) : Type 0 where
  pub others : List ReplayRow
  pub first : running t.replays ≡ row ∷ others
  pub own : found (replays.name_of row) t.replays ≡ Some row
  pub rest : List KeptEvent
  pub left : row.replay.left ≡ kept ∷ rest
