-- Replays: their states, and what steps and a cancellation make of them. The states are those of EventBridge's replays that occur here.
use Rattle.std.specs.Prelude.{◌≡◌, ℕ, ◌+◌, ◌<◌, ◌==◌, Bool, true, false, if◌then◌else◌, List, [], ◌∷◌, ◌++◌, length, Option, Some, None}
use Rattle.archive_keep.specs.declared.event_ref.KeptEvent.{KeptEvent}
use Rattle.replay_run.specs.declared.state.ReplayState.{ReplayState}
use Rattle.replay_run.specs.declared.state.ReplayState.TheVariants.{Running, Completed, Cancelled}

-- A replay: the events that are left, in order; how many were selected, and how many of them repeated; the time of the last one repeated;
-- and whether it was cancelled.
-- Shown by: archive_tests test_replay_run.rt: replays_repeat_their_selections.
pub record Replay : Type 0 where
  pub left : List KeptEvent
  pub selected : ℕ
  pub repeated : ℕ
  pub last : Option ℕ
  pub cancelled : Bool

-- A replay at its start.
-- Shown by: archive_tests test_replay_run.rt: replays_repeat_their_selections.
abbrev pub new_replay : List KeptEvent → Replay
new_replay selection = record { left = selection; selected = length selection; repeated = 0; last = None; cancelled = false }

-- `Cancelled` after a cancellation; else `Completed` if all that was selected was repeated, at once if nothing was; else `Running`.
-- Shown by: archive_tests test_replay_run.rt: replays_repeat_their_selections.
abbrev pub replay_state : Replay → ReplayState
replay_state r = if r.cancelled then Cancelled else (if r.repeated == r.selected then Completed else Running)

-- the replay after it repeated this event, with these left
abbrev pub after_event : KeptEvent → List KeptEvent → Replay → Replay
after_event e rest r = record r { left = rest; repeated = r.repeated + 1; last = Some e.time }

abbrev pub advanced_by : List KeptEvent → Replay → Replay
advanced_by [] r = r
advanced_by (e ∷ es) r = after_event e es r

-- The replay after its next event; unchanged if none is left.
-- Shown by: archive_tests test_replay_run.rt: replays_repeat_their_selections.
abbrev pub advanced : Replay → Replay
advanced r = advanced_by r.left r

-- The replay after a cancellation.
-- Shown by: archive_tests test_replay_run.rt: replays_repeat_their_selections.
abbrev pub after_cancellation : Replay → Replay
after_cancellation r = record r { left = []; cancelled = true }

-- What is done with a replay: its next event is repeated, or it is cancelled.
-- Shown by: law steps_are_a_front_of_the_selection.
pub data ReplayAct : Type 0 where
  repeats : ReplayAct
  cancels : ReplayAct

-- the replay after an act in this state: nothing changes unless it is running
abbrev pub after_act_in : ReplayState → ReplayAct → Replay → Replay
after_act_in Running repeats r = advanced r
after_act_in Running cancels r = after_cancellation r
after_act_in Completed act r = r
after_act_in Cancelled act r = r

abbrev pub after_act : ReplayAct → Replay → Replay
after_act act r = after_act_in (replay_state r) act r

-- The replay after acts.
-- Shown by: law steps_are_a_front_of_the_selection.
abbrev pub after_acts : List ReplayAct → Replay → Replay
after_acts [] r = r
after_acts (act ∷ acts) r = after_acts acts (after_act act r)

-- the first of these events, if there is one
abbrev pub first_of_these : List KeptEvent → List KeptEvent
first_of_these [] = []
first_of_these (e ∷ es) = e ∷ []

-- the event that an act repeats, in this state
abbrev pub event_of_in : ReplayState → ReplayAct → Replay → List KeptEvent
event_of_in Running repeats r = first_of_these r.left
event_of_in Running cancels r = []
event_of_in Completed act r = []
event_of_in Cancelled act r = []

-- The events that acts repeat, in order.
-- Shown by: law steps_are_a_front_of_the_selection.
abbrev pub events_in : List ReplayAct → Replay → List KeptEvent
events_in [] r = []
events_in (act ∷ acts) r = event_of_in (replay_state r) act r ++ events_in acts (after_act act r)

-- for private clauses: unless it was cancelled, a replay has left what it has not repeated; it is cancelled before it is completed, and has
-- nothing left then
abbrev pub IsSoundIf : Bool → Replay → Type 0
IsSoundIf true r = (r.left ≡ []) × (r.repeated < r.selected)
IsSoundIf false r = length r.left + r.repeated ≡ r.selected

abbrev pub IsSound : Replay → Type 0
IsSound r = IsSoundIf r.cancelled r
