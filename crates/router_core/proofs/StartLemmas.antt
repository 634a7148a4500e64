-- A part that starts no replay was made on any tables: `made_on`. An operation that is an event starts none: `events_start_none`.
use Rattle.std.proofs.Common.{ℕ, List, [], ◌∷◌}
use Rattle.std.specs.Prelude.{All}
use Rattle.std.proofs.lemmas.List.Elements.{All-head, All-tail, All-weaker}
use Rattle.router_requests.specs.Batch.{Entry, control, accepted, attempt, replay_started, replay_stepped, replay_cancelled, messages_deleted}
use Rattle.router_core.specs.Tables.{Tables, after_entry}
use Rattle.router_core.specs.Admitted.{IsAnEvent}
use Rattle.router_core.specs.Ready.{AreMadeOn, IsMadeOn, IsNoStart}
use Rattle.router_core.specs.declared.ready.Part.{Part}

one_made_on : (moment : ℕ) (e : Entry) (part : Part) (t : Tables) → IsNoStart e → IsMadeOn moment t e part
one_made_on moment (control c) part t starts = tt
one_made_on moment (accepted e) part t starts = tt
one_made_on moment (attempt duty outcome) part t starts = tt
one_made_on moment (replay_started s) part t starts = absurd starts
one_made_on moment (replay_stepped s) part t starts = tt
one_made_on moment (replay_cancelled name) part t starts = tt
one_made_on moment (messages_deleted queue through) part t starts = tt

pub made_on : (moment : ℕ) (es : List Entry) (parts : List Part) (t : Tables) → All IsNoStart es → AreMadeOn moment t es parts
made_on moment [] parts t starts = tt
made_on moment (e ∷ es) [] t starts = tt
made_on moment (e ∷ es) (part ∷ parts) t starts =
    (one_made_on moment e part t (All-head IsNoStart e es starts), made_on moment es parts (after_entry moment e t) (All-tail IsNoStart e es starts))

event_starts_none : (e : Entry) → IsAnEvent e → IsNoStart e
event_starts_none (control c) event = absurd event
event_starts_none (accepted e) event = tt
event_starts_none (attempt duty outcome) event = absurd event
event_starts_none (replay_started s) event = absurd event
event_starts_none (replay_stepped s) event = absurd event
event_starts_none (replay_cancelled name) event = absurd event
event_starts_none (messages_deleted queue through) event = absurd event

pub events_start_none : (es : List Entry) → All IsAnEvent es → All IsNoStart es
events_start_none es events = All-weaker IsAnEvent IsNoStart event_starts_none es events
