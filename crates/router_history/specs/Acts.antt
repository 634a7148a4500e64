-- What a list of acts did to the history, the streams, the clock and the link.
use Rattle.std.specs.Prelude.{◌≡◌, ◌≢◌, ◌≤◌, ◌⊎◌, ℕ, true, false, List, [], ◌∷◌, ◌++◌, map, Option, Some, Result, All}
use Rattle.router_disk.specs.Link.{Exchange}
use Rattle.delivery_duties.specs.declared.outcome.Outcome.{Outcome}
use Rattle.delivery_duties.specs.declared.outcome.Outcome.TheVariants.{Accepted, NoQueue}
use Rattle.delivery_duties.specs.Duties.{NoneDue}
use Rattle.router_core.specs.Tables.{is_full, moment_at}
use Rattle.router_core.specs.Steps.{record_of}
use Rattle.router_requests.specs.Batch.{Batch}
use Rattle.router_core.specs.Replaying.{IsReplayStep}
use Rattle.replay_run.specs.Replays.{running}
use Rattle.courier_run.specs.Claim.{Claim, IsForQueue}
use Rattle.courier_run.specs.Act.{Act as ActOf, reads, ticks, looks, makes, tries, writes, pieces_in, bytes_in}
use Rattle.courier_run.specs.Link.{outside, Goes}
use Rattle.courier_run.specs.Steps.{Attempt, Why, IsUnrecorded as IsUnrecordedOf, Steps as StepsOf}
use Rattle.courier_run.specs.declared.turned.Turned.{Turned}
use Rattle.courier_run.specs.declared.stepped.Stop.{Stop}
use Rattle.step_run.specs.Act as step
use Rattle.step_run.specs.Step.{Ran}
use Rattle.step_run.specs.declared.fault.StepsFault.{StepsFault}
use Rattle.router_history.specs.declared.book.Seat.{Seat}
use Rattle.router_history.specs.History as history
use Rattle.router_history.specs.History.{State, Turn, Placed, last_version, turns_by, state_after, state_of, after_turn}

-- An act on the router's book.
-- Shown by: session_tests tests.rt: the_first_run_has_its_replies.
abbrev pub Act : Type 0
Act = ActOf Placed State

-- The outcome in the record of an attempt: the one that the attempt had, but `NoQueue` in place of `Accepted` if the queue does not exist.
-- Shown by: dead-letters.
abbrev pub IsOutcomeIn : Claim → Outcome → Outcome → Type 0
IsOutcomeIn c had recorded = (recorded ≡ had) ⊎ (IsForQueue c × (had ≡ Accepted) × (recorded ≡ NoQueue))

-- The turn claims this duty, at this moment of the clock.
-- Shown by: session_tests tests.rt: a_delivery_has_the_reading_of_its_own_step.
abbrev pub Claims : Placed → Claim → ℕ → Type 0
Claims p c moment = (p.turn.ask ≡ history.claims c) × (c.reading ≡ moment)

-- The turn records this attempt, with the outcome that the record has (`IsOutcomeIn`).
-- Shown by: recorded_without_a_send.edit.
abbrev pub Records : Placed → Attempt → Type 0
Records p a = (recorded : Outcome) × IsOutcomeIn a.claim a.outcome recorded × (p.turn.ask ≡ history.records (record a { outcome = recorded }))

-- The turn puts this claim back.
-- Shown by: put_back_without_a_reason.edit.
abbrev pub PutsBack : Placed → Claim → Why → Type 0
PutsBack p c why = p.turn.ask ≡ history.puts_back c why

-- The turn breaks the book: the record of an attempt of this claim with this outcome could not be appended, with the outcome that it would have had
-- (`IsOutcomeIn`).
-- Shown by: proofs alone.
abbrev pub Breaks : Placed → Claim → Outcome → Type 0
Breaks p c outcome = (recorded : Outcome) × IsOutcomeIn c outcome recorded
    × (p.turn.ask ≡ history.breaks (record_of (moment_at p.before.tables c.reading) c.number recorded ∷ []))

-- No unclaimed duty is due at a reading.
-- Shown by: program_tests serve.rt: a_quiet_door_lets_its_worker_deliver.
abbrev pub IsIdle : State → ℕ → Type 0
IsIdle s reading = NoneDue s.tables.duties (moment_at s.tables reading)

-- The number limit stops a claim of a duty that is due at a reading.
-- Shown by: proofs alone.
abbrev pub IsFullAt : State → ℕ → Type 0
IsFullAt s reading = (is_full s.tables ≡ true) × (¬ IsIdle s reading)

-- The book is broken, and below the number limit a duty is due at a reading.
-- Shown by: proofs alone.
abbrev pub IsBrokenAt : State → ℕ → Type 0
IsBrokenAt s reading = (s.broken ≡ true) × (is_full s.tables ≡ false) × (¬ IsIdle s reading)

-- An attempt on the router's book that has no record (`IsUnrecorded` of courier_run).
-- Shown by: as IsBrokenAt.
abbrev pub IsUnrecorded : Claim → Outcome → List Act → Stop → Type 0
IsUnrecorded = IsUnrecordedOf Claims Records PutsBack Breaks IsIdle IsFullAt IsBrokenAt

-- Delivery steps on the router's book (`Steps` of courier_run).
-- Shown by: session_tests tests.rt: a_delivery_has_the_reading_of_its_own_step.
abbrev pub Steps : ℕ → List Act → Turned → Stop → Type 0
Steps budget = StepsOf Claims Records PutsBack Breaks IsIdle IsFullAt IsBrokenAt budget

-- The turn makes the next step of the replays, at this moment of the clock.
-- Shown by: replays.
abbrev pub Repeats : Placed → ℕ → Type 0
Repeats p moment = p.turn.ask ≡ history.repeats moment

-- The turn breaks the book: the next step of the replays, at this moment of the clock, could not be appended.
-- Shown by: proofs alone.
abbrev pub BreaksRepeat : Placed → ℕ → Type 0
BreaksRepeat p moment = (b : Batch) × (p.turn.ask ≡ history.breaks (b ∷ [])) × IsReplayStep p.before.tables (moment_at p.before.tables moment) b

-- No replay is running, whatever the moment is.
-- Shown by: replays.
abbrev pub IsNoneRunning : State → ℕ → Type 0
IsNoneRunning s moment = running s.tables.replays ≡ []

-- The number limit stops the step of a replay that is running.
-- Shown by: proofs alone.
abbrev pub IsRepeatFull : State → ℕ → Type 0
IsRepeatFull s moment = (is_full s.tables ≡ true) × (running s.tables.replays ≢ [])

-- The book is broken, and below the number limit a replay is running.
-- Shown by: proofs alone.
abbrev pub IsRepeatBroken : State → ℕ → Type 0
IsRepeatBroken s moment = (s.broken ≡ true) × (is_full s.tables ≡ false) × (running s.tables.replays ≢ [])

-- An act of a run of replay steps. Beside readings, looks and turns there is none.
-- Shown by: replays.
abbrev pub StepAct : Type 0
StepAct = step.Act Placed State ⊥

-- The same as an act of a session or a worker.
-- Shown by: replays.
abbrev pub act_of : StepAct → Act
act_of (step.ticks reading) = ticks reading
act_of (step.looks state) = looks state
act_of (step.makes p) = makes p
act_of (step.does none) = absurd none

-- These acts are replay steps on the router's book within a budget, which returned this (`Ran` of step_run).
-- Shown by: replays.
pub record Repeating (budget : ℕ) (acts : List Act) (result : Result ℕ StepsFault) : Type 0 where
  pub steps : List StepAct
  pub are : acts ≡ map act_of steps
  pub ran : Ran Repeats BreaksRepeat IsNoneRunning IsRepeatFull IsRepeatBroken budget steps result

-- These turns came after a state, and among them are those that these acts of a pass made, in order. Other passes may have made turns
-- before each. A look shows the state at its place. A turn goes by a configuration version that is at least the one that the pass had seen
-- at its last turn or look.
-- Shown by: session_tests tests.rt: two_passes_go_on_from_what_the_other_did.
abbrev pub Happens : ℕ → State → List Turn → List Act → Type 0
Happens n s added [] = turns_by n added ≡ []
Happens n s added (makes p ∷ acts) = (others : List Turn) × (rest : List Turn) × (added ≡ others ++ p.turn ∷ rest) × (turns_by n others ≡ [])
    × (p.turn.pass ≡ Some n) × (p.before ≡ state_after others s) × (last_version s ≤ p.turn.k) × Happens n (after_turn p.turn p.before) rest acts
Happens n s added (looks state ∷ acts) = (others : List Turn) × (rest : List Turn) × (added ≡ others ++ rest) × (turns_by n others ≡ [])
    × (state ≡ state_after others s) × Happens n state rest acts
Happens n s added (reads piece ∷ acts) = Happens n s added acts
Happens n s added (ticks reading ∷ acts) = Happens n s added acts
Happens n s added (tries claim outcome ∷ acts) = Happens n s added acts
Happens n s added (writes bytes ∷ acts) = Happens n s added acts

-- The turn of an act, if it is one, names the connection.
-- Shown by: a_quiet_step_names_a_connection.edit.
abbrev pub IsNamed : Option ℕ → Act → Type 0
IsNamed connection (makes p) = p.turn.connection ≡ connection
IsNamed connection (looks state) = Unit {0}
IsNamed connection (reads piece) = Unit {0}
IsNamed connection (ticks reading) = Unit {0}
IsNamed connection (tries claim outcome) = Unit {0}
IsNamed connection (writes bytes) = Unit {0}

-- A history grew by turns in which these acts of the seat's pass are all that the pass made. They name the seat's connection.
-- Shown by: session_tests tests.rt: two_passes_go_on_from_what_the_other_did; a_turn_names_another_pass.edit.
pub record Makes (seat : Seat) (acts : List Act) (old new : List Turn) : Type 0 where
  pub added : List Turn
  pub turns : new ≡ old ++ added
  pub happens : Happens seat.pass (state_of old) added acts
  pub named : All (IsNamed seat.connection) acts

-- What is known around a session: the turns that its pass has seen; what the reads gave; the bytes written; the readings of the clock; the
-- exchanges of the link that had an answer; and the link's count of faults.
-- Shown by: session_tests tests.rt: the_first_run_has_its_replies.
pub record World : Type 0 where
  pub turns : List Turn
  pub gave : List (List ℕ)
  pub written : List ℕ
  pub readings : List ℕ
  pub answered : List Exchange
  pub link_faults : ℕ

-- The `World` with these parts.
-- Shown by: as World.
abbrev pub world : List Turn → List (List ℕ) → List ℕ → List ℕ → List Exchange → ℕ → World
world turns gave written readings answered link_faults = record {
  turns = turns;
  gave = gave;
  written = written;
  readings = readings;
  answered = answered;
  link_faults = link_faults;
}

-- These acts from the seat are all that happened between two worlds: the history grew by its turns (`Makes`), and each stream, the clock and
-- the link did what the acts say, and nothing else.
-- Shown by: session_tests tests.rt: the_first_run_has_its_replies.
pub record Does (seat : Seat) (acts : List Act) (old new : World) : Type 0 where
  pub makes : Makes seat acts old.turns new.turns
  pub gave : new.gave ≡ old.gave ++ pieces_in acts
  pub written : new.written ≡ old.written ++ bytes_in acts
  pub goes : Goes acts (outside old.readings old.answered old.link_faults) (outside new.readings new.answered new.link_faults)
