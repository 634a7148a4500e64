-- The history: the turns of the router, oldest first. The first one opens the book; each other one is made by a pass.
use Rattle.std.specs.Prelude.{◌≡◌, ◌⊎◌, ℕ, ◌+◌, ◌-◌, ◌≤◌, false, true, ◌==◌, not, List, [], ◌∷◌, ◌++◌, length, take, Bool, Option, Some, None, IsSome, filter, flat_map}
use Rattle.event_shape.specs.Names.{IsQueueArn}
use Rattle.json_text.specs.Moment.{IsMoment}
use Rattle.router_disk.specs.declared.disk_call.DiskCall.{DiskCall}
use Rattle.turn_book.specs.Rule.{is_number}
use Rattle.rule_table.specs.Control.{Control}
use Rattle.rule_table.specs.RuleSet.{RuleSet, applied_all}
use Rattle.delivery_duties.specs.declared.duty.DutyRow.{DutyRow}
use Rattle.delivery_duties.specs.declared.outcome.Outcome.{Outcome}
use Rattle.delivery_duties.specs.declared.outcome.Outcome.TheVariants.{Accepted, Code, NoAnswer, NoQueue, TooOld}
use Rattle.delivery_queues.specs.Queues.{Queue, has_queue}
use Rattle.delivery_duties.specs.Duties.{IsNext, pending_row}
use Rattle.router_requests.specs.Request.{Request, IsOneTurn, IsEntitled}
use Rattle.router_requests.specs.Bounds.{IsBounded}
use Rattle.api_replies.specs.Reply.{Reply}
use Rattle.router_requests.specs.Batch.{Entry, control, accepted, attempt, replay_started, replay_stepped, replay_cancelled, messages_deleted, Batch}
use Rattle.router_core.specs.Tables.{Tables, first_tables, after_batch, is_full, moment_at}
use Rattle.router_core.specs.Admitted.{AreBatchesAdmitted, IsAdmitted}
use Rattle.router_core.specs.Steps.{record_of, claiming, putting_back, fate_after}
use Rattle.router_core.specs.Replaying.{IsReplayStep}
use Rattle.router_calls.specs.Answer.{IsAnswer}
use Rattle.courier_run.specs.Claim.{Claim, IsTooOld, NeedsSend, IsSuccess}
use Rattle.courier_run.specs.Steps.{Attempt, Why, unsent, limited, unkept}

-- The disk of a journal, as it was when the book was opened: the number of faults that it had counted, and its calls.
-- Shown by: proofs alone.
pub record OpenedDisk : Type 0 where
  pub faults : ℕ
  pub calls : List DiskCall

-- What a turn was made for: to open the book with these tables, on which these batches were found, and with this disk, if there is a journal; a request; a claim of the next due duty; the record of how a claimed duty's attempt ended; a claim that is
-- put back; the next step of the replays, at this reading of the clock; to break the book (the mark), since appending these batches failed.
-- Shown by: a_step_is_recorded_twice.edit.
pub data Ask : Type 0 where
  opens : (start : Tables) (found : List Batch) (disk : Option OpenedDisk) → Ask
  asked : Request → Ask
  claims : Claim → Ask
  records : Attempt → Ask
  puts_back : Claim → Why → Ask
  repeats : (reading : ℕ) → Ask
  breaks : (unacknowledged : List Batch) → Ask

-- The pass that made the turn (none opens the book), the connection that it served, if any, its ask, the configuration version by which it
-- went, and the batch that it wrote, if any.
-- Shown by: a_turn_names_another_pass.edit; a_quiet_step_names_a_connection.edit.
pub record Turn : Type 0 where
  pub pass : Option ℕ
  pub connection : Option ℕ
  pub ask : Ask
  pub k : ℕ
  pub batch : Option Batch

-- A claim that has not ended, and the pass that made it.
-- Shown by: session_tests tests.rt: a_delivery_has_the_reading_of_its_own_step.
pub record OpenClaim : Type 0 where
  pub pass : ℕ
  pub claim : Claim

-- The rule set with which the book was opened, the tables, the changes of the configuration since it was opened, oldest first, the open claims,
-- the journal's disk as it was when the book was opened, if there is a journal, and whether the book is broken.
-- Shown by: first-run; a_step_is_recorded_twice.edit.
pub record State : Type 0 where
  pub start : RuleSet
  pub tables : Tables
  pub controls : List Control
  pub open_claims : List OpenClaim
  pub disk : Option OpenedDisk
  pub broken : Bool

-- The number of the latest configuration version: all changes that ever were, those before the start too.
-- Shown by: the_old_board_stays.edit.
abbrev pub last_version : State → ℕ
last_version s = s.start.count + length s.controls

-- The rule set of a configuration version, which is not before the start: the start's, and the first changes since.
-- Shown by: the_old_board_stays.edit.
abbrev pub set_of_version : ℕ → State → RuleSet
set_of_version k s = applied_all (take (k - s.start.count) s.controls) s.start

-- The configuration changes among operations.
-- Shown by: first-run.
abbrev pub controls_in : List Entry → List Control
controls_in [] = []
controls_in (control c ∷ es) = c ∷ controls_in es
controls_in (accepted e ∷ es) = controls_in es
controls_in (attempt duty outcome ∷ es) = controls_in es
controls_in (replay_started s ∷ es) = controls_in es
controls_in (replay_stepped s ∷ es) = controls_in es
controls_in (replay_cancelled name ∷ es) = controls_in es
controls_in (messages_deleted queue through ∷ es) = controls_in es

-- The state after a batch.
-- Shown by: the_batch_is_not_entered.edit.
abbrev pub after_written : Batch → State → State
after_written b s = record s { tables = after_batch b s.tables; controls = s.controls ++ controls_in b.entries }

-- The state after batches, in order.
-- Shown by: the_batch_is_not_entered.edit.
abbrev pub after_all : List Batch → State → State
after_all [] s = s
after_all (b ∷ bs) s = after_all bs (after_written b s)

-- The state after a turn's batch, or the same state if it wrote none.
-- Shown by: the_batch_is_not_entered.edit.
abbrev pub after_change : Option Batch → State → State
after_change None s = s
after_change (Some b) s = after_written b s

-- The state of a start, with this journal's disk, before any batch.
-- Shown by: first-run.
abbrev pub begun_with : Option OpenedDisk → Tables → State
begun_with disk start = record { start = start.set; tables = start; controls = []; open_claims = []; disk = disk; broken = false }

-- The same without a journal.
-- Shown by: first-run.
abbrev pub begun : Tables → State
begun start = begun_with None start

-- The open claims of a pass.
-- Shown by: proofs alone.
abbrev pub claims_of : ℕ → List OpenClaim → List OpenClaim
claims_of n all = filter (λ o. o.pass == n) all

-- The open claims without those of a pass, if there is one.
-- Shown by: proofs alone.
abbrev pub without_pass : Option ℕ → List OpenClaim → List OpenClaim
without_pass None all = all
without_pass (Some n) all = filter (λ o. not (o.pass == n)) all

-- The open claims with one more, if a pass made it.
-- Shown by: proofs alone.
abbrev pub with_claim : Option ℕ → Claim → List OpenClaim → List OpenClaim
with_claim None c all = all
with_claim (Some n) c all = record { pass = n; claim = c } ∷ all

-- The state after a turn, by what it was made for. A record or a put-back ends the claim of its pass.
-- Shown by: first-run.
abbrev pub after_ask : Turn → Ask → State → State
after_ask turn (opens start found disk) s = after_all found (begun_with disk start)
after_ask turn (asked request) s = after_change turn.batch s
after_ask turn (claims c) s = record s { tables = claiming c.number s.tables; open_claims = with_claim turn.pass c s.open_claims }
after_ask turn (records a) s = record (after_change turn.batch s) { open_claims = without_pass turn.pass s.open_claims }
after_ask turn (puts_back c why) s = record s { tables = putting_back c.number s.tables; open_claims = without_pass turn.pass s.open_claims }
after_ask turn (repeats reading) s = after_change turn.batch s
after_ask turn (breaks bs) s = record s { broken = true }

-- The state after a turn.
-- Shown by: first-run.
abbrev pub after_turn : Turn → State → State
after_turn turn s = after_ask turn turn.ask s

-- The state after turns, oldest first.
-- Shown by: first-run.
abbrev pub state_after : List Turn → State → State
state_after [] s = s
state_after (turn ∷ turns) s = state_after turns (after_turn turn s)

-- The state after a history.
-- Shown by: first-run.
abbrev pub state_of : List Turn → State
state_of turns = state_after turns (begun first_tables)

-- The claim of the duty of a row, made at this reading, in a turn with this moment.
-- Shown by: program_tests program.rt: an_endpoint_is_sent_the_event_once.
abbrev pub claim_of : ℕ → ℕ → DutyRow → Claim
claim_of reading moment row = record {
  number = row.number;
  endpoint = row.duty.target.endpoint;
  text = row.duty.text;
  accepted = row.accepted;
  age = row.duty.target.age;
  reading = reading;
  moment = moment;
}

-- A request that one turn answers: within its bounds, one that its caller may make, at a reading that is a moment.
-- Shown by: callers.
pub record IsAskable (request : Request) : Type 0 where
  pub bounded : IsBounded request.action
  pub entitled : IsEntitled request
  pub one_turn : IsOneTurn request.action
  pub reading : IsMoment request.reading

-- A turn answers a request with a reply, by `IsAnswer` on the rule set of the turn's configuration version.
-- Shown by: first-run.
pub record IsAnsweredBy (s : State) (turn : Turn) (request : Request) (reply : Reply) : Type 0 where
  pub askable : IsAskable request
  pub since : s.start.count ≤ turn.k
  pub known : turn.k ≤ last_version s
  pub answer : IsAnswer s.tables request turn.k (set_of_version turn.k s) (record { batch = turn.batch; reply = reply })

-- By this configuration version the request is answered by a turn that writes this batch.
-- Shown by: proofs alone.
abbrev pub WouldWrite : State → ℕ → Request → Batch → Type 0
WouldWrite s k request b = (turn : Turn) × (reply : Reply) × (turn.k ≡ k) × (turn.batch ≡ Some b) × IsAnsweredBy s turn request reply

-- The turn goes by the latest configuration version.
-- Shown by: the_old_board_stays.edit.
abbrev pub IsLatest : State → Turn → Type 0
IsLatest s turn = turn.k ≡ last_version s

-- A pass that has no open claim claims the duty that is due first, below the number limit, if the book is not broken. Nothing is written.
-- Shown by: proofs alone.
pub record IsClaimBy (s : State) (turn : Turn) (c : Claim) : Type 0 where
  pub pass : ℕ
  pub by : turn.pass ≡ Some pass
  pub first : claims_of pass s.open_claims ≡ []
  pub latest : IsLatest s turn
  pub unwritten : turn.batch ≡ None
  pub numbered : is_full s.tables ≡ false
  pub unbroken : s.broken ≡ false
  pub reading : IsMoment c.reading
  pub next : IsNext s.tables.duties (moment_at s.tables c.reading) c.number
  pub row : DutyRow
  pub there : pending_row c.number s.tables.duties ≡ Some row
  pub claim : c ≡ claim_of c.reading (moment_at s.tables c.reading) row

-- The turn ends the open claim of its own pass.
-- Shown by: proofs alone.
pub record EndsClaim (s : State) (turn : Turn) (c : Claim) : Type 0 where
  pub pass : ℕ
  pub by : turn.pass ≡ Some pass
  pub own : claims_of pass s.open_claims ≡ record { pass = pass; claim = c } ∷ []
  pub latest : IsLatest s turn

-- The outcome that the record of an attempt may have: above its age; its queue exists, or does not; its endpoint, which is no queue's ARN,
-- accepted the text, answered with a code that is no success, or gave no answer.
-- Shown by: dead-letters.
pub data IsOutcome (queues : List Queue) (c : Claim) : Outcome → Type 0 where
  above_age : IsTooOld c → IsOutcome queues c TooOld
  queued : ¬ IsTooOld c → (queue : List ℕ) → IsQueueArn c.endpoint queue → has_queue queue queues ≡ true → IsOutcome queues c Accepted
  queue_missing : ¬ IsTooOld c → (queue : List ℕ) → IsQueueArn c.endpoint queue → has_queue queue queues ≡ false → IsOutcome queues c NoQueue
  sent : NeedsSend c → IsOutcome queues c Accepted
  answered : NeedsSend c → (code : ℕ) → ¬ IsSuccess code → IsOutcome queues c (Code code)
  unanswered : NeedsSend c → IsOutcome queues c NoAnswer

-- The turn records the attempt of its pass's claim, below the number limit, if the book is not broken. The duty's fate follows.
-- Shown by: first-run.
pub record IsRecordBy (s : State) (turn : Turn) (a : Attempt) : Type 0 where
  pub ends : EndsClaim s turn a.claim
  pub numbered : is_full s.tables ≡ false
  pub unbroken : s.broken ≡ false
  pub fits : IsOutcome s.tables.duties.queues a.claim a.outcome
  pub row : DutyRow
  pub there : pending_row a.claim.number s.tables.duties ≡ Some row
  pub fate : a.fate ≡ fate_after s.tables.duties.queues (moment_at s.tables a.claim.reading) row a.outcome
  pub written : turn.batch ≡ Some (record_of (moment_at s.tables a.claim.reading) a.claim.number a.outcome)

-- The turn makes the next step of the replays (router_core `IsReplayStep`) by the latest configuration version, below the number limit, if the
-- book is not broken: of the replays that are running, the one that started first repeats its next event. The step is all that it writes.
-- Shown by: replays.
pub record IsRepeatBy (s : State) (turn : Turn) (reading : ℕ) : Type 0 where
  pub by : IsSome turn.pass
  pub latest : IsLatest s turn
  pub numbered : is_full s.tables ≡ false
  pub unbroken : s.broken ≡ false
  pub at : IsMoment reading
  pub batch : Batch
  pub step : IsReplayStep s.tables (moment_at s.tables reading) batch
  pub written : turn.batch ≡ Some batch

-- Why a claim may be put back: it needs a send, of which nothing was sent; the number limit is reached; or below it the book is broken.
-- Shown by: put_back_without_a_reason.edit.
abbrev pub IsReason : State → Claim → Why → Type 0
IsReason s c unsent = NeedsSend c
IsReason s c limited = is_full s.tables ≡ true
IsReason s c unkept = (s.broken ≡ true) × (is_full s.tables ≡ false)

-- The turn breaks the book, which has a journal and is not broken yet, below the number limit. The batches whose append failed are admitted, so whatever the journal has
-- of them can be opened. The turn writes nothing.
-- Shown by: proofs alone.
pub record IsBreak (s : State) (turn : Turn) (unacknowledged : List Batch) : Type 0 where
  pub by : IsSome turn.pass
  pub latest : IsLatest s turn
  pub unwritten : turn.batch ≡ None
  pub journal : IsSome s.disk
  pub unbroken : s.broken ≡ false
  pub numbered : is_full s.tables ≡ false
  pub lawful : AreBatchesAdmitted s.tables unacknowledged

-- A turn that may be made in a state, by what it was made for. Only the first turn of a history opens. A turn for a request names a
-- connection, and writes nothing on a broken book.
-- Shown by: a_quiet_step_names_a_connection.edit.
abbrev pub IsTurnFor : State → Turn → Ask → Type 0
IsTurnFor s turn (opens start found disk) = ⊥
IsTurnFor s turn (asked request) =
    IsSome turn.pass × IsSome turn.connection × ((reply : Reply) × IsAnsweredBy s turn request reply) × (s.broken ≡ true → turn.batch ≡ None)
IsTurnFor s turn (claims c) = IsClaimBy s turn c
IsTurnFor s turn (records a) = IsRecordBy s turn a
IsTurnFor s turn (puts_back c why) = (turn.batch ≡ None) × EndsClaim s turn c × IsReason s c why
IsTurnFor s turn (repeats reading) = IsRepeatBy s turn reading
IsTurnFor s turn (breaks bs) = IsBreak s turn bs

-- The turn breaks the book.
-- Shown by: law the_mark_breaks.
abbrev pub IsMark : Turn → Type 0
IsMark turn = (unacknowledged : List Batch) × (turn.ask ≡ breaks unacknowledged)

-- One of these turns breaks the book.
-- Shown by: law the_mark_breaks.
abbrev pub HasMark : List Turn → Type 0
HasMark [] = ⊥
HasMark (turn ∷ turns) = IsMark turn ⊎ HasMark turns

-- The batch that is written, if there is one, is admitted by these tables.
-- Shown by: law batches_are_admitted.
abbrev pub IsWriteAdmitted : Tables → Option Batch → Type 0
IsWriteAdmitted t None = Unit {0}
IsWriteAdmitted t (Some b) = IsAdmitted t b

-- A turn that may be made in a state, by what it was made for. What it writes is admitted there.
-- Shown by: as IsTurnFor.
pub record IsTurnOf (s : State) (turn : Turn) : Type 0 where
  pub made_for : IsTurnFor s turn turn.ask
  pub admitted : IsWriteAdmitted s.tables turn.batch

-- The turn opens a book: no pass made it, it goes by the version of its tables, and it writes nothing. Without a journal nothing was found.
-- Shown by: proofs alone.
pub record IsOpening (turn : Turn) : Type 0 where
  pub start : Tables
  pub found : List Batch
  pub disk : Option OpenedDisk
  pub ask : turn.ask ≡ opens start found disk
  pub lawful : AreBatchesAdmitted start found
  pub none_found : disk ≡ None → found ≡ []
  pub no_pass : turn.pass ≡ None
  pub no_connection : turn.connection ≡ None
  pub k : turn.k ≡ start.set.count
  pub unwritten : turn.batch ≡ None

-- Each turn may be made in the state that the turns before it left.
-- Shown by: proofs alone.
abbrev pub AreTurnsFrom : State → List Turn → Type 0
AreTurnsFrom s [] = Unit {0}
AreTurnsFrom s (turn ∷ turns) = IsTurnOf s turn × AreTurnsFrom (after_turn turn s) turns

-- A legal history: it begins with the turn that opens the book.
-- Shown by: proofs alone.
abbrev pub IsLegal : List Turn → Type 0
IsLegal [] = ⊥
IsLegal (turn ∷ turns) = IsOpening turn × AreTurnsFrom (after_turn turn (begun first_tables)) turns

-- A turn, and the state before it.
-- Shown by: first-run.
pub record Placed : Type 0 where
  pub before : State
  pub turn : Turn

-- The turns that a pass made.
-- Shown by: a_turn_names_another_pass.edit.
abbrev pub turns_by : ℕ → List Turn → List Turn
turns_by n turns = filter (λ t. is_number t.pass n) turns

-- These batches, with one before them if there is one.
-- Shown by: proofs alone.
abbrev pub with_written : Option Batch → List Batch → List Batch
with_written None batches = batches
with_written (Some b) batches = b ∷ batches

-- The batches that the turn found, if it opens a book.
-- Shown by: proofs alone.
abbrev pub found_by : Ask → List Batch
found_by (opens start found disk) = found
found_by (asked request) = []
found_by (claims c) = []
found_by (records a) = []
found_by (puts_back c why) = []
found_by (repeats reading) = []
found_by (breaks bs) = []

-- The batches that turns wrote, in order. Those that a turn found when it opened the book come in its place.
-- Shown by: proofs alone.
abbrev pub batches_of : List Turn → List Batch
batches_of [] = []
batches_of (turn ∷ turns) = found_by turn.ask ++ with_written turn.batch (batches_of turns)

-- The batches whose append failed when the book broke, if it did. The next opening may find them.
-- Shown by: proofs alone.
abbrev pub unacknowledged_by : Ask → List Batch
unacknowledged_by (opens start found disk) = []
unacknowledged_by (asked request) = []
unacknowledged_by (claims c) = []
unacknowledged_by (records a) = []
unacknowledged_by (puts_back c why) = []
unacknowledged_by (repeats reading) = []
unacknowledged_by (breaks bs) = bs

abbrev pub unacknowledged_of : List Turn → List Batch
unacknowledged_of turns = flat_map (λ turn. unacknowledged_by turn.ask) turns
