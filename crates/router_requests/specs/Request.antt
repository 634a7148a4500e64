-- The view of a request in contracts.
use Rattle.std.specs.Prelude.{◌≡◌, ℕ, ◌⊎◌, Bool, List, Option, Result, Ok, Err, All, IsTrue}
use Rattle.json_text.specs.Tree.{Tree}
use Rattle.event_shape.specs.Names.{owner, is_account}
use Rattle.event_shape.specs.Unnumbered.{Unnumbered}
use Rattle.event_shape.specs.declared.entry.EntryFault.{EntryFault}
use Rattle.rule_targets.specs.declared.target.AskedTarget.{AskedTarget}
use Rattle.router_requests.specs.declared.batch.StartedReplay.{StartedReplay}

-- What a request asks for: an action with its members. Each bus is given by its name. An entry of a PutEvents is an event without its
-- number, or has a fault; `size` is the number of bytes of all entries together. `put_policy` has the policy's text as it would be stored.
-- A `put_statement` allows this account, or everyone. A `remove_statement` that gives no StatementId is refused. An `update_archive` leaves
-- the pattern or the days as they are if it gives none. A `list_archives` and a `list_replays` have the text of an EventSourceArn as it was
-- given. A `start_replay` has the start as a batch would have it, and the bus that is its destination.
-- Shown by: tables api_wire.rows: a_message_has_its_first_refusal.
pub data Action : Type 0 where
  create_event_bus : (name : List ℕ) → Action
  delete_event_bus : (name : List ℕ) → Action
  describe_event_bus : (name : List ℕ) → Action
  list_event_buses : (prefix : Option (List ℕ)) → Action
  put_rule : (bus name pattern : List ℕ) (enabled : Bool) → Action
  delete_rule : (bus name : List ℕ) → Action
  put_rule_state : (bus name : List ℕ) (enabled : Bool) → Action
  describe_rule : (bus name : List ℕ) → Action
  list_rules : (bus : List ℕ) (prefix : Option (List ℕ)) → Action
  put_targets : (bus rule : List ℕ) (targets : List AskedTarget) → Action
  remove_targets : (bus rule : List ℕ) (ids : List (List ℕ)) → Action
  list_targets_by_rule : (bus rule : List ℕ) → Action
  list_rule_names_by_target : (arn bus : List ℕ) → Action
  put_policy : (bus policy : List ℕ) → Action
  put_statement : (bus sid : List ℕ) (account : Option (List ℕ)) → Action
  remove_policy : (bus : List ℕ) → Action
  remove_statement : (bus : List ℕ) (sid : Option (List ℕ)) → Action
  put_events : (entries : List (Result Unnumbered EntryFault)) (size : ℕ) → Action
  test_event_pattern : (pattern : List ℕ) (event : Tree) → Action
  create_archive : (name bus : List ℕ) (pattern : Option (List ℕ)) (days : ℕ) → Action
  update_archive : (name : List ℕ) (pattern : Option (List ℕ)) (days : Option ℕ) → Action
  delete_archive : (name : List ℕ) → Action
  describe_archive : (name : List ℕ) → Action
  list_archives : (prefix source state : Option (List ℕ)) → Action
  start_replay : (start : StartedReplay) (bus : List ℕ) → Action
  cancel_replay : (name : List ℕ) → Action
  describe_replay : (name : List ℕ) → Action
  list_replays : (prefix source state : Option (List ℕ)) → Action
  create_queue : (name : List ℕ) → Action
  delete_queue : (name : List ℕ) → Action
  peek_messages : (queue : List ℕ) (limit : ℕ) → Action
  delete_messages : (queue : List ℕ) (through : ℕ) → Action
  deliver_due : (budget : ℕ) → Action
  step_replays : (budget : ℕ) → Action
  duty_counts : Action

-- The action is done by one turn. That is every action except DeliverDue and StepReplays, whose steps are turns of their own.
-- Shown by: tables api_wire.rows: a_message_has_its_first_refusal.
abbrev pub IsOneTurn : Action → Type 0
IsOneTurn (deliver_due budget) = ⊥
IsOneTurn (step_replays budget) = ⊥
IsOneTurn _ = Unit {0}

-- the action publishes events
abbrev pub IsPublishing : Action → Type 0
IsPublishing (put_events entries size) = Unit {0}
IsPublishing _ = ⊥

-- the entry has this account: it is that of its event; a faulty entry has no event
abbrev pub IsEntryOf : List ℕ → Result Unnumbered EntryFault → Type 0
IsEntryOf account (Ok event) = event.event.account ≡ account
IsEntryOf account (Err fault) = Unit {0}

-- each entry of the action has this account
abbrev pub AreEntriesOf : List ℕ → Action → Type 0
AreEntriesOf account (put_events entries size) = All (IsEntryOf account) entries
AreEntriesOf account _ = Unit {0}

-- An action, the account that asks for it, and the clock's reading when its message was whole.
-- Shown by: tables api_wire.rows: a_request_has_what_the_message_gives.
pub record Request : Type 0 where
  pub action : Action
  pub caller : List ℕ
  pub reading : ℕ

-- The caller may make the request: it is an account, which is the owner or publishes events; and the events have the caller's account.
-- Shown by: tables api_wire.rows: a_message_has_its_first_refusal.
pub record IsEntitled (request : Request) : Type 0 where
  pub account : IsTrue (is_account request.caller)
  pub allowed : (request.caller ≡ owner) ⊎ IsPublishing request.action
  pub own : AreEntriesOf request.caller request.action
