-- What a caller other than the owner may write: events that the policies of their buses allow.
use Rattle.std.specs.Prelude.{ℕ, List, [], Option, Some, None, Ok, All}
use Rattle.std.specs.List.{Contains}
use Rattle.event_time.specs.Time.{IsIso}
use Rattle.event_shape.specs.Unnumbered.{Unnumbered}
use Rattle.rule_table.specs.RuleSet.{RuleSet}
use Rattle.router_requests.specs.Batch as batch
use Rattle.router_requests.specs.Request.{Action, put_events}
use Rattle.router_requests.specs.Matching.{AreKeepingFor, AreMatchedFor}
use Rattle.router_requests.specs.Verdict.{IsEntryVerdict}
use Rattle.router_requests.specs.declared.seen.SeenArchive.{SeenArchive}
use Rattle.router_requests.specs.declared.seen.SeenTarget.{SeenTarget}
use Rattle.router_requests.specs.declared.seen.SeenVerdict.TheVariants.{Allowed}
use Rattle.router_calls.specs.Accepted.{Given, IsAcceptedAs, archives_kept}

-- The accepted event is one of these entries, its bus exists, and the verdict of the bus's policy on it, for this caller on a rule set, is
-- that it is allowed. It is an event at the moment of its time, and has a duty for each target of the rules that match it there, filled at
-- the moment of the batch. It is kept by the archives that keep it there, as far as the tables' rule set still has them.
-- Shown by: tables router_calls.rows: each_change_is_answered.
pub record IsAllowedEvent (tables_set set : RuleSet) (moment : ℕ) (caller : List ℕ) (entries : List Given) (e : batch.Accepted) : Type 0 where
  pub event : Unnumbered
  pub asked : Contains entries (Ok event)
  pub verdict : IsEntryVerdict set caller (Ok event) Allowed
  pub targets : List SeenTarget
  pub matched : AreMatchedFor set event targets
  pub archives : List SeenArchive
  pub keeping : AreKeepingFor set event archives
  pub time : List ℕ
  pub is_time : IsIso moment time
  pub accepted : IsAcceptedAs set.count e.number time event targets (archives_kept tables_set archives) e

-- The entry of a batch is such an event, and no other operation.
-- Shown by: tables router_calls.rows: each_change_is_answered.
abbrev pub IsAllowedEntry : RuleSet → RuleSet → ℕ → List ℕ → List Given → batch.Entry → Type 0
IsAllowedEntry tables_set set moment caller entries (batch.accepted e) = IsAllowedEvent tables_set set moment caller entries e
IsAllowedEntry tables_set set moment caller entries (batch.control c) = ⊥
IsAllowedEntry tables_set set moment caller entries (batch.attempt duty outcome) = ⊥
IsAllowedEntry tables_set set moment caller entries (batch.replay_started s) = ⊥
IsAllowedEntry tables_set set moment caller entries (batch.replay_stepped s) = ⊥
IsAllowedEntry tables_set set moment caller entries (batch.replay_cancelled name) = ⊥
IsAllowedEntry tables_set set moment caller entries (batch.messages_deleted queue through) = ⊥

-- Nothing is written, or a batch of such entries.
-- Shown by: tables router_calls.rows: each_change_is_answered.
abbrev pub IsPublishedBy : RuleSet → RuleSet → List ℕ → List Given → Option batch.Batch → Type 0
IsPublishedBy tables_set set caller entries None = Unit {0}
IsPublishedBy tables_set set caller entries (Some b) = All (IsAllowedEntry tables_set set b.moment caller entries) b.entries

-- The entries of a PutEvents. Another action has none.
-- Shown by: tables router_calls.rows: each_change_is_answered.
abbrev pub entries_in : Action → List Given
entries_in (put_events entries size) = entries
entries_in _ = []
