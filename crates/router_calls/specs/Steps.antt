-- For private clauses: what was seen of an action, what is decided of it, and what one entry or target, or several, add to what was read
-- before them.
use Rattle.std.specs.Prelude.{◌≡◌, ℕ, ◌+◌, ◌≤◌, List, [], ◌∷◌, ◌++◌, length, map, Option, None, Result, Ok, Err, All, IsTrue, codes, nat_lt, false}
use Rattle.json_text.specs.Tree.{Tree}
use Rattle.json_text.specs.Limits.{most_together}
use Rattle.json_text.specs.View.{trees_of}
use Rattle.event_time.specs.Time.{IsIso}
use Rattle.event_shape.specs.Names.{is_account}
use Rattle.name_rows.specs.Rows.{named}
use Rattle.rule_targets.specs.declared.target.AskedTarget.{AskedTarget}
use Rattle.rule_targets.specs.declared.target.Target.{Target}
use Rattle.rule_table.specs.RuleSet.{RuleSet}
use Rattle.rule_table.specs.Sound.{IsSound}
use Rattle.rule_table.specs.Refusal.{target_fault}
use Rattle.api_replies.specs.declared.cause.Cause.{Cause}
use Rattle.router_requests.specs.Batch as batch
use Rattle.router_requests.specs.Request.{Action, put_events, put_statement, remove_statement}
use Rattle.router_core.specs.Tables.{Tables}
use Rattle.router_core.specs.Admitted.{AreAdmitted, IsAnEvent}
use Rattle.router_requests.specs.View.{accepted_of, entry_of}
use Rattle.router_requests.specs.Matching.{AreSeenEntries, IsSeenResult}
use Rattle.router_core.specs.Ready.{IsPartOf, ArePartsOf, AreMadeOn}
use Rattle.router_requests.specs.declared.batch.AcceptedEvent.{AcceptedEvent}
use Rattle.router_requests.specs.declared.batch.Entry.TheVariants as entry
use Rattle.router_core.specs.declared.ready.Part.{Part}
use Rattle.router_requests.specs.declared.seen.Seen.{Seen}
use Rattle.router_requests.specs.declared.seen.SeenEntry.{SeenEntry}
use Rattle.router_calls.specs.Accepted.{Given, Found, Placed, ArePlaced, entries_seen, events_in, failures_in}
use Rattle.router_calls.specs.Permission.{IsPolicyThere}
use Rattle.router_calls.specs.Targets.{having, accepted_first, failed_first, accepted_targets, failed_targets}
use Rattle.call_replies.specs.Replies.{target_report, items_reply}
use Rattle.resource_calls.specs.Decision.{Decided}
use Rattle.router_calls.specs.Answer.{decided, entry_report, on_bus, publication, statement_put, statement_removed}
use Rattle.router_calls.specs.declared.put_events.PlacedEntries.{PlacedEntries}
use Rattle.router_calls.specs.declared.put_targets.SplitTargets.{SplitTargets}

-- the result of matching an action of this caller on a rule set that the tables have had
pub record IsSeenOn (t : Tables) (set : RuleSet) (caller : List ℕ) (action : Action) (seen : Seen) : Type 0 where
  pub sound : IsSound set
  pub version : seen.k ≡ set.count
  pub known : set.count ≤ t.set.count
  pub result : IsSeenResult set caller action seen.result

-- what is decided by the policy of the bus of this name, if the bus is there
abbrev pub IsByPolicy : RuleSet → List ℕ → (Option Tree → Decided) → Decided → Type 0
IsByPolicy set bus decide d =
    (policy : Option Tree) × IsPolicyThere (named (λ b. b.name) bus set.buses) policy × (d ≡ on_bus set bus (decide policy))

-- what is decided of entries, filled at a moment
abbrev pub IsPublication : Tables → ℕ → ℕ → List Given → List Found → ℕ → Decided → Type 0
IsPublication t k moment entries found size d =
    (time : List ℕ) → IsIso moment time → (placed : List Placed)
    × (nat_lt most_together size ≡ false → ArePlaced k (t.events + 1) time entries found placed)
    × (d ≡ publication placed size)

-- what is decided of an action at a moment by what was seen of it
abbrev pub IsDecidedAs : Tables → ℕ → Seen → Action → Decided → Type 0
IsDecidedAs t moment seen (put_events entries size) d = IsPublication t seen.k moment entries (entries_seen t.set seen.result) size d
IsDecidedAs t moment seen (put_statement bus sid account) d = IsByPolicy t.set bus (statement_put t.set bus sid account) d
IsDecidedAs t moment seen (remove_statement bus sid) d = IsByPolicy t.set bus (statement_removed t.set bus sid) d
IsDecidedAs t moment seen action d = d ≡ decided t moment seen.result [] None action

-- the results of matching entries of this caller, on configuration version k, which the tables have had
pub record AreSeenOn (t : Tables) (set : RuleSet) (caller : List ℕ) (entries : List Given) (k : ℕ) (all : List SeenEntry) : Type 0 where
  pub sound : IsSound set
  pub version : k ≡ set.count
  pub known : set.count ≤ t.set.count
  pub found : AreSeenEntries set caller entries all

-- what became of an entry
abbrev pub placed_of : Result AcceptedEvent Cause → Placed
placed_of (Ok e) = Ok (accepted_of e)
placed_of (Err c) = Err c

-- the event of the entry, if it is one, has the account of a caller
abbrev pub HasAccount : Given → Type 0
HasAccount (Ok event) = IsTrue (is_account event.event.account)
HasAccount (Err fault) = Unit {0}

-- the events of a PutEvents have accounts of callers
abbrev pub HaveAccounts : Action → Type 0
HaveAccounts (put_events entries size) = All HasAccount entries
HaveAccounts action = Unit {0}

-- entries that became this add events with their parts, and reports
pub record Adds (moment : ℕ) (all : List Placed) (old new : PlacedEntries) : Type 0 where
  pub events : map entry_of new.entries.items ≡ map entry_of old.entries.items ++ map batch.accepted (events_in all)
  pub parts : (s : RuleSet) → ArePartsOf moment s (map entry_of old.entries.items) old.parts.items
      → ArePartsOf moment s (map entry_of new.entries.items) new.parts.items
  pub reports : trees_of new.reports.items ≡ trees_of old.reports.items ++ map entry_report all
  pub failed : new.failed ≡ old.failed + failures_in all

-- the entries, of which the first event gets the number n, add what they became to a batch of this moment
pub record Places (k n moment : ℕ) (time : List ℕ) (entries : List Given) (found : List Found) (old new : PlacedEntries) : Type 0 where
  pub all : List Placed
  pub are : ArePlaced k n time entries found all
  pub adds : Adds moment all old new

-- what is decided for the entries that were placed
abbrev pub placed_decided : PlacedEntries → Decided
placed_decided all = record {
  entries = map entry_of all.entries.items;
  reply = items_reply all.failed (codes "Entries") (trees_of all.reports.items);
}

-- the events that were placed are those of one turn, are admitted at the moment, and have their parts, as far as these need the tables
pub record AreReady (t : Tables) (moment : ℕ) (all : PlacedEntries) : Type 0 where
  pub few : length (map entry_of all.entries.items) ≤ 10
  pub are_events : All IsAnEvent (map entry_of all.entries.items)
  pub admitted : AreAdmitted moment (map entry_of all.entries.items) t
  pub parts : ArePartsOf moment t.set (map entry_of all.entries.items) all.parts.items
  pub on : AreMadeOn moment t (map entry_of all.entries.items) all.parts.items

-- the targets add those that are accepted, and reports of the others
pub record AddsTargets (set : RuleSet) (targets : List AskedTarget) (old new : SplitTargets) : Type 0 where
  pub put : new.accepted.items ≡ old.accepted.items ++ accepted_targets set old.have.items targets
  pub reports : trees_of new.reports.items ≡ trees_of old.reports.items ++ map target_report (failed_targets set old.have.items targets)

-- the targets, put to a rule that has these, are accepted or have reports
pub record AreAllSplit (set : RuleSet) (have : List Target) (targets : List AskedTarget) (all : SplitTargets) : Type 0 where
  pub accepted : all.accepted.items ≡ accepted_targets set have targets
  pub reports : trees_of all.reports.items ≡ map target_report (failed_targets set have targets)

-- one target is put, or its report is added
pub record IsOneSplit (set : RuleSet) (target : AskedTarget) (old new : SplitTargets) : Type 0 where
  pub have : new.have.items ≡ having (target_fault set old.have.items target) target old.have.items
  pub put : new.accepted.items ≡ old.accepted.items ++ accepted_first (target_fault set old.have.items target) target []
  pub reports : trees_of new.reports.items
      ≡ trees_of old.reports.items ++ map target_report (failed_first (target_fault set old.have.items target) target [])

-- the event is added, with its part in a batch of this moment and its report
pub record IsEventAdded (moment : ℕ) (event : AcceptedEvent) (old new : PlacedEntries) : Type 0 where
  pub part : Part
  pub fits : (set : RuleSet) → IsPartOf moment set (batch.accepted (accepted_of event)) part
  pub parts : new.parts.items ≡ old.parts.items ++ part ∷ []
  pub events : new.entries.items ≡ old.entries.items ++ entry.Accepted event ∷ []
  pub reports : trees_of new.reports.items ≡ trees_of old.reports.items ++ entry_report (Ok (accepted_of event)) ∷ []
  pub failed : new.failed ≡ old.failed

-- the report of a refusal is added
pub record IsRefusalAdded (c : Cause) (old new : PlacedEntries) : Type 0 where
  pub parts : new.parts.items ≡ old.parts.items
  pub events : new.entries.items ≡ old.entries.items
  pub reports : trees_of new.reports.items ≡ trees_of old.reports.items ++ entry_report (Err c) ∷ []
  pub failed : new.failed ≡ old.failed + 1
