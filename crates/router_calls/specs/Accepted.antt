-- What the entries of a PutEvents become.
use Rattle.std.specs.Prelude.{◌≡◌, ◌≤◌, ℕ, ◌+◌, ◌==◌, Bool, false, List, [], ◌∷◌, map, filter, All, Option, Some, None, Result, Ok, Err}
use Rattle.json_text.specs.Tree.{Tree}
use Rattle.json_text.specs.Compact.{compact_text, tree_levels}
use Rattle.event_shape.specs.Event.{IsEventAt, event_tree}
use Rattle.event_shape.specs.Unnumbered.{Unnumbered, with_number}
use Rattle.event_shape.specs.declared.entry.EntryFault.{EntryFault}
use Rattle.input_transform.specs.Stored.{IsScene}
use Rattle.rule_table.specs.RuleSet.{Archive, RuleSet, archive_at}
use Rattle.api_replies.specs.declared.member.Member.TheVariants as member
use Rattle.api_replies.specs.declared.cause.Cause.{Cause}
use Rattle.api_replies.specs.declared.cause.Cause.TheVariants as cause
use Rattle.router_requests.specs.Batch as batch
use Rattle.router_requests.specs.Duties.{AreDuties, scene_at}
use Rattle.router_requests.specs.declared.seen.SeenArchive.{SeenArchive}
use Rattle.router_requests.specs.declared.seen.SeenEntry.{SeenEntry}
use Rattle.router_requests.specs.declared.seen.SeenResult.{SeenResult}
use Rattle.router_requests.specs.declared.seen.SeenResult.TheVariants.{Entries, Tested, Nothing}
use Rattle.router_requests.specs.declared.seen.SeenTarget.{SeenTarget}
use Rattle.router_requests.specs.declared.seen.SeenVerdict.{SeenVerdict}
use Rattle.router_requests.specs.declared.seen.SeenVerdict.TheVariants as verdict
use Rattle.call_replies.specs.Causes.{entry_cause}

-- An entry of a PutEvents as its request holds it: an event without its number, or a fault.
-- Shown by: tables router_calls.rows: each_request_is_answered.
abbrev pub Given : Type 0
Given = Result Unnumbered EntryFault

-- What becomes of an entry: an accepted event, or a refusal.
-- Shown by: tables router_calls.rows: each_request_is_answered.
abbrev pub Placed : Type 0
Placed = Result batch.Accepted Cause

-- there is an archive, and this is the configuration version after its creation
abbrev pub is_made_at : ℕ → Option Archive → Bool
is_made_at made None = false
is_made_at made (Some archive) = archive.made == made

-- The archive that matching found is still there: the rule set has one of its name that the same change created.
-- Shown by: proofs alone.
abbrev pub is_still_there : RuleSet → SeenArchive → Bool
is_still_there set found = is_made_at found.made (archive_at found.name set)

-- The names of the archives that keep an event: of those that matching found, the ones that are still there.
-- Shown by: proofs alone.
abbrev pub archives_kept : RuleSet → List SeenArchive → List (List ℕ)
archives_kept set found = map (λ a. a.name) (filter (is_still_there set) found)

-- What matching found of an entry: the verdict, the targets of the rules that match its event, and the names of the archives that keep it
-- and that the tables still have.
-- Shown by: tables router_calls.rows: each_request_is_answered.
pub record Found : Type 0 where
  pub verdict : SeenVerdict
  pub targets : List SeenTarget
  pub archives : List (List ℕ)

-- what contracts see of what the code found of an entry, where this is the tables' rule set
abbrev pub found_of : RuleSet → SeenEntry → Found
found_of set seen = record { verdict = seen.verdict; targets = seen.targets.items; archives = archives_kept set seen.archives.items }

-- what matching found of each entry of a PutEvents; of another request there is none
abbrev pub entries_seen : RuleSet → SeenResult → List Found
entries_seen set (Entries all) = map (found_of set) all.items
entries_seen set (Tested matches) = []
entries_seen set Nothing = []

-- whether matching found that the pattern of a TestEventPattern matches
abbrev pub is_tested : SeenResult → Bool
is_tested (Tested matches) = matches
is_tested (Entries all) = false
is_tested Nothing = false

-- The tree of the event with this number.
-- Shown by: templates.
abbrev pub numbered_tree : ℕ → Unnumbered → Tree
numbered_tree n event = event_tree (with_number n event.event) None

-- The text of the event with this number.
-- Shown by: tables router_calls.rows: each_request_is_answered.
abbrev pub numbered_text : ℕ → Unnumbered → List ℕ
numbered_text n event = compact_text (numbered_tree n event)

-- What an allowed entry becomes: its event with this number, matched on configuration version k, kept by the archives of these names, with a
-- duty for each of these targets, whose texts are filled with the time text of the batch's moment. The event's account is the one that the entry was made with (`IsEntitled`: its
-- caller), and its time is the text of its moment.
-- Shown by: tables router_calls.rows: each_request_is_answered; templates.
pub record IsAcceptedAs (k n : ℕ) (time : List ℕ) (event : Unnumbered) (targets : List SeenTarget) (names : List (List ℕ)) (a : batch.Accepted)
    : Type 0 where
  pub number : a.number ≡ n
  pub bus : a.bus ≡ event.bus
  pub version : a.k ≡ k
  pub at : a.time ≡ event.moment
  pub text : a.text ≡ numbered_text n event
  pub archives : a.archives ≡ names
  pub duties : AreDuties (numbered_tree n event) time targets a.duties
  pub is_event : IsEventAt event.moment (with_number n event.event)

-- What the duties of an accepted event are filled from: the tree of an event, a JSON value of at most 100 levels; a time text; and for each
-- target the ARN of its rule. The ARN, the name in it and the time are UTF-8.
-- Shown by: law a_target_gets_one_json_text.
pub record HasScenes (e : batch.Accepted) : Type 0 where
  pub event : Unnumbered
  pub time : List ℕ
  pub targets : List SeenTarget
  pub duties : AreDuties (numbered_tree e.number event) time targets e.duties
  pub scenes : All (λ seen. IsScene (scene_at (numbered_tree e.number event) time seen)) targets
  pub levels : tree_levels (numbered_tree e.number event) ≤ 100

-- What becomes of an event with this verdict: an event without a bus is refused for `EventBusName`, a denied one by the statement that
-- denies it, one that no statement allows as such. An allowed event is accepted.
-- Shown by: tables router_calls.rows: each_change_is_answered.
abbrev pub IsEventPlaced : ℕ → ℕ → List ℕ → Unnumbered → SeenVerdict → List SeenTarget → List (List ℕ) → Placed → Type 0
IsEventPlaced k n time event verdict.Allowed targets archives p = (a : batch.Accepted) × IsAcceptedAs k n time event targets archives a × (p ≡ Ok a)
IsEventPlaced k n time event verdict.NoBus targets archives p = p ≡ Err (cause.Parameter member.EventBusName)
IsEventPlaced k n time event (verdict.DeniedBy statement_name) targets archives p = p ≡ Err (cause.DeniedBy statement_name)
IsEventPlaced k n time event verdict.NotAllowed targets archives p = p ≡ Err cause.NotAllowed
IsEventPlaced k n time event (verdict.Fault fault) targets archives p = p ≡ Err (entry_cause fault)

-- What becomes of an entry by what matching found of it, if the next event gets the number n: a fault is refused for its cause.
-- Shown by: an_entry_that_is_not_allowed_is_accepted.edit.
abbrev pub IsPlaced : ℕ → ℕ → List ℕ → Given → Found → Placed → Type 0
IsPlaced k n time (Ok event) found p = IsEventPlaced k n time event found.verdict found.targets found.archives p
IsPlaced k n time (Err fault) found p = p ≡ Err (entry_cause fault)

-- the number of the next event
abbrev pub number_after : ℕ → Placed → ℕ
number_after n (Ok a) = n + 1
number_after n (Err c) = n

-- What becomes of entries, in their order, by what matching found of each. Only accepted events take numbers, from this one on.
-- Shown by: a_faulty_entry_takes_a_number.edit.
abbrev pub ArePlaced : ℕ → ℕ → List ℕ → List Given → List Found → List Placed → Type 0
ArePlaced k n time [] found all = all ≡ []
ArePlaced k n time (entry ∷ entries) [] all = all ≡ []
ArePlaced k n time (entry ∷ entries) (found ∷ more) [] = ⊥
ArePlaced k n time (entry ∷ entries) (found ∷ more) (p ∷ all) =
    IsPlaced k n time entry found p × ArePlaced k (number_after n p) time entries more all

-- The accepted events.
-- Shown by: tables router_calls.rows: each_request_is_answered.
abbrev pub events_in : List Placed → List batch.Accepted
events_in [] = []
events_in (Ok a ∷ rest) = a ∷ events_in rest
events_in (Err c ∷ rest) = events_in rest

-- The number of refused entries.
-- Shown by: tables router_calls.rows: each_request_is_answered.
abbrev pub failures_in : List Placed → ℕ
failures_in [] = 0
failures_in (Ok a ∷ rest) = failures_in rest
failures_in (Err c ∷ rest) = failures_in rest + 1
