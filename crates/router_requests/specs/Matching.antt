-- Which rules match an event, and which archives keep it.
use Rattle.std.specs.Prelude.{◌≡◌, ℕ, ◌⊎◌, Bool, true, false, List, [], ◌∷◌, ◌++◌, map, Option, Some, None, Result, Ok}
use Rattle.json_text.specs.Tree.{Tree}
use Rattle.json_text.specs.Compact.{IsValue}
use Rattle.event_shape.specs.Event.{event_tree}
use Rattle.event_shape.specs.Unnumbered.{Unnumbered, with_number}
use Rattle.event_shape.specs.declared.entry.EntryFault.{EntryFault}
use Rattle.pattern_meaning.specs.Pattern.{Pattern}
use Rattle.pattern_meaning.specs.Holds.{PatternHolds}
use Rattle.pattern_read.specs.Text.{IsPatternText}
use Rattle.rule_targets.specs.declared.target.Target.{Target}
use Rattle.rule_table.specs.RuleSet.{Archive, Rule, RuleSet, archives_of, rules_of}
use Rattle.rule_table.specs.Target.{row_of}
use Rattle.router_requests.specs.Request.{Action, Request, put_events, test_event_pattern}
use Rattle.router_requests.specs.Verdict.{IsEntryVerdict}
use Rattle.router_requests.specs.declared.seen.SeenTarget.{SeenTarget}
use Rattle.router_requests.specs.declared.seen.SeenArchive.{SeenArchive}
use Rattle.router_requests.specs.declared.seen.SeenVerdict.{SeenVerdict}
use Rattle.router_requests.specs.declared.seen.SeenVerdict.TheVariants.{Allowed}
use Rattle.router_requests.specs.declared.seen.SeenEntry.{SeenEntry}
use Rattle.router_requests.specs.declared.seen.SeenResult.{SeenResult}
use Rattle.router_requests.specs.declared.seen.SeenResult.TheVariants.{Entries, Tested, Nothing}
use Rattle.router_requests.specs.declared.seen.Seen.{Seen}

-- The text is a pattern, which holds of the event.
-- Shown by: tables router_calls.rows: a_pattern_is_tested_on_an_event.
pub record TextMatches (text : List ℕ) (event : Tree) : Type 0 where
  pub pattern : Pattern
  pub read : IsPatternText text pattern
  pub holds : PatternHolds pattern event

-- The rule is enabled, and its pattern matches the event.
-- Shown by: a_disabled_rule_matches.edit.
abbrev pub Matches : Rule → Tree → Type 0
Matches rule event = (rule.enabled ≡ true) × TextMatches rule.pattern event

-- A target of a rule as matching finds it: its row (rule_table `row_of`), and the input that it was given.
-- Shown by: tables router_core.rows: the_targets_of_the_rules_that_match_are_seen.
abbrev pub seen_target : Rule → Target → SeenTarget
seen_target rule target = record { row = row_of rule target; input = target.input }

-- The targets of the rules that match, by rule in the order of the rule set, and by target in the rule's order.
-- Shown by: one_duty_per_rule.edit.
abbrev pub AreMatched : List Rule → Tree → List SeenTarget → Type 0
AreMatched [] event targets = targets ≡ []
AreMatched (rule ∷ rules) event targets =
    (rest : List SeenTarget) × AreMatched rules event rest
    × ((Matches rule event × (targets ≡ map (seen_target rule) rule.targets ++ rest))
    ⊎ ((¬ Matches rule event) × (targets ≡ rest)))

-- The targets of the rules of its bus that match an event which has no number yet, whatever number it gets: no pattern tests an event's id.
-- Shown by: tables router_core.rows: the_targets_of_the_rules_that_match_are_seen.
abbrev pub AreMatchedFor : RuleSet → Unnumbered → List SeenTarget → Type 0
AreMatchedFor set event targets =
    (number : ℕ) → AreMatched (rules_of event.bus set) (event_tree (with_number number event.event) None) targets

-- there is no pattern, or it matches the event
abbrev pub MatchesIfGiven : Option (List ℕ) → Tree → Type 0
MatchesIfGiven None event = Unit {0}
MatchesIfGiven (Some text) event = TextMatches text event

-- The archive keeps the event: it has no pattern, or its pattern matches.
-- Shown by: proofs alone.
abbrev pub Keeps : Archive → Tree → Type 0
Keeps archive event = MatchesIfGiven archive.pattern event

-- An archive as matching finds it: its name, and the configuration version after its creation.
-- Shown by: proofs alone.
abbrev pub seen_archive : Archive → SeenArchive
seen_archive archive = record { name = archive.name; made = archive.made }

-- The archives that keep the event, in the order of the rule set.
-- Shown by: proofs alone.
abbrev pub AreKeeping : List Archive → Tree → List SeenArchive → Type 0
AreKeeping [] event seen = seen ≡ []
AreKeeping (archive ∷ archives) event seen =
    (rest : List SeenArchive) × AreKeeping archives event rest
    × ((Keeps archive event × (seen ≡ seen_archive archive ∷ rest)) ⊎ ((¬ Keeps archive event) × (seen ≡ rest)))

-- The archives of its bus that keep an event which has no number yet, whatever number it gets.
-- Shown by: proofs alone.
abbrev pub AreKeepingFor : RuleSet → Unnumbered → List SeenArchive → Type 0
AreKeepingFor set event seen =
    (number : ℕ) → AreKeeping (archives_of event.bus set) (event_tree (with_number number event.event) None) seen

-- An allowed event has the targets that match it; any other entry has none.
-- Shown by: tables router_core.rows: a_policy_decides_who_publishes.
abbrev pub AreTargetsOf : RuleSet → Result Unnumbered EntryFault → SeenVerdict → List SeenTarget → Type 0
AreTargetsOf set (Ok event) Allowed targets = AreMatchedFor set event targets
AreTargetsOf set entry verdict targets = targets ≡ []

-- An allowed event has the archives that keep it; any other entry has none.
-- Shown by: proofs alone.
abbrev pub AreArchivesOf : RuleSet → Result Unnumbered EntryFault → SeenVerdict → List SeenArchive → Type 0
AreArchivesOf set (Ok event) Allowed archives = AreKeepingFor set event archives
AreArchivesOf set entry verdict archives = archives ≡ []

-- The result of matching an entry of a caller: its verdict, its targets and its archives.
-- Shown by: tables router_core.rows: a_policy_decides_who_publishes.
pub record IsSeenEntry (set : RuleSet) (caller : List ℕ) (entry : Result Unnumbered EntryFault) (seen : SeenEntry) : Type 0 where
  pub verdict : IsEntryVerdict set caller entry seen.verdict
  pub targets : AreTargetsOf set entry seen.verdict seen.targets.items
  pub archives : AreArchivesOf set entry seen.verdict seen.archives.items

-- The results of matching entries, one each, in their order.
-- Shown by: tables router_core.rows: the_targets_of_the_rules_that_match_are_seen.
abbrev pub AreSeenEntries : RuleSet → List ℕ → List (Result Unnumbered EntryFault) → List SeenEntry → Type 0
AreSeenEntries set caller [] all = all ≡ []
AreSeenEntries set caller (entry ∷ entries) [] = ⊥
AreSeenEntries set caller (entry ∷ entries) (seen ∷ all) = IsSeenEntry set caller entry seen × AreSeenEntries set caller entries all

-- Whether the pattern of this text matches the event.
-- Shown by: tables router_calls.rows: a_pattern_is_tested_on_an_event.
abbrev pub IsTestedAs : List ℕ → Tree → Bool → Type 0
IsTestedAs pattern event true = TextMatches pattern event
IsTestedAs pattern event false = ¬ TextMatches pattern event

-- What matching finds for an action: for a PutEvents what becomes of each entry, for a TestEventPattern whether it matches, else nothing.
-- Shown by: tables router_core.rows: the_targets_of_the_rules_that_match_are_seen.
abbrev pub IsSeenResult : RuleSet → List ℕ → Action → SeenResult → Type 0
IsSeenResult set caller (put_events entries size) (Entries all) = AreSeenEntries set caller entries all.items
IsSeenResult set caller (put_events entries size) result = ⊥
IsSeenResult set caller (test_event_pattern pattern event) (Tested matches) = IsTestedAs pattern event matches
IsSeenResult set caller (test_event_pattern pattern event) result = ⊥
IsSeenResult set caller action result = result ≡ Nothing

-- The result of matching a request on a rule set: the configuration version `k`, and what is found.
-- Shown by: tables router_core.rows: the_targets_of_the_rules_that_match_are_seen.
pub record IsSeen (set : RuleSet) (request : Request) (seen : Seen) : Type 0 where
  pub k : seen.k ≡ set.count
  pub result : IsSeenResult set request.caller request.action seen.result

-- A tested event is a JSON value.
-- Shown by: tables router_calls.rows: a_pattern_is_tested_on_an_event.
abbrev pub HasValue : Action → Type 0
HasValue (test_event_pattern pattern event) = IsValue event
HasValue action = Unit {0}

-- The result of matching one event that is there already: the configuration version, and the targets of `AreMatched`.
-- Shown by: tables router_core.rows: the_targets_of_the_rules_that_match_are_seen; session_tests tables.rt:
-- a_replay_has_the_targets_of_the_rules_that_match.
pub record IsSeenEvent (set : RuleSet) (bus : List ℕ) (event : Tree) (k : ℕ) (targets : List SeenTarget) : Type 0 where
  pub version : k ≡ set.count
  pub matched : AreMatched (rules_of bus set) event targets
