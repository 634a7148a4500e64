-- Which values are valid for a member.
use Rattle.std.specs.Prelude.{◌≡◌, ℕ, nat_le, ◌⊎◌, Bool, true, false, ◌&&◌, ◌||◌, List, [], ◌∷◌, length, Option, Some, None, is_some, option_and_then}
use Rattle.std.specs.Prelude.{unwrap_or, codes, IsSome, IsTrue}
use Rattle.std.specs.List.{list_all}
use Rattle.std.specs.Option.{option_map}
use Rattle.std.specs.Str.{bytes_eq}
use Rattle.json_text.specs.Tree.{Tree, truth}
use Rattle.event_shape.specs.Names.{IsQueueName, IsShortName, IsBusName, IsArchiveName, is_archive_name, is_short_name, is_bus_name, bus_in}
use Rattle.event_shape.specs.Names.{archive_arn, bus_arn, rule_arn, after_prefix, named, default_bus, is_account}
use Rattle.event_shape.specs.Time.{IsTime}
use Rattle.bus_policy.specs.Text.{IsPolicyText}
use Rattle.bus_policy.specs.StatementId.{IsStatementId}
use Rattle.pattern_meaning.specs.Pattern.{Pattern}
use Rattle.pattern_read.specs.Text.{IsPatternText}
use Rattle.rule_targets.specs.Checks.{IsTargetArn}
use Rattle.api_members.specs.declared.asked.Syntax.{Syntax}
use Rattle.api_members.specs.declared.asked.Syntax.TheVariants as syntax
use Rattle.api_replies.specs.declared.member.Member.TheVariants.{Arn}
use Rattle.api_members.specs.Given.{value_at, text_given, list_in, members_in}
use Rattle.api_members.specs.JsonType.{may_pass, must_pass}
use Rattle.json_text.specs.Access.{is_text, IsTextThat, text_in}
use Rattle.api_members.specs.Count.{count_of}
use Rattle.api_members.specs.Entry.{is_entry}
use Rattle.api_members.specs.Target.{is_target}
use Rattle.api_members.specs.Event.{GivesEvent}

-- a bus's name or its ARN
abbrev pub GivesBus : List ℕ → Type 0
GivesBus t = IsTrue (is_some (bus_in t))

-- The name of the bus whose ARN the text is.
-- Shown by: a_bus_name_is_taken_for_an_arn.edit.
abbrev pub bus_of_source : List ℕ → Option (List ℕ)
bus_of_source t = named is_bus_name (after_prefix (bus_arn []) t)

-- a bus's ARN
abbrev pub GivesBusArn : List ℕ → Type 0
GivesBusArn t = IsTrue (is_some (bus_of_source t))

-- The name of the archive whose ARN the text is.
-- Shown by: replays.
abbrev pub archive_of_source : List ℕ → Option (List ℕ)
archive_of_source t = named is_archive_name (after_prefix (archive_arn []) t)

-- an archive's ARN
abbrev pub GivesArchiveArn : List ℕ → Type 0
GivesArchiveArn t = IsTrue (is_some (archive_of_source t))

-- The name of the rule of this bus whose ARN the text is. On `default` the ARN has no bus.
-- Shown by: replays.
abbrev pub rule_of_source : List ℕ → List ℕ → Option (List ℕ)
rule_of_source bus t = named is_short_name (after_prefix (rule_arn bus []) t)

-- the text is some pattern
abbrev pub IsPattern : List ℕ → Type 0
IsPattern t = (p : Pattern) × IsPatternText t p

-- the text is a rule's state
abbrev pub IsState : List ℕ → Type 0
IsState t = (t ≡ codes "ENABLED") ⊎ (t ≡ codes "DISABLED")

-- the states of an archive that last, and those that pass (API Reference, ArchiveState)
abbrev pub is_lasting_state : List ℕ → Bool
is_lasting_state t =
    bytes_eq t (codes "ENABLED") || bytes_eq t (codes "DISABLED") || bytes_eq t (codes "CREATE_FAILED") || bytes_eq t (codes "UPDATE_FAILED")

abbrev pub is_passing_state : List ℕ → Bool
is_passing_state t = bytes_eq t (codes "CREATING") || bytes_eq t (codes "UPDATING")

-- the text is the state of an archive
abbrev pub is_archive_state : List ℕ → Bool
is_archive_state t = is_lasting_state t || is_passing_state t

-- the states of a replay that has ended, and those before its end (API Reference, ReplayState)
abbrev pub is_ended_state : List ℕ → Bool
is_ended_state t = bytes_eq t (codes "COMPLETED") || bytes_eq t (codes "CANCELLED") || bytes_eq t (codes "FAILED")

abbrev pub is_begun_state : List ℕ → Bool
is_begun_state t = bytes_eq t (codes "STARTING") || bytes_eq t (codes "RUNNING") || bytes_eq t (codes "CANCELLING")

-- the text is the state of a replay
abbrev pub is_replay_state : List ℕ → Bool
is_replay_state t = is_ended_state t || is_begun_state t

-- a value that gives a moment, as the Time of an entry does
abbrev pub GivesTime : Tree → Type 0
GivesTime tree = (moment : ℕ) × IsTime tree moment

-- The moment that an optional value gives, as the Time of an entry does.
-- Shown by: replays.
abbrev pub IsTimeGiven : Option Tree → ℕ → Type 0
IsTimeGiven None moment = ⊥
IsTimeGiven (Some tree) moment = IsTime tree moment

-- The name of the bus whose ARN a Destination has as its Arn.
-- Shown by: replays.
abbrev pub destination_of : Tree → Option (List ℕ)
destination_of tree = option_and_then bus_of_source (text_given Arn (members_in tree))

-- the FilterArns of a Destination; null counts as absent
abbrev pub filter_in : Tree → Option Tree
filter_in tree = value_at (codes "FilterArns") (members_in tree)

-- the name of the rule of the bus whose ARN the value is
abbrev pub rule_in : List ℕ → Tree → Option (List ℕ)
rule_in bus tree = option_and_then (rule_of_source bus) (text_in tree)

abbrev pub is_rule_of : List ℕ → Tree → Bool
is_rule_of bus tree = is_some (rule_in bus tree)

-- a list of ARNs of rules of the bus, which may be empty
abbrev pub are_rules_of : List ℕ → Tree → Bool
are_rules_of bus tree = must_pass (list_all (is_rule_of bus)) (list_in tree)

-- An object with the ARN of a bus. Its FilterArns, if they are given, are ARNs of rules of that bus.
-- Shown by: replays.
abbrev pub is_destination : Tree → Bool
is_destination tree = must_pass (λ bus. may_pass (are_rules_of bus) (filter_in tree)) (destination_of tree)

-- these names, with one before them if there is one
abbrev pub with_name : Option (List ℕ) → List (List ℕ) → List (List ℕ)
with_name None names = names
with_name (Some name) names = name ∷ names

-- The names of the rules of the bus whose ARNs the values are, in their order; a value that is none is left out.
-- Shown by: replays.
abbrev pub names_of_rules : List ℕ → List Tree → List (List ℕ)
names_of_rules bus [] = []
names_of_rules bus (tree ∷ trees) = with_name (rule_in bus tree) (names_of_rules bus trees)

-- The names of the rules of a Destination's filter, if it has one. An empty list is a filter that no rule passes.
-- Shown by: replays.
abbrev pub filter_given : List ℕ → Tree → Option (List (List ℕ))
filter_given bus tree = option_map (λ filter. names_of_rules bus (unwrap_or (list_in filter) [])) (filter_in tree)

-- the text is some policy
abbrev pub GivesPolicy : List ℕ → Type 0
GivesPolicy t = (policy : Tree) × IsPolicyText t policy

-- `*` for everyone, or an account
abbrev pub IsGrantee : List ℕ → Type 0
IsGrantee t = (t ≡ codes "*") ⊎ IsTrue (is_account t)

-- a text with the syntax of a target's id
abbrev pub is_id : Tree → Bool
is_id tree = must_pass is_short_name (text_in tree)

-- `true` or `false`
abbrev pub is_truth : Tree → Bool
is_truth (truth b) = true
is_truth _ = false

-- The bus whose name or ARN is given, or else `default`.
-- Shown by: tables api_wire.rows: a_rule_is_refused_for_its_first_member.
abbrev pub bus_or_default : Option (List ℕ) → List ℕ
bus_or_default given = unwrap_or (option_and_then bus_in given) default_bus

-- 1 to `most` values, each of which passes
abbrev pub are_few : (Tree → Bool) → ℕ → List Tree → Bool
are_few test most values = nat_le 1 (length values) && nat_le (length values) most && list_all test values

-- a list of 1 to `most` values, each of which passes
abbrev pub is_list_of : (Tree → Bool) → ℕ → Tree → Bool
is_list_of test most tree = must_pass (are_few test most) (list_in tree)

-- Which values are valid, a line for each syntax: the name of a queue, of a rule or of a bus, a bus's name or ARN, a bus's ARN, an archive's
-- name or its ARN, a replay's name, any text, a target's ARN, a pattern's text, an event's text, the state of a rule, of an archive or of a
-- replay, a time, a replay's destination, a whole number within limits, a list of 1 to 10 entries, of 1 to 100 targets or of 1 to 100
-- targets' ids, a policy's text, a StatementId, `events:PutEvents`, an account or `*`, a truth value. A member that is not served is never
-- valid.
-- Shown by: tables api_members.rows: a_value_is_valid.
abbrev pub IsValid : Syntax → Tree → Type 0
IsValid syntax.QueueName tree = IsTextThat IsQueueName tree
IsValid syntax.RuleName tree = IsTextThat IsShortName tree
IsValid syntax.BusName tree = IsTextThat IsBusName tree
IsValid syntax.Bus tree = IsTextThat GivesBus tree
IsValid syntax.BusArn tree = IsTextThat GivesBusArn tree
IsValid syntax.ArchiveName tree = IsTextThat IsArchiveName tree
IsValid syntax.ArchiveArn tree = IsTextThat GivesArchiveArn tree
IsValid syntax.ReplayName tree = IsTextThat IsShortName tree
IsValid syntax.AnyText tree = IsTrue (is_text tree)
IsValid syntax.TargetArn tree = IsTextThat IsTargetArn tree
IsValid syntax.Pattern tree = IsTextThat IsPattern tree
IsValid syntax.Event tree = IsTextThat GivesEvent tree
IsValid syntax.State tree = IsTextThat IsState tree
IsValid syntax.ArchiveState tree = IsTextThat (λ t. IsTrue (is_archive_state t)) tree
IsValid syntax.ReplayState tree = IsTextThat (λ t. IsTrue (is_replay_state t)) tree
IsValid syntax.Time tree = GivesTime tree
IsValid syntax.Destination tree = IsTrue (is_destination tree)
IsValid (syntax.Count least most) tree = IsSome (count_of least most tree)
IsValid syntax.Entries tree = IsTrue (is_list_of is_entry 10 tree)
IsValid syntax.Targets tree = IsTrue (is_list_of is_target 100 tree)
IsValid syntax.Ids tree = IsTrue (is_list_of is_id 100 tree)
IsValid syntax.Policy tree = IsTextThat GivesPolicy tree
IsValid syntax.StatementId tree = IsTextThat IsStatementId tree
IsValid syntax.PutEventsAction tree = IsTextThat (λ t. t ≡ codes "events:PutEvents") tree
IsValid syntax.Principal tree = IsTextThat IsGrantee tree
IsValid syntax.Truth tree = IsTrue (is_truth tree)
IsValid syntax.Unserved tree = ⊥
