-- A request that a message asks for is within its bounds: `asked_bounded`. First the syntax of names, then numbers, then each operation.
use Rattle.std.proofs.Common.{◌≡◌, ℕ, ◌≤◌, Bool, true, false, ◌&&◌, nat_le, inl, inr, List, [], ◌∷◌, length, Option, Some, None, Ok, Err, suc, sym, refl, ap, ◌∙◌, subst, arith}
use Rattle.std.specs.Prelude.{if◌then◌else◌, codes, All, unwrap_or, option_and_then, IsTrue, IfSome, Result}
use Rattle.std.specs.List.{list_all}
use Rattle.std.specs.Option.{option_map}
use Rattle.std.specs.Str.{bytes_eq}
use Rattle.std.proofs.lemmas.Bool.{and_parts}
use Rattle.std.proofs.lemmas.Bool.Decides.{nat_tests}
use Rattle.std.proofs.lemmas.List.{length-map}
use Rattle.std.proofs.lemmas.List.Elements.{All-nil, All-cons}
use Rattle.json_text.specs.Moment.{IsMoment}
use Rattle.json_text.specs.Tree.{Tree, number, text, Members}
use Rattle.json_text.specs.Compact.{IsValue, compact_text}
use Rattle.json_text.specs.Access.{text_in}
use Rattle.json_text.specs.Checks.{else_fault}
use Rattle.json_text.proofs.ValueLemmas.{text_is_value}
use Rattle.event_shape.specs.Names.{IsArchiveName, IsBusName, IsShortName, IsQueueName, is_archive_name, is_bus_name, is_short_name, default_bus, bus_in, bus_of_entry}
use Rattle.event_shape.proofs.NameLemmas.{bus_given}
use Rattle.event_shape.specs.Entry.{Entry}
use Rattle.event_shape.specs.Unnumbered.{Unnumbered}
use Rattle.event_shape.specs.declared.entry.EntryFault.{EntryFault}
use Rattle.bus_policy.specs.Change.{IsAccountGiven}
use Rattle.bus_policy.specs.StatementId.{IsStatementId}
use Rattle.bus_policy.specs.Stored.{IsStored}
use Rattle.bus_policy.proofs.ReadLemmas.{read_stored}
use Rattle.rule_targets.specs.declared.given.GivenInput.{GivenInput}
use Rattle.rule_targets.specs.declared.target.AskedInput.{AskedInput}
use Rattle.rule_targets.specs.declared.target.AskedInput.TheVariants as asked
use Rattle.rule_targets.specs.declared.target.AskedTarget.{AskedTarget}
use Rattle.rule_targets.specs.Input.{IsValidInput}
use Rattle.rule_targets.specs.Target.{IsAskedAs, IsValidRead, HasValidReads}
use Rattle.rule_targets.specs.Checks.{IsTargetArn}
use Rattle.rule_table.specs.WellFormed.{most_days, IsNoneOrPattern}
use Rattle.rule_targets.specs.WellFormed.{names_rule, NamesRule, are_few as is_count_few, are_ids_formed}
use Rattle.router_requests.specs.Request.{Action, remove_policy, remove_statement, delete_messages, Request}
use Rattle.router_requests.specs.Bounds.{IsForBus, IsStatementIdIfGiven, IsBounded}
use Rattle.api_replies.specs.declared.member.Member.{Member}
use Rattle.api_replies.specs.declared.member.Member.TheVariants as member
use Rattle.api_replies.specs.declared.cause.Cause.TheVariants as cause
use Rattle.api_messages.specs.declared.message.Message.{Message}
use Rattle.api_members.specs.declared.asked.Asked.TheVariants.{Required}
use Rattle.api_members.specs.declared.asked.Syntax.{Syntax}
use Rattle.api_members.specs.declared.asked.Syntax.TheVariants as syntax
use Rattle.api_members.specs.Given.{given, text_given, text_of, list_in, values_in, members_in}
use Rattle.api_members.specs.JsonType.{must_pass}
use Rattle.api_members.specs.Entry.{is_entry, texts_of, entry_with, entries_of}
use Rattle.api_members.specs.CheckedEntry.{IsChecked, AreChecked}
use Rattle.api_members.specs.Target.{is_target, input_given, path_given, transformer_given}
use Rattle.api_members.specs.Count.{count_given}
use Rattle.api_members.specs.Value.{GivesBusArn, IsGrantee, is_id, are_few, is_list_of, bus_of_source, bus_or_default, IsValid}
use Rattle.api_members.specs.Value.{destination_of, filter_given, filter_in, names_of_rules, IsTimeGiven}
use Rattle.api_members.specs.Refusal.{value_check, IsSoundMember, AreSound}
use Rattle.api_members.proofs.ArnLemmas.{archive_found, bus_found, rules_found}
use Rattle.api_members.proofs.CheckedLemmas.{checked_len}
use Rattle.api_members.proofs.CountLemmas.{within_limits}
use Rattle.api_members.proofs.TextLemmas.{valid_text, pattern_text, event_is_value}
use Rattle.api_wire.specs.declared.call.operation.Operation.{Operation}
use Rattle.api_wire.specs.declared.call.operation.Operation.TheVariants.{CreateEventBus, DeleteEventBus, DescribeEventBus, ListEventBuses}
use Rattle.api_wire.specs.declared.call.operation.Operation.TheVariants.{PutRule, DeleteRule, EnableRule, DisableRule, DescribeRule, ListRules}
use Rattle.api_wire.specs.declared.call.operation.Operation.TheVariants.{PutTargets, RemoveTargets, ListTargetsByRule, ListRuleNamesByTarget}
use Rattle.api_wire.specs.declared.call.operation.Operation.TheVariants.{PutPermission, RemovePermission, PutEvents, TestEventPattern}
use Rattle.api_wire.specs.declared.call.operation.Operation.TheVariants.{CreateArchive, UpdateArchive, DeleteArchive, DescribeArchive, ListArchives}
use Rattle.api_wire.specs.declared.call.operation.Operation.TheVariants.{StartReplay, CancelReplay, DescribeReplay, ListReplays, StepReplays}
use Rattle.api_wire.specs.declared.call.operation.Operation.TheVariants.{CreateQueue, DeleteQueue, PeekMessages, DeleteMessages, DeliverDue, DutyCounts}
use Rattle.api_wire.specs.Call.{caller_of, asked, permission_asked, bus_named, event_bus, account_in, IsStoredAs, removes_all, AreTargets, days_given, creation_in, action_in, IsPermission}
use Rattle.api_wire.specs.Call.{IsAction, IsAsked, IsStartGiven}

-- `default` is a bus's name
default_is_name : IsBusName default_bus
default_is_name = refl

found_bus : (t : List ℕ) (o : Option (List ℕ)) → bus_in t ≡ o → IsBusName (unwrap_or o default_bus)
found_bus t None is = default_is_name
found_bus t (Some bus) is = ((bus_given t bus).0 is).0

bus_is_name : (v : Option (List ℕ)) → IsBusName (bus_or_default v)
bus_is_name None = default_is_name
bus_is_name (Some t) = found_bus t (bus_in t) refl

named_bus : (m : Member) (ms : Members) → IsBusName (bus_named m ms)
named_bus m ms = bus_is_name (text_given m ms)

short_name : (m : Member) (ms : Members) → IsSoundMember (Required m syntax.RuleName) ms → IsShortName (text_of m ms)
short_name m ms sound = valid_text IsShortName syntax.RuleName m (given m ms) (λ t is. is) sound

bus_name : (m : Member) (ms : Members) → IsSoundMember (Required m syntax.BusName) ms → IsBusName (text_of m ms)
bus_name m ms sound = valid_text IsBusName syntax.BusName m (given m ms) (λ t is. is) sound

queue_name : (ms : Members) → IsSoundMember (Required member.QueueName syntax.QueueName) ms → IsQueueName (text_of member.QueueName ms)
queue_name ms sound = valid_text IsQueueName syntax.QueueName member.QueueName (given member.QueueName ms) (λ t is. is) sound

archive_name : (ms : Members) → IsSoundMember (Required member.ArchiveName syntax.ArchiveName) ms → IsArchiveName (text_of member.ArchiveName ms)
archive_name ms sound = valid_text IsArchiveName syntax.ArchiveName member.ArchiveName (given member.ArchiveName ms) (λ t is. is) sound

replay_name : (ms : Members) → IsSoundMember (Required member.ReplayName syntax.ReplayName) ms → IsShortName (text_of member.ReplayName ms)
replay_name ms sound = valid_text IsShortName syntax.ReplayName member.ReplayName (given member.ReplayName ms) (λ t is. is) sound

pub source_arn : (ms : Members) → IsSoundMember (Required member.EventSourceArn syntax.BusArn) ms → GivesBusArn (text_of member.EventSourceArn ms)
source_arn ms sound = valid_text GivesBusArn syntax.BusArn member.EventSourceArn (given member.EventSourceArn ms) (λ t is. is) sound

time_in : (m : Member) (v : Option Tree) → (value_check (else_fault ⊥ (cause.Required m)) syntax.Time m v).holds → (moment : ℕ) × IsTimeGiven v moment
time_in m None valid = absurd valid
time_in m (Some tree) valid = valid

-- the moment of a time that is asked
pub time_there : (m : Member) (ms : Members) → IsSoundMember (Required m syntax.Time) ms → (moment : ℕ) × IsTimeGiven (given m ms) moment
time_there m ms sound = time_in m (given m ms) sound

target_arn : (ms : Members) → IsSoundMember (Required member.TargetArn syntax.TargetArn) ms → IsTargetArn (text_of member.TargetArn ms)
target_arn ms sound = valid_text IsTargetArn syntax.TargetArn member.TargetArn (given member.TargetArn ms) (λ t is. is) sound

statement_id : (ms : Members) → IsSoundMember (Required member.StatementId syntax.StatementId) ms → IsStatementId (text_of member.StatementId ms)
statement_id ms sound = valid_text IsStatementId syntax.StatementId member.StatementId (given member.StatementId ms) (λ t is. is) sound

id_if_given : (v : Option Tree) → (value_check (else_fault (Unit {0}) (cause.Required member.StatementId)) syntax.StatementId member.StatementId v).holds
    → IsStatementIdIfGiven (option_and_then text_in v)
id_if_given None valid = tt
id_if_given (Some (text t)) valid = valid
id_if_given (Some other) valid = absurd valid

pub pattern_if_given : (v : Option Tree)
    → (value_check (else_fault (Unit {0}) (cause.Required member.EventPattern)) syntax.Pattern member.EventPattern v).holds
    → IsNoneOrPattern (option_and_then text_in v)
pattern_if_given None valid = tt
pattern_if_given (Some (text t)) valid = valid
pattern_if_given (Some other) valid = absurd valid

both : (a b : Bool) → a ≡ true → b ≡ true → (a && b) ≡ true
both a b p q = ap (λ x. x && b) p ∙ q

rule_named : (m : Member) (ms : Members) → IsSoundMember (Required m syntax.RuleName) ms → NamesRule (event_bus ms) (text_of m ms)
rule_named m ms sound =
    both (is_bus_name (event_bus ms)) (is_short_name (text_of m ms)) (named_bus member.EventBusName ms) (short_name m ms sound)

-- the values of a list that is given
abbrev in_list : Option Tree → List Tree
in_list v = unwrap_or (option_and_then list_in v) []

few_values : (s : Syntax) (m : Member) (test : Tree → Bool) (most : ℕ) (v : Option Tree) → ((tree : Tree) → IsValid s tree → IsTrue (is_list_of test most tree))
    → (value_check (else_fault ⊥ (cause.Required m)) s m v).holds → IsTrue (are_few test most (in_list v))
few_values s m test most None is valid = absurd valid
few_values s m test most (Some tree) is valid = by_list (list_in tree) (is tree valid)
  where
    by_list : (o : Option (List Tree)) → IsTrue (must_pass (are_few test most) o) → IsTrue (are_few test most (unwrap_or o []))
    by_list None passes = absurd cc
    by_list (Some values) passes = passes

few : (test : Tree → Bool) (most : ℕ) (values : List Tree) → IsTrue (are_few test most values) → (1 ≤ length values) × (length values ≤ most)
few test most values is = (grind (arith, nat_tests), grind (arith, nat_tests))

-- what is read of a member is valid
valid_read : (o : Option GivenInput) (member : AskedInput) → IsAskedAs o member → IsValidRead member
valid_read None member is = rw is tt
valid_read (Some g) asked.Absent is = absurd is
valid_read (Some g) asked.NotValid is = tt
valid_read (Some g) (asked.Read h) is = subst IsValidInput (sym is.0) is.1

valid_reads : (trees : List Tree) (all : List AskedTarget) → AreTargets trees all → All HasValidReads all
valid_reads [] all p = rw p (All-nil HasValidReads)
valid_reads (tree ∷ trees) all p =
    let ms = members_in tree in
    let one = p.0 in
    rw p.2 (All-cons HasValidReads one p.1 (record {
      input = valid_read (input_given ms) one.input p.3.input;
      input_path = valid_read (path_given ms) one.input_path p.3.input_path;
      transformer = valid_read (transformer_given ms) one.transformer p.3.transformer;
    }) (valid_reads trees p.1 p.4))

targets_len : (trees : List Tree) (all : List AskedTarget) → AreTargets trees all → length all ≡ length trees
targets_len [] all p = ap length p
targets_len (tree ∷ trees) all p = omega (arith, ap length p.2, targets_len trees p.1 p.4)

-- 1 to 100 targets, whose inputs are valid if they were read
target_bounds : (ms : Members) (all : List AskedTarget) → IsSoundMember (Required member.Targets syntax.Targets) ms
    → AreTargets (values_in member.Targets ms) all → (1 ≤ length all) × (length all ≤ 100) × All HasValidReads all
target_bounds ms all sound are =
    let values = values_in member.Targets ms in
    let some = few is_target 100 values (few_values syntax.Targets member.Targets is_target 100 (given member.Targets ms) (λ tree is. is) sound) in
    let same = targets_len values all are in
    (omega (arith, some.0, same), omega (arith, some.1, same), valid_reads values all are)

ids_formed : (values : List Tree) → list_all is_id values ≡ true
    → (length (texts_of values) ≡ length values) × (list_all is_short_name (texts_of values) ≡ true)
ids_formed [] each = (refl, refl)
ids_formed (text t ∷ values) each =
    let parts = and_parts (is_short_name t) (list_all is_id values) each in
    let others = ids_formed values parts.1 in
    (ap suc others.0, both (is_short_name t) (list_all is_short_name (texts_of values)) parts.0 others.1)
ids_formed (other ∷ values) each = absurd cc

-- 1 to 100 ids
id_bounds : (ms : Members) → IsSoundMember (Required member.Ids syntax.Ids) ms → are_ids_formed (texts_of (values_in member.Ids ms)) ≡ true
id_bounds ms sound =
    let values = values_in member.Ids ms in
    let parts = and_parts (is_count_few (length values)) (list_all is_id values)
    (few_values syntax.Ids member.Ids is_id 100 (given member.Ids ms) (λ tree is. is) sound) in
    let formed = ids_formed values parts.1 in
    both (is_count_few (length (texts_of values))) (list_all is_short_name (texts_of values))
    (subst (λ n. is_count_few n ≡ true) (sym formed.0) parts.0) formed.1

entry_bus : (o : Option (List ℕ)) (bus : List ℕ) → bus_of_entry o ≡ Some bus → IsBusName bus
entry_bus None bus is = let same : default_bus ≡ bus = cc in subst IsBusName same default_is_name
entry_bus (Some t) bus is = ((bus_given t bus).0 is).0

each_for_bus : (reading : ℕ) (caller : List ℕ) (entries : List Entry) (all : List (Result Unnumbered EntryFault)) → AreChecked reading caller entries all
    → All IsForBus all
each_for_bus reading caller [] all checked = rw checked (All-nil IsForBus)
each_for_bus reading caller (e ∷ entries) all checked =
    rw checked.2 (All-cons IsForBus checked.0 checked.1 (one checked.0 checked.3) (each_for_bus reading caller entries checked.1 checked.4))
  where
    one : (r : Result Unnumbered EntryFault) → IsChecked reading caller e r → IsForBus r
    one (Ok u) is = subst IsBusName (sym is.3) (entry_bus e.bus is.0.bus is.1.bus)
    one (Err f) is = tt

-- 1 to 10 entries, each for a bus
entry_bounds : (ms : Members) (reading : ℕ) (caller : List ℕ) (all : List (Result Unnumbered EntryFault))
    → IsSoundMember (Required member.Entries syntax.Entries) ms
    → AreChecked reading caller (entries_of (values_in member.Entries ms)) all → (1 ≤ length all) × (length all ≤ 10) × All IsForBus all
entry_bounds ms reading caller all sound checked =
    let values = values_in member.Entries ms in
    let some = few is_entry 10 values (few_values syntax.Entries member.Entries is_entry 10 (given member.Entries ms) (λ tree is. is) sound) in
    let same = length-map values (λ tree. entry_with (members_in tree)) in
    let each = checked_len reading caller (entries_of values) all checked in
    (omega (arith, some.0, same, each), omega (arith, some.1, same, each), each_for_bus reading caller (entries_of values) all checked)

-- a number that is given is within its limits, and so is the default
count_bounds : (least most default : ℕ) (v : Option Tree) → least ≤ default → default ≤ most
    → (least ≤ unwrap_or (count_given least most v) default) × (unwrap_or (count_given least most v) default ≤ most)
count_bounds least most default v some fits = by_count (count_given least most v) (within_limits least most v)
  where
    by_count : (o : Option ℕ) → ((m : ℕ) → o ≡ Some m → (least ≤ m) × (m ≤ most)) → (least ≤ unwrap_or o default) × (unwrap_or o default ≤ most)
    by_count None within = (some, fits)
    by_count (Some m) within = within m refl

-- what is stored of a policy's text is a policy as it is stored
policy_bounds : (t stored : List ℕ) → IsStoredAs t stored → (value : Tree) × IsStored value × (stored ≡ compact_text value)
policy_bounds t stored p =
    let spelled = p.1.spelled in
    let is_value = subst IsValue spelled.spelled.stands_for (text_is_value 100 t spelled.spelled.node spelled.spelled.spelled) in
    (p.0, read_stored p.1.value p.0 is_value spelled.is_policy p.1.is_stored, p.2)

-- a statement is for an account or for everyone
grantee_in : (t : List ℕ) → IsGrantee t → IsAccountGiven (account_in t)
grantee_in t (inl all) = rw all tt
grantee_in t (inr account) = given_or_everyone (bytes_eq t (codes "*"))
  where
    given_or_everyone : (all : Bool) → IsAccountGiven (if all then None else Some t)
    given_or_everyone true = tt
    given_or_everyone false = account

grantee : (ms : Members) → IsSoundMember (Required member.Principal syntax.Principal) ms → IsAccountGiven (account_in (text_of member.Principal ms))
grantee ms sound =
    grantee_in (text_of member.Principal ms) (valid_text IsGrantee syntax.Principal member.Principal (given member.Principal ms) (λ t is. is) sound)

removal_bounded : (bus : List ℕ) (sid : Option (List ℕ)) (all : Bool) → IsBusName bus → IsStatementIdIfGiven sid
    → IsBounded (if all then remove_policy bus else remove_statement bus sid)
removal_bounded bus sid true named id = (named, tt)
removal_bounded bus sid false named id = (named, id)

deletion_bounded : (queue : List ℕ) (o : Option ℕ) → IsQueueName queue → ((m : ℕ) → o ≡ Some m → (0 ≤ m) × (m ≤ 281474976710655))
    → IfSome (option_map (delete_messages queue) o) IsBounded
deletion_bounded queue None named within = tt
deletion_bounded queue (Some m) named within =
    let low = (within m refl).1 in
    (named, omega (arith, low))

few_days : (n : ℕ) → n ≤ 2147483647 → nat_le n most_days ≡ true
few_days n within = grind (arith, nat_tests)

-- the days of an archive, 0 if none are given
days_bounds : (ms : Members) → nat_le (unwrap_or (days_given ms) 0) most_days ≡ true
days_bounds ms =
    few_days (unwrap_or (days_given ms) 0) (count_bounds 0 2147483647 0 (given member.RetentionDays ms) (omega arith) (omega arith)).1

creation_bounded : (ms : Members) → AreSound (asked CreateArchive ms) ms
    → IfSome (option_map (creation_in ms) (bus_of_source (text_of member.EventSourceArn ms))) IsBounded
creation_bounded ms sound = by (bus_of_source (text_of member.EventSourceArn ms)) refl
  where
    by : (o : Option (List ℕ)) → bus_of_source (text_of member.EventSourceArn ms) ≡ o → IfSome (option_map (creation_in ms) o) IsBounded
    by None is = tt
    by (Some bus) is =
        let days = unwrap_or (days_given ms) 0 in
        let formed = both (is_archive_name (text_of member.ArchiveName ms)) (is_bus_name bus && nat_le days most_days) (archive_name ms sound.0)
        (both (is_bus_name bus) (nat_le days most_days) (bus_found (text_of member.EventSourceArn ms) bus is) (days_bounds ms)) in
        (formed, pattern_if_given (given member.EventPattern ms) sound.1.1.0)

-- the moment of a time that is given
time_bounds : (v : Option Tree) (moment : ℕ) → IsTimeGiven v moment → IsMoment moment
time_bounds None moment is = absurd is
time_bounds (Some (number spelling)) moment is = is.0
time_bounds (Some (text t)) moment is = is.0
time_bounds (Some other) moment is = absurd is

-- the bus of a destination
destination_bus : (v : Option Tree) (bus : List ℕ) → option_and_then destination_of v ≡ Some bus → IsBusName bus
destination_bus None bus is = absurd (cc)
destination_bus (Some tree) bus is = by_arn (text_given member.Arn (members_in tree)) is
  where
    by_arn : (o : Option (List ℕ)) → option_and_then bus_of_source o ≡ Some bus → IsBusName bus
    by_arn None is = absurd (cc)
    by_arn (Some t) is = bus_found t bus is

-- the rules of its filter
filter_bounds : (bus : List ℕ) (v : Option Tree) → IfSome (option_and_then (filter_given bus) v) (All IsShortName)
filter_bounds bus None = tt
filter_bounds bus (Some tree) = by_filter (filter_in tree)
  where
    by_filter : (o : Option Tree) → IfSome (option_map (λ filter. names_of_rules bus (unwrap_or (list_in filter) [])) o) (All IsShortName)
    by_filter None = tt
    by_filter (Some filter) = rules_found bus (unwrap_or (list_in filter) [])

start_bounded : (ms : Members) (a : Action) → AreSound (asked StartReplay ms) ms → IsStartGiven ms a → IsBounded a
start_bounded ms a sound s = rw s.is record {
  name = replay_name ms sound.0;
  archive = archive_found (text_of member.EventSourceArn ms) s.archive s.archive_is;
  bus_name = destination_bus (given member.Destination ms) s.bus s.bus_is;
  start = time_bounds (given member.EventStartTime ms) s.start s.start_is;
  end = time_bounds (given member.EventEndTime ms) s.end s.end_is;
  rules = filter_bounds s.bus (given member.Destination ms);
}

-- each operation whose action is a function of its members
bounded : (operation : Operation) (ms : Members) → AreSound (asked operation ms) ms → IfSome (action_in operation ms) IsBounded
bounded CreateEventBus ms sound = (bus_name member.Name ms sound.0, tt)
bounded DeleteEventBus ms sound = (bus_name member.Name ms sound.0, tt)
bounded DescribeEventBus ms sound = named_bus member.Name ms
bounded ListEventBuses ms sound = tt
bounded PutRule ms sound = (rule_named member.Name ms sound.0, pattern_text member.EventPattern ms sound.1.0)
bounded DeleteRule ms sound = (rule_named member.Name ms sound.0, tt)
bounded EnableRule ms sound = (rule_named member.Name ms sound.0, tt)
bounded DisableRule ms sound = (rule_named member.Name ms sound.0, tt)
bounded DescribeRule ms sound = rule_named member.Name ms sound.0
bounded ListRules ms sound = named_bus member.EventBusName ms
bounded RemoveTargets ms sound =
    (both (names_rule (event_bus ms) (text_of member.Rule ms)) (are_ids_formed (texts_of (values_in member.Ids ms))) (rule_named member.Rule ms sound.0) (id_bounds ms sound.1.1.0), tt)
bounded ListTargetsByRule ms sound = rule_named member.Rule ms sound.0
bounded ListRuleNamesByTarget ms sound = (named_bus member.EventBusName ms, target_arn ms sound.0)
bounded RemovePermission ms sound =
    removal_bounded (event_bus ms) (text_given member.StatementId ms) (removes_all (given member.RemoveAllPermissions ms))
    (named_bus member.EventBusName ms) (id_if_given (given member.StatementId ms) sound.1.1.0)
bounded CreateArchive ms sound = creation_bounded ms sound
bounded UpdateArchive ms sound = (
  both (is_archive_name (text_of member.ArchiveName ms)) (nat_le (unwrap_or (days_given ms) 0) most_days) (archive_name ms sound.0) (days_bounds ms),
  pattern_if_given (given member.EventPattern ms) sound.1.0,
)
bounded DeleteArchive ms sound = (archive_name ms sound.0, tt)
bounded DescribeArchive ms sound = archive_name ms sound.0
bounded ListArchives ms sound = tt
bounded CancelReplay ms sound = replay_name ms sound.0
bounded DescribeReplay ms sound = replay_name ms sound.0
bounded ListReplays ms sound = tt
bounded CreateQueue ms sound = (queue_name ms sound.0, tt)
bounded DeleteQueue ms sound = (queue_name ms sound.0, tt)
bounded PeekMessages ms sound =
    let counted = count_bounds 1 1000 10 (given member.Limit ms) (omega arith) (omega arith) in
    (queue_name ms sound.0, counted.0, counted.1)
bounded DeleteMessages ms sound =
    deletion_bounded (text_of member.QueueName ms) (count_given 0 281474976710655 (given member.Through ms)) (queue_name ms sound.0)
    (within_limits 0 281474976710655 (given member.Through ms))
bounded DeliverDue ms sound = count_bounds 1 1000 100 (given member.Budget ms) (omega arith) (omega arith)
bounded StepReplays ms sound = count_bounds 1 1000 100 (given member.Budget ms) (omega arith) (omega arith)
bounded DutyCounts ms sound = tt
bounded _ ms sound = tt

permission_bounded : (v : Option Tree) (ms : Members) (a : Action) → AreSound (permission_asked v) ms → IsPermission v ms a → IsBounded a
permission_bounded None ms a sound is = rw is (named_bus member.EventBusName ms, statement_id ms sound.1.0, grantee ms sound.1.1.1.0)
permission_bounded (Some given) ms a sound is =
    rw is.2 (named_bus member.EventBusName ms, policy_bounds (text_of member.Policy ms) is.0 is.1)

action_bounded : (operation : Operation) (caller : List ℕ) (ms : Members) (reading : ℕ) (a : Action) → AreSound (asked operation ms) ms
    → IsAction operation caller ms reading a → IsBounded a
action_bounded PutTargets caller ms reading a sound is =
    let bounds = target_bounds ms is.0 sound.1.1.0 is.1 in
    rw is.2 (rule_named member.Rule ms sound.0, bounds.0, bounds.1, bounds.2)
action_bounded PutPermission caller ms reading a sound is = permission_bounded (given member.Policy ms) ms a sound is
action_bounded PutEvents caller ms reading a sound is = rw is.2 (entry_bounds ms reading caller is.0 sound.0 is.1)
action_bounded TestEventPattern caller ms reading a sound is =
    rw is.2 (pattern_text member.EventPattern ms sound.0, event_is_value (text_of member.Event ms) is.0 is.1)
action_bounded StartReplay caller ms reading a sound is = start_bounded ms a sound is
action_bounded operation caller ms reading a sound is = subst (λ o. IfSome o IsBounded) is (bounded operation ms sound)

pub asked_bounded : (m : Message) (reading : ℕ) (r : Request) → IsAsked m reading r → IsBounded r.action
asked_bounded m reading r p = action_bounded p.operation (caller_of m.caller) p.members reading r.action p.sound p.action
