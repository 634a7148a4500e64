-- The members of an operation make at most one action: `one_action`.
use Rattle.std.proofs.Common.{◌≡◌, ℕ, ◌-◌, ◌^◌, List, [], ◌∷◌, Option, Some, None, refl, sym, ap, ◌∙◌}
use Rattle.std.specs.Prelude.{min, option_and_then}
use Rattle.json_text.specs.Tree.{Tree, Members}
use Rattle.json_text.specs.Compact.{compact_text}
use Rattle.bus_policy.proofs.ReadLemmas.{one_policy}
use Rattle.rule_targets.specs.declared.given.GivenInput.{GivenInput}
use Rattle.rule_targets.specs.declared.target.AskedInput.{AskedInput}
use Rattle.rule_targets.specs.declared.target.AskedInput.TheVariants as asked
use Rattle.rule_targets.specs.declared.target.AskedTarget.{AskedTarget}
use Rattle.rule_targets.specs.Target.{IsAskedAs}
use Rattle.event_shape.proofs.CheckedOnce.{given_once}
use Rattle.router_requests.specs.Request.{Action, put_targets, put_policy, put_events, test_event_pattern, start_replay}
use Rattle.api_replies.specs.declared.member.Member.TheVariants as member
use Rattle.api_members.specs.Given.{given, text_of, values_in, members_in}
use Rattle.api_members.specs.Target.{input_given, path_given, transformer_given}
use Rattle.api_members.specs.Entry.{entries_of}
use Rattle.api_members.specs.CheckedEntry.{total_size}
use Rattle.api_members.specs.Value.{destination_of, filter_given, archive_of_source, IsTimeGiven}
use Rattle.api_members.proofs.CheckedLemmas.{one_checking}
use Rattle.api_members.proofs.TextLemmas.{one_event}
use Rattle.api_wire.specs.declared.call.operation.Operation.{Operation}
use Rattle.api_wire.specs.declared.call.operation.Operation.TheVariants.{PutTargets, PutPermission, PutEvents, TestEventPattern, StartReplay}
use Rattle.api_wire.specs.Call.{event_bus, IsStoredAs, IsTargetWith, AreTargets, action_in, IsPermission, IsStartGiven, IsAction}

one_stored : (t a b : List ℕ) → IsStoredAs t a → IsStoredAs t b → a ≡ b
one_stored t a b p q = p.2 ∙ ap compact_text (one_policy t p.0 q.0 p.1 q.1) ∙ sym q.2

one_permission : (v : Option Tree) (ms : Members) (a b : Action) → IsPermission v ms a → IsPermission v ms b → a ≡ b
one_permission None ms a b p q = p ∙ sym q
one_permission (Some given) ms a b p q =
    p.2 ∙ ap (put_policy (event_bus ms)) (one_stored (text_of member.Policy ms) p.0 q.0 p.1 q.1) ∙ sym q.2

same_found : (o : Option Action) (a b : Action) → o ≡ Some a → o ≡ Some b → a ≡ b
same_found o a b p q =
    let both : Some a ≡ Some b = sym p ∙ q in
    cc

one_member : (o : Option GivenInput) (a b : AskedInput) → IsAskedAs o a → IsAskedAs o b → a ≡ b
one_member None a b p q = p ∙ sym q
one_member (Some g) asked.Absent b p q = absurd p
one_member (Some g) asked.NotValid asked.Absent p q = absurd q
one_member (Some g) asked.NotValid asked.NotValid p q = refl
one_member (Some g) asked.NotValid (asked.Read h) p q = absurd (p q.1)
one_member (Some g) (asked.Read h) asked.Absent p q = absurd q
one_member (Some g) (asked.Read h) asked.NotValid p q = absurd (q p.1)
one_member (Some g) (asked.Read h) (asked.Read i) p q = ap asked.Read (p.0 ∙ sym q.0)

one_target : (ms : Members) (a b : AskedTarget) → IsTargetWith ms a → IsTargetWith ms b → a ≡ b
one_target ms a b p q =
    let id : a.id ≡ b.id = p.id ∙ sym q.id in
    let arn : a.arn ≡ b.arn = p.arn ∙ sym q.arn in
    let input = one_member (input_given ms) a.input b.input p.input q.input in
    let path = one_member (path_given ms) a.input_path b.input_path p.input_path q.input_path in
    let transformer = one_member (transformer_given ms) a.transformer b.transformer p.transformer q.transformer in
    let retry : a.retry ≡ b.retry = p.retry ∙ sym q.retry in
    let dead : a.dead_letter ≡ b.dead_letter = p.dead_letter ∙ sym q.dead_letter in
    λ i. record {
      id = id i;
      arn = arn i;
      input = input i;
      input_path = path i;
      transformer = transformer i;
      retry = retry i;
      dead_letter = dead i;
    }

one_reading : (trees : List Tree) (xs ys : List AskedTarget) → AreTargets trees xs → AreTargets trees ys → xs ≡ ys
one_reading [] xs ys p q = p ∙ sym q
one_reading (tree ∷ trees) xs ys p q =
    let first = one_target (members_in tree) p.0 q.0 p.3 q.3 in
    let others = one_reading trees p.1 q.1 p.4 q.4 in
    p.2 ∙ (λ i. first i ∷ others i) ∙ sym q.2

same_text : (o : Option (List ℕ)) (a b : List ℕ) → o ≡ Some a → o ≡ Some b → a ≡ b
same_text o a b p q =
    let both : Some a ≡ Some b = sym p ∙ q in
    cc

one_time : (v : Option Tree) (n m : ℕ) → IsTimeGiven v n → IsTimeGiven v m → n ≡ m
one_time None n m p q = absurd p
one_time (Some tree) n m p q = given_once tree n m p q

one_start : (ms : Members) (a b : Action) → IsStartGiven ms a → IsStartGiven ms b → a ≡ b
one_start ms a b p q =
    let archive : p.archive ≡ q.archive = same_text (archive_of_source (text_of member.EventSourceArn ms)) p.archive q.archive p.archive_is q.archive_is in
    let start : p.start ≡ q.start = one_time (given member.EventStartTime ms) p.start q.start p.start_is q.start_is in
    let end : p.end ≡ q.end = one_time (given member.EventEndTime ms) p.end q.end p.end_is q.end_is in
    let bus : p.bus ≡ q.bus = same_text (option_and_then destination_of (given member.Destination ms)) p.bus q.bus p.bus_is q.bus_is in
    p.is ∙ (λ i. start_replay (record {
      name = text_of member.ReplayName ms;
      archive = archive i;
      range = record { start = start i; end = end i };
      rules = option_and_then (filter_given (bus i)) (given member.Destination ms);
    }) (bus i)) ∙ sym q.is

pub one_action : (operation : Operation) (caller : List ℕ) (ms : Members) (reading : ℕ) (a b : Action) → IsAction operation caller ms reading a
    → IsAction operation caller ms reading b → a ≡ b
one_action PutTargets caller ms reading a b p q =
    p.2 ∙ ap (put_targets (event_bus ms) (text_of member.Rule ms)) (one_reading (values_in member.Targets ms) p.0 q.0 p.1 q.1) ∙ sym q.2
one_action PutPermission caller ms reading a b p q = one_permission (given member.Policy ms) ms a b p q
one_action PutEvents caller ms reading a b p q =
    let entries = one_checking reading caller (entries_of (values_in member.Entries ms)) p.0 q.0 p.1 q.1 in
    p.2 ∙ (λ i. put_events (entries i) (min (total_size (entries_of (values_in member.Entries ms))) (2 ^ 64 - 1))) ∙ sym q.2
one_action TestEventPattern caller ms reading a b p q =
    p.2 ∙ ap (test_event_pattern (text_of member.EventPattern ms)) (one_event (text_of member.Event ms) p.0 q.0 p.1 q.1) ∙ sym q.2
one_action StartReplay caller ms reading a b p q = one_start ms a b p q
one_action operation caller ms reading a b p q = same_found (action_in operation ms) a b p q
