-- The duties of an answer's events name their rules, if the rules are named by the ends of their ARNs: `BatchNames`, `answer_names`.
-- So do the duties of a step of the replays: `repeat_names`.
use Rattle.std.proofs.Common.{◌≡◌, ℕ, ◌+◌, Bool, true, false, cond, inl, inr, List, [], ◌∷◌, map, filter, Option, Some, None, Result, Ok, Err, refl, sym, subst}
use Rattle.std.specs.Prelude.{All, nat_lt}
use Rattle.std.specs.List.{AllByRecursion}
use Rattle.std.proofs.lemmas.List.Elements.{All-nil, All-cons, All-head, All-tail, All-append}
use Rattle.json_text.specs.Tree.{Tree}
use Rattle.json_text.specs.Limits.{most_together}
use Rattle.input_transform.specs.Names.{after_slash}
use Rattle.event_shape.specs.Event.{event_tree}
use Rattle.event_shape.specs.Unnumbered.{Unnumbered, with_number}
use Rattle.event_shape.specs.declared.entry.EntryFault.{EntryFault}
use Rattle.rule_targets.specs.declared.target.Target.{Target}
use Rattle.rule_table.specs.RuleSet.{Bus, Rule, RuleSet, rules_of, rules_in}
use Rattle.rule_table.proofs.RowLemmas.{All_named}
use Rattle.name_rows.specs.Rows.{named}
use Rattle.delivery_duties.specs.declared.duty.NewDuty.{NewDuty}
use Rattle.entry_bytes.specs.Duty.{IsNamed}
use Rattle.router_requests.specs.Batch as batch
use Rattle.router_requests.specs.Batch.{Batch}
use Rattle.router_requests.specs.Request.{Action, Request, put_events, IsPublishing}
use Rattle.router_core.specs.Tables.{Tables, is_full, moment_at}
use Rattle.router_requests.specs.Duties.{AreDuties}
use Rattle.router_core.specs.Replaying.{IsReplayStep, passes, rules_for}
use Rattle.router_requests.specs.Matching.{AreMatched, AreTargetsOf, AreSeenEntries, IsSeenResult, seen_target}
use Rattle.router_requests.specs.declared.seen.SeenEntry.{SeenEntry}
use Rattle.router_requests.specs.declared.seen.SeenResult.{SeenResult}
use Rattle.router_requests.specs.declared.seen.SeenResult.TheVariants.{Entries, Tested, Nothing}
use Rattle.router_requests.specs.declared.seen.SeenTarget.{SeenTarget}
use Rattle.router_requests.specs.declared.seen.SeenVerdict.{SeenVerdict}
use Rattle.router_requests.specs.declared.seen.SeenVerdict.TheVariants.{Allowed, NoBus, DeniedBy, NotAllowed, Fault}
use Rattle.router_calls.specs.Accepted.{Given, Placed, Found, found_of, numbered_tree, IsEventPlaced, IsPlaced, ArePlaced, number_after, events_in}
use Rattle.api_replies.specs.Reply.{Reply}
use Rattle.api_replies.specs.declared.cause.Cause.TheVariants.{TooLargeTogether}
use Rattle.resource_calls.specs.Decision.{refusal}
use Rattle.router_calls.specs.Answer.{Answer, IsAnswer, HasPlaced, decided, published, publication, written, answer_at}
use Rattle.router_calls.proofs.FormLemmas.{AreOf, WritesOf, request_form}
use Rattle.duty_journal.specs.Batch.{NamesRules}
use Rattle.duty_journal.specs.Named.{AreNamedByArns, IsNamedByArn}

-- a target whose rule is named by the end of its ARN
abbrev IsNamedTarget : SeenTarget → Type 0
IsNamedTarget seen = seen.row.rule_name ≡ after_slash seen.row.rule_arn

targets_named : (rule : Rule) (targets : List Target) → IsNamedByArn rule → All IsNamedTarget (map (seen_target rule) targets)
targets_named rule [] is = All-nil IsNamedTarget
targets_named rule (target ∷ targets) is = All-cons IsNamedTarget (seen_target rule target) (map (seen_target rule) targets) is (targets_named rule targets is)

matched_named : (rules : List Rule) (event : Tree) (targets : List SeenTarget) → All IsNamedByArn rules → AreMatched rules event targets → All IsNamedTarget targets
matched_named [] event targets all none = subst (All IsNamedTarget) (sym none) (All-nil IsNamedTarget)
matched_named (rule ∷ rules) event targets all (rest, more, either) =
    let later = matched_named rules event rest (All-tail IsNamedByArn rule rules all) more in
    elim either [
      | inl (matches, is) ↦ subst (All IsNamedTarget) (sym is)
          (All-append IsNamedTarget (map (seen_target rule) rule.targets) rest (targets_named rule rule.targets (All-head IsNamedByArn rule rules all)) later)
      | inr (other, is) ↦ subst (All IsNamedTarget) (sym is) later
    ]

rules_named : (found : Option Bus) (bus : List ℕ) (set : RuleSet) → named (λ b. b.name) bus set.buses ≡ found → AreNamedByArns set → All IsNamedByArn (rules_in found)
rules_named None bus set is all = All-nil IsNamedByArn
rules_named (Some b) bus set is all = All_named (λ (b : Bus). All IsNamedByArn b.rules) (λ b. b.name) bus set.buses b is all

of_verdict : (set : RuleSet) (entry : Result Unnumbered EntryFault) (verdict : SeenVerdict) (targets : List SeenTarget) → AreNamedByArns set
    → AreTargetsOf set entry verdict targets → All IsNamedTarget targets
of_verdict set (Ok event) Allowed targets all are =
    matched_named (rules_of event.bus set) (event_tree (with_number 0 event.event) None) targets
    (rules_named (named (λ b. b.name) event.bus set.buses) event.bus set refl all) (are 0)
of_verdict set (Ok event) NoBus targets all none = subst (All IsNamedTarget) (sym none) (All-nil IsNamedTarget)
of_verdict set (Ok event) (DeniedBy name) targets all none = subst (All IsNamedTarget) (sym none) (All-nil IsNamedTarget)
of_verdict set (Ok event) NotAllowed targets all none = subst (All IsNamedTarget) (sym none) (All-nil IsNamedTarget)
of_verdict set (Ok event) (Fault fault) targets all none = subst (All IsNamedTarget) (sym none) (All-nil IsNamedTarget)
of_verdict set (Err fault) verdict targets all none = subst (All IsNamedTarget) (sym none) (All-nil IsNamedTarget)

-- the duties of targets
duties_named : (event : Tree) (time : List ℕ) (targets : List SeenTarget) (duties : List NewDuty) → All IsNamedTarget targets → AreDuties event time targets duties
    → AllByRecursion IsNamed duties
duties_named event time [] duties all none = subst (AllByRecursion IsNamed) (sym none) tt
duties_named event time (seen ∷ targets) [] all are = absurd are
duties_named event time (seen ∷ targets) (duty ∷ duties) all are =
    let is : IsNamed duty = subst IsNamed (sym are.0.is) (All-head IsNamedTarget seen targets all) in
    (is, duties_named event time targets duties (All-tail IsNamedTarget seen targets all) are.1)

-- what an entry became
abbrev HasNames : Placed → Type 0
HasNames (Ok a) = AllByRecursion IsNamed a.duties
HasNames (Err c) = Unit {0}

placed_names : (k n : ℕ) (time : List ℕ) (entry : Given) (found : Found) (p : Placed) → All IsNamedTarget found.targets → IsPlaced k n time entry found p → HasNames p
placed_names k n time (Ok event) found p all is = by found.verdict p is
  where
    by : (verdict : SeenVerdict) (p : Placed) → IsEventPlaced k n time event verdict found.targets found.archives p → HasNames p
    by Allowed p (a, accepts, same) = subst HasNames (sym same) (duties_named (numbered_tree n event) time found.targets a.duties all accepts.duties)
    by NoBus p same = subst HasNames (sym same) tt
    by (DeniedBy name) p same = subst HasNames (sym same) tt
    by NotAllowed p same = subst HasNames (sym same) tt
    by (Fault fault) p same = subst HasNames (sym same) tt
placed_names k n time (Err fault) found p all same = subst HasNames (sym same) tt

all_names : (k n : ℕ) (time : List ℕ) (set : RuleSet) (caller : List ℕ) (entries : List Given) (seen : List SeenEntry) (placed : List Placed) → AreNamedByArns set
    → AreSeenEntries set caller entries seen → ArePlaced k n time entries (map (found_of set) seen) placed
    → AllByRecursion NamesRules (map batch.accepted (events_in placed))
all_names k n time set caller [] seen placed all are none = subst (λ (ps : List Placed). AllByRecursion NamesRules (map batch.accepted (events_in ps))) (sym none) tt
all_names k n time set caller (entry ∷ entries) [] placed all are is = absurd are
all_names k n time set caller (entry ∷ entries) (s ∷ seen) [] all are is = absurd is
all_names k n time set caller (entry ∷ entries) (s ∷ seen) (p ∷ placed) all are is =
    let one : HasNames p = placed_names k n time entry (found_of set s) p (of_verdict set entry s.verdict s.targets.items all are.0.targets) is.0 in
    with_one p one (all_names k (number_after n p) time set caller entries seen placed all are.1 is.1)
  where
    with_one : (p : Placed) → HasNames p → AllByRecursion NamesRules (map batch.accepted (events_in placed)) → AllByRecursion NamesRules (map batch.accepted (events_in (p ∷ placed)))
    with_one (Ok a) one rest = (one, rest)
    with_one (Err c) one rest = rest

-- operations of another request than a PutEvents
others_names : (t : Tables) (action : Action) (es : List batch.Entry) → (IsPublishing action → ⊥) → AreOf t action es → AllByRecursion NamesRules es
others_names t action [] other of = tt
others_names t action (batch.control c ∷ es) other of = (tt, others_names t action es other of.1)
others_names t action (batch.accepted e ∷ es) other of = absurd (other of.0)
others_names t action (batch.attempt duty outcome ∷ es) other of = absurd of.0
others_names t action (batch.replay_started s ∷ es) other of = (tt, others_names t action es other of.1)
others_names t action (batch.replay_stepped s ∷ es) other of = absurd of.0
others_names t action (batch.replay_cancelled name ∷ es) other of = (tt, others_names t action es other of.1)
others_names t action (batch.messages_deleted queue through ∷ es) other of = (tt, others_names t action es other of.1)

-- the batch of an answer, if it has one
abbrev pub BatchNames : Option Batch → Type 0
BatchNames None = Unit {0}
BatchNames (Some b) = AllByRecursion NamesRules b.entries

either_names : (b : Bool) (x y : Answer) → BatchNames x.batch → BatchNames y.batch → BatchNames (cond b x y).batch
either_names true x y p q = p
either_names false x y p q = q

written_names : (t : Tables) (moment : ℕ) (es : List batch.Entry) (reply : Reply) → AllByRecursion NamesRules es → BatchNames (written t moment es reply).batch
written_names t moment [] reply names = tt
written_names t moment (e ∷ es) reply names = either_names (is_full t) _ _ tt names

other_names : (t : Tables) (action : Action) (b : Option Batch) → (IsPublishing action → ⊥) → WritesOf t action b → BatchNames b
other_names t action None other of = tt
other_names t action (Some b) other of = others_names t action b.entries other of

published_names : (t : Tables) (caller : List ℕ) (k : ℕ) (time : List ℕ) (entries : List Given) (size : ℕ) (seen : SeenResult) (placed : List Placed)
    → AreNamedByArns t.set → IsSeenResult t.set caller (put_events entries size) seen → HasPlaced t k time seen (put_events entries size) placed
    → AllByRecursion NamesRules (publication placed size).entries
published_names t caller k time entries size (Entries all) placed are is has =
    (elim (nat_lt most_together size) as (λ b. nat_lt most_together size ≡ b
    → AllByRecursion NamesRules (cond b (refusal TooLargeTogether) (published placed)).entries) [
      | true ↦ λ e. tt
      | false ↦ λ e. all_names k (t.events + 1) time t.set caller entries all.items placed are is (has e)
    ]) refl
published_names t caller k time entries size (Tested matches) placed are is has = absurd is
published_names t caller k time entries size Nothing placed are is has = absurd is

by_action : (action : Action) (t : Tables) (caller : List ℕ) (k : ℕ) (time : List ℕ) (seen : SeenResult) (placed : List Placed) (policy : Option Tree) (moment : ℕ)
    (a : Answer) → AreNamedByArns t.set → IsSeenResult t.set caller action seen → HasPlaced t k time seen action placed → WritesOf t action a.batch
    → a ≡ answer_at t moment (decided t moment seen placed policy action) → BatchNames a.batch
by_action (put_events entries size) t caller k time seen placed policy moment a are is has of same =
    subst (λ (x : Answer). BatchNames x.batch) (sym same)
    (written_names t moment (publication placed size).entries (publication placed size).reply (published_names t caller k time entries size seen placed are is has))
by_action action t caller k time seen placed policy moment a are is has of same = other_names t action a.batch (λ publishes. publishes) of

-- the batch that answers a request on the tables' own rule set
pub answer_names : (t : Tables) (r : Request) (k : ℕ) (a : Answer) → AreNamedByArns t.set → IsAnswer t r k t.set a → BatchNames a.batch
answer_names t r k a are h =
    by_action r.action t r.caller k h.time h.seen h.placed h.policy (moment_at t r.reading) a are h.is_seen h.has_placed (request_form h).writes h.answers

-- the rules that a test leaves
left_named : (test : Rule → Bool) (rules : List Rule) → All IsNamedByArn rules → All IsNamedByArn (filter test rules)
left_named test [] all = all
left_named test (rule ∷ rules) all = by (left_named test rules (All-tail IsNamedByArn rule rules all)) (test rule)
  where
    by : All IsNamedByArn (filter test rules) → (b : Bool) → All IsNamedByArn (cond b (rule ∷ filter test rules) (filter test rules))
    by rest true = All-cons IsNamedByArn rule (filter test rules) (All-head IsNamedByArn rule rules all) rest
    by rest false = rest

-- the batch that makes the next step of the replays
pub repeat_names : (t : Tables) (moment : ℕ) (b : Batch) → AreNamedByArns t.set → IsReplayStep t moment b → BatchNames (Some b)
repeat_names t moment b are step =
    let settings = step.next.row.settings in
    let event : Tree = event_tree step.event (Some step.name) in
    let rules : All IsNamedByArn (rules_for settings t.set) =
    left_named (λ rule. passes settings.rules rule.name) (rules_of settings.bus t.set)
    (rules_named (named (λ b. b.name) settings.bus t.set.buses) settings.bus t.set refl are) in
    subst (λ x. BatchNames (Some x)) (sym step.is)
    (duties_named event step.time step.targets step.duties (matched_named (rules_for settings t.set) event step.targets rules step.matched) step.owed, tt)
