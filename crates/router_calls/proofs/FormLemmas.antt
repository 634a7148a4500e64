-- The form of an answer: its reply has a status of those that are written from a value, and its batch, if there is one, has only operations
-- that its action asks for. `request_form` says so of each request; `its_change` follows, which the law of src/laws.rt cites.
use Rattle.std.proofs.Common.{◌≡◌, ℕ, inl, inr, Bool, true, false, List, [], ◌∷◌, map, Option, Some, None, sym, refl, subst}
use Rattle.std.specs.Prelude.{All, cond, is_some, length, nat_lt, not, ◌&&◌}
use Rattle.std.specs.List.{Contains}
use Rattle.std.specs.Str.{bytes_eq}
use Rattle.std.proofs.lemmas.List.Elements.{All-cons, All-nil, All-contains}
use Rattle.json_text.specs.Limits.{most_together}
use Rattle.json_text.specs.Tree.{Tree}
use Rattle.name_rows.specs.Rows.{named}
use Rattle.rule_table.specs.declared.control.ControlFault.{ControlFault}
use Rattle.rule_table.specs.Control.{Control, bus_deleted}
use Rattle.rule_table.specs.Refusal as table
use Rattle.archive_keep.specs.Archive.{Archive}
use Rattle.archive_keep.specs.Archives.{name_of}
use Rattle.rule_table.specs.RuleSet.{Archive as Row, Rule, Bus, RuleSet, archive_at, has_bus, has_queue, rule_at}
use Rattle.delivery_duties.specs.Duties.{names_queue}
use Rattle.replay_run.specs.declared.row.ReplayRow.{ReplayRow}
use Rattle.replay_run.specs.Replays.{is_running, is_sent_to, most_running, running}
use Rattle.replay_run.specs.Replays as replays
use Rattle.delivery_queues.specs.declared.stored.StoredMessage.{StoredMessage}
use Rattle.delivery_queues.specs.Queues.{messages_of, messages_through}
use Rattle.api_replies.specs.declared.kind.Kind.TheVariants as kind
use Rattle.api_replies.specs.declared.member.Member.TheVariants as member
use Rattle.api_replies.specs.declared.cause.Cause.{Cause}
use Rattle.api_replies.specs.declared.cause.Cause.TheVariants as cause
use Rattle.api_replies.specs.Reply.{Reply}
use Rattle.api_replies.specs.Written.{IsServedStatus}
use Rattle.config_views.specs.Views as views
use Rattle.config_views.specs.Archives as shown_of
use Rattle.config_views.specs.Replays as replay_views
use Rattle.call_replies.specs.Causes.{change_cause}
use Rattle.router_requests.specs.Batch as batch
use Rattle.router_requests.specs.Request.{Action, Request, create_event_bus, delete_event_bus, describe_event_bus, list_event_buses, put_rule, delete_rule}
use Rattle.router_requests.specs.Request.{put_rule_state, describe_rule, list_rules, put_targets, remove_targets, list_targets_by_rule}
use Rattle.router_requests.specs.Request.{list_rule_names_by_target, put_policy, put_statement, remove_policy, remove_statement, put_events}
use Rattle.router_requests.specs.Request.{test_event_pattern, create_archive, update_archive, delete_archive, describe_archive, list_archives}
use Rattle.router_requests.specs.Request.{start_replay, cancel_replay, describe_replay, list_replays, step_replays}
use Rattle.router_requests.specs.Request.{create_queue, delete_queue, peek_messages, delete_messages, duty_counts, deliver_due}
use Rattle.router_requests.specs.declared.batch.StartedReplay.{StartedReplay}
use Rattle.router_requests.specs.Request.{IsPublishing}
use Rattle.router_core.specs.Tables.{Tables, is_full, moment_at}
use Rattle.router_requests.specs.declared.seen.SeenResult.{SeenResult}
use Rattle.router_calls.specs.Accepted.{Placed}
use Rattle.resource_calls.specs.Decision.{Decided, for_archive, on_archive, change_reply, controlled}
use Rattle.router_calls.specs.Answer.{Answer, IsAnswer, decided, for_rule, lacks_rule, on_bus, on_rule}
use Rattle.resource_calls.specs.Decision.{cancellation_of, deletion_of, refusal, shown, start_of, unless_refused, writes}
use Rattle.router_calls.specs.Answer.{unless_none, written}
use Rattle.router_calls.specs.Changes.{MayMake, MayReplay, MayStart, MayCancel}
use Rattle.router_calls.specs.Permission.{IsPolicyNamed, has_statement}
use Rattle.router_calls.specs.Removals.{removed_ids}
use Rattle.router_calls.specs.Targets.{accepted_targets}
use Rattle.router_calls.proofs.TargetLemmas.{accepted_within}
use Rattle.router_calls.proofs.RemovalLemmas.{removed_within}

-- an operation that the action asks for on these tables: of changes of the configuration its own, an event of a PutEvents, its own start or
-- cancellation of a replay, and no record of an attempt and no step of a replay
abbrev pub IsOf : Tables → Action → batch.Entry → Type 0
IsOf t action (batch.control c) = MayMake t action c
IsOf t action (batch.accepted e) = IsPublishing action
IsOf t action (batch.attempt duty outcome) = ⊥
IsOf t action (batch.replay_started s) = MayStart action s
IsOf t action (batch.replay_stepped s) = ⊥
IsOf t action (batch.replay_cancelled name) = MayCancel action name
IsOf t action (batch.messages_deleted queue through) = Unit {0}

abbrev pub AreOf : Tables → Action → List batch.Entry → Type 0
AreOf t action [] = Unit {0}
AreOf t action (e ∷ es) = IsOf t action e × AreOf t action es

-- the batch, if there is one, has only such operations
abbrev pub WritesOf : Tables → Action → Option batch.Batch → Type 0
WritesOf t action None = Unit {0}
WritesOf t action (Some b) = AreOf t action b.entries

pub record HasForm (t : Tables) (action : Action) (a : Answer) : Type 0 where
  pub status : IsServedStatus a.reply.status
  pub writes : WritesOf t action a.batch

-- the same of what is decided
record IsFormed (t : Tables) (action : Action) (d : Decided) : Type 0 where
  status : IsServedStatus d.reply.status
  writes : AreOf t action d.entries

alone : (t : Tables) (action : Action) (r : Reply) → IsServedStatus r.status → IsFormed t action (shown r)
alone t action r is = record { status = is; writes = tt }

refused : (t : Tables) (action : Action) (c : Cause) → IsFormed t action (refusal c)
refused t action c = alone t action _ (inr (inl refl))

one : (t : Tables) (action : Action) (e : batch.Entry) (r : Reply) → IsServedStatus r.status → IsOf t action e → IsFormed t action (writes e r)
one t action e r is of = record { status = is; writes = (of, tt) }

either : (t : Tables) (action : Action) (b : Bool) (x y : Decided) → IsFormed t action x → IsFormed t action y → IsFormed t action (cond b x y)
either t action true x y p q = p
either t action false x y p q = q

change_status : (c : Option Cause) → IsServedStatus (change_reply c).status
change_status (Some c) = inr (inl refl)
change_status None = inr (inr refl)

unrefused : (t : Tables) (action : Action) (o : Option ControlFault) (c : Control) (r : Reply) → IsServedStatus r.status → MayMake t action c
    → IsFormed t action (unless_refused o c r)
unrefused t action None c r is may = one t action (batch.control c) r is may
unrefused t action (Some fault) c r is may = alone t action _ (change_status (change_cause c fault))

changes : (t : Tables) (action : Action) (c : Control) (r : Reply) → IsServedStatus r.status → MayMake t action c
    → IsFormed t action (controlled t.set c r)
changes t action c r is may = unrefused t action (table.refusal c t.set) c r is may

at_bus : (t : Tables) (action : Action) (bus : List ℕ) (d : Decided) → IsFormed t action d → IsFormed t action (on_bus t.set bus d)
at_bus t action bus d is = either t action (has_bus bus t.set) d _ is (refused t action (cause.NotFound kind.EventBus bus))

found : (t : Tables) (action : Action) (o : Option Rule) (name : List ℕ) (decide : Rule → Decided) → ((r : Rule) → IsFormed t action (decide r))
    → IsFormed t action (for_rule o name decide)
found t action None name decide each = refused t action (cause.NotFound kind.Rule name)
found t action (Some r) name decide each = each r

at_rule : (t : Tables) (action : Action) (bus rule : List ℕ) (decide : Rule → Decided) → ((r : Rule) → IsFormed t action (decide r))
    → IsFormed t action (on_rule t.set bus rule decide)
at_rule t action bus rule decide each = at_bus t action bus _ (found t action (rule_at bus rule t.set) rule decide each)

some_changed : {A : Type 0} (t : Tables) (action : Action) (xs : List A) (c : Control) (r : Reply) → IsServedStatus r.status → MayMake t action c
    → IsFormed t action (unless_none xs c r)
some_changed t action [] c r is may = alone t action r is
some_changed t action (x ∷ xs) c r is may = one t action (batch.control c) r is may

-- a call on an archive that is there, or the refusal of one that is missing
found_archive : (t : Tables) (action : Action) (name : List ℕ) (decide : Row → Archive → Decided) (row : Option Row) (archive : Option Archive)
    → ((r : Row) (a : Archive) → row ≡ Some r → archive ≡ Some a → IsFormed t action (decide r a))
    → IsFormed t action (for_archive name decide row archive)
found_archive t action name decide (Some row) (Some archive) each = each row archive refl refl
found_archive t action name decide (Some row) None each = refused t action (cause.NotFound kind.Archive name)
found_archive t action name decide None archive each = refused t action (cause.NotFound kind.Archive name)

at_archive : (t : Tables) (action : Action) (name : List ℕ) (decide : Row → Archive → Decided)
    → ((r : Row) (a : Archive) → archive_at name t.set ≡ Some r → named name_of name t.archives ≡ Some a → IsFormed t action (decide r a))
    → IsFormed t action (on_archive t name decide)
at_archive t action name decide each = found_archive t action name decide (archive_at name t.set) (named name_of name t.archives) each

-- ---- events and messages

all_of : (t : Tables) (action : Action) (es : List batch.Accepted) → IsPublishing action → AreOf t action (map batch.accepted es)
all_of t action [] publishes = tt
all_of t action (e ∷ es) publishes = (publishes, all_of t action es publishes)

deletion : (t : Tables) (action : Action) (queue : List ℕ) (through : ℕ) (messages : List StoredMessage)
    → IsFormed t action (deletion_of queue through messages)
deletion t action queue through [] = alone t action _ (inl refl)
deletion t action queue through (m ∷ ms) = one t action _ _ (inl refl) tt

-- ---- replays

start : (t : Tables) (moment : ℕ) (s : StartedReplay) (bus : List ℕ) (row : Row) (archive : Archive)
    → IsFormed t (start_replay s bus) (start_of t moment s bus row archive)
start t moment s bus row archive =
    either t (start_replay s bus) (not (bytes_eq bus row.bus)) _ _ (refused t _ cause.OtherDestination)
    (either t (start_replay s bus) (nat_lt s.range.end s.range.start) _ _ (refused t _ cause.EmptyRange)
    (either t (start_replay s bus) (nat_lt (length (running t.replays)) most_running) _ _
    (one t (start_replay s bus) (batch.replay_started s) _ (inl refl) refl)
    (refused t _ (cause.LimitReached kind.Replay))))

cancellation : (t : Tables) (name : List ℕ) (row : Option ReplayRow) → IsFormed t (cancel_replay name) (cancellation_of name row)
cancellation t name None = refused t _ (cause.NotFound kind.Replay name)
cancellation t name (Some row) = either t (cancel_replay name) (is_running row) _ _
    (one t (cancel_replay name) (batch.replay_cancelled name) _ (inl refl) refl)
    (refused t _ (cause.NotRunning name))

-- ---- what is shown of the configuration

bus_status : (name : List ℕ) (show : Bus → Reply) → ((bus : Bus) → IsServedStatus (show bus).status) → (bus : Option Bus)
    → IsServedStatus (views.on_bus name show bus).status
bus_status name show each None = inr (inl refl)
bus_status name show each (Some bus) = each bus

bus_shown : (t : Tables) (action : Action) (of : RuleSet) (name : List ℕ) (show : Bus → Reply) → ((bus : Bus) → IsServedStatus (show bus).status)
    → IsFormed t action (shown (views.on_bus_of of name show))
bus_shown t action of name show each = alone t action _ (bus_status name show each (named (λ b. b.name) name of.buses))

rule_status : (name : List ℕ) (show : Rule → Reply) → ((rule : Rule) → IsServedStatus (show rule).status) → (rule : Option Rule)
    → IsServedStatus (views.on_rule name show rule).status
rule_status name show each None = inr (inl refl)
rule_status name show each (Some rule) = each rule

rule_shown : (name : List ℕ) (show : Rule → Reply) → ((rule : Rule) → IsServedStatus (show rule).status) → (bus : Bus)
    → IsServedStatus (views.on_rule_of name show bus).status
rule_shown name show each bus = rule_status name show each (named (λ r. r.name) name bus.rules)

archive_status : (name : List ℕ) (show : Row → Archive → Reply) → ((row : Row) (archive : Archive) → IsServedStatus (show row archive).status)
    → (row : Option Row) (archive : Option Archive) → IsServedStatus (shown_of.on_archive name show row archive).status
archive_status name show each (Some row) (Some archive) = each row archive
archive_status name show each (Some row) None = inr (inl refl)
archive_status name show each None archive = inr (inl refl)

replay_status : (name : List ℕ) (row : Option ReplayRow) → IsServedStatus (replay_views.replay_shown name row).status
replay_status name None = inr (inl refl)
replay_status name (Some row) = inl refl

replied : (b : Bool) (x y : Reply) → IsServedStatus x.status → IsServedStatus y.status → IsServedStatus (cond b x y).status
replied true x y p q = p
replied false x y p q = q

-- ---- each action

formed : (t : Tables) (moment : ℕ) (seen : SeenResult) (became : List Placed) (policy : Option Tree) (action : Action) → IsPolicyNamed t.set action policy
    → IsFormed t action (decided t moment seen became policy action)
formed t moment seen became policy (create_event_bus name) is = changes t _ _ _ (inl refl) refl
formed t moment seen became policy (delete_event_bus name) is =
    either t _ (not (is_some (table.refusal (bus_deleted name) t.set)) && is_sent_to name t.replays) _ _ (refused t _ (cause.InUse kind.EventBus name))
    (changes t (delete_event_bus name) _ _ (inl refl) refl)
formed t moment seen became policy (describe_event_bus name) is = bus_shown t _ t.set name _ (λ bus. inl refl)
formed t moment seen became policy (list_event_buses prefix) is = alone t _ _ (inl refl)
formed t moment seen became policy (put_rule bus name pattern enabled) is = changes t _ _ _ (inl refl) refl
formed t moment seen became policy (delete_rule bus name) is =
    either t _ (lacks_rule bus name t.set) _ _ (alone t _ _ (inl refl)) (changes t (delete_rule bus name) _ _ (inl refl) refl)
formed t moment seen became policy (put_rule_state bus name enabled) is = changes t _ _ _ (inl refl) refl
formed t moment seen became policy (describe_rule bus name) is = bus_shown t _ t.set bus _ (λ b. rule_shown name _ (λ rule. inl refl) b)
formed t moment seen became policy (list_rules bus prefix) is = bus_shown t _ t.set bus _ (λ b. inl refl)
formed t moment seen became policy (put_targets bus rule targets) is = at_rule t (put_targets bus rule targets) bus rule _ (λ r.
    some_changed t (put_targets bus rule targets) (accepted_targets t.set r.targets targets) _ _ (inl refl)
    (accepted_targets t.set r.targets targets, refl, accepted_within t.set r.targets targets))
formed t moment seen became policy (remove_targets bus rule ids) is = at_rule t (remove_targets bus rule ids) bus rule _ (λ r.
    some_changed t (remove_targets bus rule ids) (removed_ids ids r.targets) _ _ (inl refl)
    (removed_ids ids r.targets, refl, removed_within ids r.targets))
formed t moment seen became policy (list_targets_by_rule bus rule) is = bus_shown t _ t.set bus _ (λ b. rule_shown rule _ (λ r. inl refl) b)
formed t moment seen became policy (list_rule_names_by_target arn bus) is = bus_shown t _ t.set bus _ (λ b. inl refl)
formed t moment seen became policy (put_policy bus given) is = changes t _ _ _ (inl refl) refl
formed t moment seen became policy (put_statement bus sid account) is = at_bus t (put_statement bus sid account) bus _
    (either t _ (has_statement sid policy) _ _ (refused t _ (cause.StatementExists sid))
    (changes t (put_statement bus sid account) _ _ (inl refl) (policy, is, refl)))
formed t moment seen became policy (remove_policy bus) is = changes t _ _ _ (inl refl) refl
formed t moment seen became policy (remove_statement bus None) is = at_bus t _ bus _ (refused t _ (cause.Required member.StatementId))
formed t moment seen became policy (remove_statement bus (Some sid)) is = at_bus t (remove_statement bus (Some sid)) bus _
    (either t _ (has_statement sid policy) _ _ (changes t (remove_statement bus (Some sid)) _ _ (inl refl) (policy, is, refl))
    (refused t _ (cause.NoStatement sid)))
formed t moment seen became policy (put_events entries size) is = either t _ (nat_lt most_together size) _ _ (refused t _ cause.TooLargeTogether)
    (record { status = inl refl; writes = all_of t (put_events entries size) _ tt })
formed t moment seen became policy (test_event_pattern pattern event) is = alone t _ _ (inl refl)
formed t moment seen became policy (create_archive name bus pattern days) is = changes t _ _ _ (inl refl) refl
formed t moment seen became policy (update_archive name pattern days) is = at_archive t (update_archive name pattern days) name _
    (λ row archive there kept. changes t (update_archive name pattern days) _ _ (inl refl) (row, archive, there, kept, refl))
formed t moment seen became policy (delete_archive name) is = changes t _ _ _ (inl refl) refl
formed t moment seen became policy (describe_archive name) is =
    alone t _ _ (archive_status name _ (λ row archive. inl refl) (archive_at name t.set) (named name_of name t.archives))
formed t moment seen became policy (list_archives prefix source state) is = alone t _ _ (inl refl)
formed t moment seen became policy (start_replay s bus) is =
    either t (start_replay s bus) (is_some (replays.found s.name t.replays)) _ _ (refused t _ (cause.Exists kind.Replay s.name))
    (at_archive t (start_replay s bus) s.archive _ (λ row archive there kept. start t moment s bus row archive))
formed t moment seen became policy (cancel_replay name) is = cancellation t name (replays.found name t.replays)
formed t moment seen became policy (describe_replay name) is = alone t _ _ (replay_status name (replays.found name t.replays))
formed t moment seen became policy (list_replays prefix source state) is = alone t _ _ (inl refl)
formed t moment seen became policy (create_queue name) is = changes t _ _ _ (inl refl) refl
formed t moment seen became policy (delete_queue name) is = either t _ (has_queue name t.set && names_queue name t.duties) _ _
    (refused t _ (cause.InUse kind.Queue name)) (changes t (delete_queue name) _ _ (inl refl) refl)
formed t moment seen became policy (peek_messages queue limit) is = alone t _ _ (replied (has_queue queue t.set) _ _ (inl refl) (inr (inl refl)))
formed t moment seen became policy (delete_messages queue through) is = either t _ (has_queue queue t.set) _ _
    (deletion t _ queue through (messages_through through (messages_of queue t.duties.queues))) (refused t _ (cause.NotFound kind.Queue queue))
formed t moment seen became policy duty_counts is = alone t _ _ (inl refl)
formed t moment seen became policy (deliver_due budget) is = alone t _ _ (inl refl)
formed t moment seen became policy (step_replays budget) is = alone t _ _ (inl refl)

-- ---- the answer

limited : (t : Tables) (action : Action) (b : Bool) (x y : Answer) → HasForm t action x → HasForm t action y → HasForm t action (cond b x y)
limited t action true x y p q = p
limited t action false x y p q = q

batched : (t : Tables) (action : Action) (moment : ℕ) (entries : List batch.Entry) (reply : Reply) → IsServedStatus reply.status
    → AreOf t action entries → HasForm t action (written t moment entries reply)
batched t action moment [] reply is of = record { status = is; writes = tt }
batched t action moment (e ∷ es) reply is of =
    limited t action (is_full t) _ _ (record { status = inr (inl refl); writes = tt }) (record { status = is; writes = of })

pub request_form : {t : Tables} {r : Request} {k : ℕ} {set : RuleSet} {a : Answer} → IsAnswer t r k set a → HasForm t r.action a
request_form {t} {r} {k} {set} {a} h =
    let d = formed t (moment_at t r.reading) h.seen h.placed h.policy r.action h.is_policy in
    subst (HasForm t r.action) (sym h.answers) (batched t r.action (moment_at t r.reading) _ _ d.status d.writes)

-- ---- a request writes no change of the configuration but its own, and only a PutEvents writes events

all_are : (t : Tables) (action : Action) (es : List batch.Entry) → AreOf t action es → All (IsOf t action) es
all_are t action [] h = All-nil (IsOf t action)
all_are t action (e ∷ es) (one, more) = All-cons (IsOf t action) e es one (all_are t action es more)

pub its_change : (t : Tables) (r : Request) (k : ℕ) (set : RuleSet) (a : Answer) (b : batch.Batch) (c : Control) → IsAnswer t r k set a
    → a.batch ≡ Some b → Contains b.entries (batch.control c) → MayMake t r.action c
its_change t r k set a b c h is has =
    let all = all_are t r.action b.entries (subst (WritesOf t r.action) is (request_form h).writes) in
    All-contains (IsOf t r.action) b.entries (batch.control c) all has

pub its_event : (t : Tables) (r : Request) (k : ℕ) (set : RuleSet) (a : Answer) (b : batch.Batch) (e : batch.Accepted) → IsAnswer t r k set a
    → a.batch ≡ Some b → Contains b.entries (batch.accepted e) → IsPublishing r.action
its_event t r k set a b e h is has =
    let all = all_are t r.action b.entries (subst (WritesOf t r.action) is (request_form h).writes) in
    All-contains (IsOf t r.action) b.entries (batch.accepted e) all has

-- an operation that an action asks for starts, steps and cancels no replay but as the action asks
may_replay : (t : Tables) (action : Action) (e : batch.Entry) → IsOf t action e → MayReplay action e
may_replay t action (batch.control c) of = tt
may_replay t action (batch.accepted a) of = tt
may_replay t action (batch.attempt duty outcome) of = tt
may_replay t action (batch.replay_started s) of = of
may_replay t action (batch.replay_stepped s) of = of
may_replay t action (batch.replay_cancelled name) of = of
may_replay t action (batch.messages_deleted queue through) of = tt

pub its_replay : (t : Tables) (r : Request) (k : ℕ) (set : RuleSet) (a : Answer) (b : batch.Batch) (e : batch.Entry) → IsAnswer t r k set a
    → a.batch ≡ Some b → Contains b.entries e → MayReplay r.action e
its_replay t r k set a b e h is has =
    let all = all_are t r.action b.entries (subst (WritesOf t r.action) is (request_form h).writes) in
    may_replay t r.action e (All-contains (IsOf t r.action) b.entries e all has)
