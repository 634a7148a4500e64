-- Which change of the configuration an action may make, and what it may do with a replay.
use Rattle.std.specs.Prelude.{◌≡◌, ℕ, List, map, Option, Some, None, All}
use Rattle.json_text.specs.Compact.{compact_text}
use Rattle.json_text.specs.Tree.{Tree}
use Rattle.name_rows.specs.Rows.{named}
use Rattle.std.specs.List.{Contains}
use Rattle.archive_keep.specs.Archive.{Archive}
use Rattle.archive_keep.specs.Archives.{name_of}
use Rattle.rule_targets.specs.declared.target.Target.{Target}
use Rattle.rule_targets.specs.Target.{put_as}
use Rattle.rule_table.specs.Control.{Control, bus_created, bus_deleted, rule_put, rule_deleted, state_put, targets_put}
use Rattle.rule_table.specs.Control.{targets_removed, policy_put, queue_created, queue_deleted, archive_created, archive_deleted}
use Rattle.rule_table.specs.RuleSet.{Archive as Row, archive_at}
use Rattle.router_requests.specs.Request.{Action, create_event_bus, delete_event_bus, put_rule, delete_rule, put_rule_state, put_targets, remove_targets}
use Rattle.router_requests.specs.Request.{put_policy, put_statement, remove_policy, remove_statement, create_archive, update_archive, delete_archive}
use Rattle.router_requests.specs.Request.{create_queue, delete_queue, start_replay, cancel_replay}
use Rattle.router_requests.specs.declared.batch.StartedReplay.{StartedReplay}
use Rattle.router_requests.specs.Batch.{Entry, control, accepted, attempt, replay_started, replay_stepped, replay_cancelled, messages_deleted}
use Rattle.router_core.specs.Tables.{Tables}
use Rattle.resource_calls.specs.Decision.{update_of}
use Rattle.router_calls.specs.Permission.{IsPolicyThere, granting, revoking}

-- The change of the configuration is one that the action makes on these tables. A PutTargets puts some of its targets, and a RemoveTargets
-- removes some of its ids. A PutPermission of a statement adds it to the policy of its bus, and a RemovePermission of one takes it from
-- there. An UpdateArchive leaves the pattern and the days of an archive that is there as they are, as far as they are not given. Another call
-- makes the change that it names.
-- Shown by: tables router_calls.rows: each_change_is_answered.
abbrev pub MayMake : Tables → Action → Control → Type 0
MayMake t (create_event_bus name) c = c ≡ bus_created name
MayMake t (delete_event_bus name) c = c ≡ bus_deleted name
MayMake t (put_rule bus name pattern enabled) c = c ≡ rule_put bus name pattern enabled
MayMake t (delete_rule bus name) c = c ≡ rule_deleted bus name
MayMake t (put_rule_state bus name enabled) c = c ≡ state_put bus name enabled
MayMake t (put_targets bus rule targets) c =
    (some : List Target) × (c ≡ targets_put bus rule some) × All (Contains (map put_as targets)) some
MayMake t (remove_targets bus rule ids) c = (some : List (List ℕ)) × (c ≡ targets_removed bus rule some) × All (Contains ids) some
MayMake t (put_policy bus policy) c = c ≡ policy_put bus (Some policy)
MayMake t (put_statement bus sid account) c = (policy : Option Tree) × IsPolicyThere (named (λ b. b.name) bus t.set.buses) policy
    × (c ≡ policy_put bus (Some (compact_text (granting bus sid account policy))))
MayMake t (remove_policy bus) c = c ≡ policy_put bus None
MayMake t (remove_statement bus (Some sid)) c = (policy : Option Tree) × IsPolicyThere (named (λ b. b.name) bus t.set.buses) policy
    × (c ≡ policy_put bus (revoking sid policy))
MayMake t (create_archive name bus pattern days) c = c ≡ archive_created name bus pattern days
MayMake t (update_archive name pattern days) c = (row : Row) × (archive : Archive) × (archive_at name t.set ≡ Some row)
    × (named name_of name t.archives ≡ Some archive) × (c ≡ update_of name pattern days row archive)
MayMake t (delete_archive name) c = c ≡ archive_deleted name
MayMake t (create_queue name) c = c ≡ queue_created name
MayMake t (delete_queue name) c = c ≡ queue_deleted name
MayMake t _ c = ⊥

-- The action may start this replay: it asks for it.
-- Shown by: proofs alone.
abbrev pub MayStart : Action → StartedReplay → Type 0
MayStart (start_replay s bus) given = given ≡ s
MayStart _ given = ⊥

-- The action may cancel the replay of this name: it asks for it.
-- Shown by: proofs alone.
abbrev pub MayCancel : Action → List ℕ → Type 0
MayCancel (cancel_replay name) given = given ≡ name
MayCancel _ given = ⊥

-- The operation starts or cancels no replay but as the action asks, and makes no step of one. Of other operations it says nothing.
-- Shown by: proofs alone.
abbrev pub MayReplay : Action → Entry → Type 0
MayReplay action (control c) = Unit {0}
MayReplay action (accepted e) = Unit {0}
MayReplay action (attempt duty outcome) = Unit {0}
MayReplay action (replay_started given) = MayStart action given
MayReplay action (replay_stepped given) = ⊥
MayReplay action (replay_cancelled given) = MayCancel action given
MayReplay action (messages_deleted queue through) = Unit {0}
