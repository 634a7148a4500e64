-- What replies show of replays. The members, their order and the names of the states are those of the Amazon EventBridge API Reference; that
-- `STARTING`, `CANCELLING` and `FAILED` do not occur, and which times are shown when, are this project's own rules.
use Rattle.std.specs.Prelude.{ℕ, Bool, ◌&&◌, if◌then◌else◌, List, [], ◌∷◌, ◌++◌, map, flat_map, Option, Some, None, codes, decimal}
use Rattle.json_text.specs.Tree.{Tree, number, text, list, object, members_of, items_of}
use Rattle.event_shape.specs.Names.{bus_arn, rule_arn, archive_arn, replay_arn}
use Rattle.replay_run.specs.declared.settings.ReplaySettings.{ReplaySettings}
use Rattle.replay_run.specs.declared.row.ReplayRow.{ReplayRow}
use Rattle.replay_run.specs.declared.row.NumberedName.{NumberedName}
use Rattle.replay_run.specs.declared.state.ReplayState.{ReplayState}
use Rattle.replay_run.specs.declared.state.ReplayState.TheVariants.{Running, Completed, Cancelled}
use Rattle.replay_run.specs.Replay.{replay_state}
use Rattle.replay_run.specs.Replays.{name_of, found, names_of}
use Rattle.api_replies.specs.declared.kind.Kind.TheVariants as kind
use Rattle.api_replies.specs.declared.cause.Cause.TheVariants as cause
use Rattle.api_replies.specs.Reply.{Reply, served, refused}
use Rattle.config_views.specs.Views.{listing, has_prefix}
use Rattle.config_views.specs.Archives.{is_given}

-- `RUNNING`, `COMPLETED` or `CANCELLED`.
-- Shown by: replays.
abbrev pub state_name : ReplayState → List ℕ
state_name Running = codes "RUNNING"
state_name Completed = codes "COMPLETED"
state_name Cancelled = codes "CANCELLED"

-- the state of a replay, by its name
abbrev pub shown_state : ReplayRow → List ℕ
shown_state row = state_name (replay_state row.replay)

-- The reply to a StartReplay: the replay's ARN, its state after the start, and the moment of the start.
-- Shown by: replays.
abbrev pub started_reply : ReplayRow → Reply
started_reply row = served (
    (codes "ReplayArn", text (replay_arn (name_of row)))
    ∷ (codes "State", text (shown_state row))
    ∷ (codes "ReplayStartTime", number (decimal row.settings.started_at))
    ∷ [])

-- The reply to a CancelReplay: the replay's ARN, and its state after it.
-- Shown by: replays.
abbrev pub cancelled_reply : List ℕ → Reply
cancelled_reply name = served ((codes "ReplayArn", text (replay_arn name)) ∷ (codes "State", text (state_name Cancelled)) ∷ [])

-- A member whose value is a moment, if there is one.
-- Shown by: replays.
abbrev pub moment_member : List ℕ → Option ℕ → List (List ℕ × Tree)
moment_member key None = []
moment_member key (Some moment) = (key, number (decimal moment)) ∷ []

-- The times of a replay, in seconds: the ends of its range, the time of the last event repeated if there is one, the moment of its start, and that
-- of its end if it has ended.
-- Shown by: replays.
abbrev pub replay_times : ReplayRow → List (List ℕ × Tree)
replay_times row =
    (codes "EventStartTime", number (decimal row.settings.range.start))
    ∷ (codes "EventEndTime", number (decimal row.settings.range.end))
    ∷ (moment_member (codes "EventLastReplayedTime") row.replay.last
    ++ (codes "ReplayStartTime", number (decimal row.settings.started_at)) ∷ moment_member (codes "ReplayEndTime") row.ended_at)

-- the ARNs of the rules of the bus that have these names, in their order
abbrev pub arns_of : List ℕ → List (List ℕ) → List Tree
arns_of bus names = map (λ name. text (rule_arn bus name)) names

-- The filter of a replay as the member `FilterArns`, if there is a filter: the ARNs of its rules. One without a rule is the empty list.
-- Shown by: replays.
abbrev pub filter_member : List ℕ → Option (List (List ℕ)) → List (List ℕ × Tree)
filter_member bus None = []
filter_member bus (Some names) = (codes "FilterArns", list (items_of (arns_of bus names))) ∷ []

-- The destination of a replay: the ARN of its bus, and its filter.
-- Shown by: replays.
abbrev pub destination_tree : ReplaySettings → Tree
destination_tree settings = object (members_of ((codes "Arn", text (bus_arn settings.bus)) ∷ filter_member settings.bus settings.rules))

-- What a DescribeReplay shows: `ReplayName`, `ReplayArn`, `State`, `EventSourceArn`, which is the ARN of the archive, `Destination`, and the times.
-- Shown by: replays.
abbrev pub replay_members : ReplayRow → List (List ℕ × Tree)
replay_members row =
    (codes "ReplayName", text (name_of row))
    ∷ (codes "ReplayArn", text (replay_arn (name_of row)))
    ∷ (codes "State", text (shown_state row))
    ∷ (codes "EventSourceArn", text (archive_arn row.settings.archive))
    ∷ (codes "Destination", destination_tree row.settings)
    ∷ replay_times row

-- What a ListReplays shows of a replay: `ReplayName`, `EventSourceArn`, `State`, and the times.
-- Shown by: replays.
abbrev pub replay_item : ReplayRow → List (List ℕ × Tree)
replay_item row =
    (codes "ReplayName", text (name_of row))
    ∷ (codes "EventSourceArn", text (archive_arn row.settings.archive))
    ∷ (codes "State", text (shown_state row))
    ∷ replay_times row

-- what is shown of the replay of this name, which may be missing
abbrev pub replay_shown : List ℕ → Option ReplayRow → Reply
replay_shown name None = refused (cause.NotFound kind.Replay name)
replay_shown name (Some row) = served (replay_members row)

-- The reply to a DescribeReplay. A missing replay is refused.
-- Shown by: replays.
abbrev pub described_replay : List ℕ → List ReplayRow → Reply
described_replay name all = replay_shown name (found name all)

-- The replay's name has the prefix, its archive's ARN is the source, and its state is the one that is asked for, as far as these are given.
-- Shown by: replays.
abbrev pub is_replay_listed : (prefix source state : Option (List ℕ)) → ReplayRow → Bool
is_replay_listed prefix source state row =
    has_prefix prefix (name_of row) && (is_given source (archive_arn row.settings.archive) && is_given state (shown_state row))

-- the item of a replay, if it is there and passes
abbrev pub item_if : (prefix source state : Option (List ℕ)) → Option ReplayRow → List Tree
item_if prefix source state None = []
item_if prefix source state (Some row) = if is_replay_listed prefix source state row then object (members_of (replay_item row)) ∷ [] else []

-- The items of the replays of these names that pass.
-- Shown by: replays.
abbrev pub replay_items : (prefix source state : Option (List ℕ)) → List ReplayRow → List NumberedName → List Tree
replay_items prefix source state all names = flat_map (λ (n : NumberedName). item_if prefix source state (found n.name all)) names

-- The reply to a ListReplays, in the byte order of the names.
-- Shown by: replays.
abbrev pub listed_replays : (prefix source state : Option (List ℕ)) → List ReplayRow → Reply
listed_replays prefix source state all = listing (codes "Replays") (replay_items prefix source state all (names_of all))
