use Rattle.std.proofs.Common.{◌≡◌, ◌++◌, length}
use Rattle.std.specs.Option.{option_copied}
use Rattle.json_text.specs.View.{trees_of}
use Rattle.replay_run.specs.Replays.{names_of}
use Rattle.config_views.specs.Replays.{replay_items}
use Rattle.config_views.proofs.replays.list_replays.Given as goal

-- the items so far, and those of the replays that are left
abbrev pub invariant-loop-named : goal.invariant-loop-named
invariant-loop-named l =
    trees_of l.items.items ++ replay_items (option_copied l.prefix) (option_copied l.source) (option_copied l.state) l.replays l.names
    ≡ replay_items (option_copied l.prefix) (option_copied l.source) (option_copied l.state) l.replays (names_of l.replays)

abbrev pub decreases-loop-named : goal.decreases-loop-named
decreases-loop-named l = length l.names
