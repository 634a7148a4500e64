use Rattle.std.proofs.Common.{◌≡◌, ◌++◌, length}
use Rattle.std.specs.Option.{option_copied}
use Rattle.json_text.specs.View.{trees_of}
use Rattle.config_views.specs.Archives.{archive_items}
use Rattle.config_views.proofs.archives.list_archives.Given as goal

-- the items so far, and those of the archives that are left
abbrev pub invariant-loop-row : goal.invariant-loop-row
invariant-loop-row l =
    trees_of l.items.items ++ archive_items (option_copied l.prefix) (option_copied l.source) (option_copied l.state) l.moment l.archives l.rows
    ≡ archive_items (option_copied l.prefix) (option_copied l.source) (option_copied l.state) l.moment l.archives l.set.archives

abbrev pub decreases-loop-row : goal.decreases-loop-row
decreases-loop-row l = length l.rows
