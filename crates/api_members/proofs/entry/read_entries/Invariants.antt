use Rattle.std.proofs.Common.{◌≡◌, ◌++◌, drop, map}
use Rattle.json_text.specs.View.{trees_of}
use Rattle.event_shape.specs.Entry.{entry_of}
use Rattle.api_members.specs.Entry.{entries_of}
use Rattle.api_members.proofs.entry.read_entries.Given as goal

abbrev pub invariant-loop-value : goal.invariant-loop-value
invariant-loop-value l = map entry_of l.entries.items ++ entries_of (trees_of (drop l.value-index l.values)) ≡ entries_of (trees_of l.values)
