use Rattle.std.proofs.Common.{◌≡◌, ◌-◌, ◌^◌, min, map, take}
use Rattle.event_shape.specs.Entry.{entry_of}
use Rattle.api_members.specs.CheckedEntry.{total_size}
use Rattle.api_members.proofs.checked_entry.total_size.Given as goal

-- what is counted so far
abbrev pub invariant-loop-entry : goal.invariant-loop-entry
invariant-loop-entry l = l.total ≡ min (total_size (map entry_of (take l.entry-index l.entries))) (2 ^ 64 - 1)
