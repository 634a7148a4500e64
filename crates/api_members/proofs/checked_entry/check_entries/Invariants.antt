use Rattle.std.proofs.Common.{drop, map}
use Rattle.event_shape.specs.Entry.{entry_of}
use Rattle.api_members.proofs.CheckedLemmas.{Completes}
use Rattle.api_members.proofs.checked_entry.check_entries.Given as goal

abbrev pub invariant-loop-entry : goal.invariant-loop-entry
invariant-loop-entry l = Completes l.reading l.caller (map entry_of l.entries) (map entry_of (drop l.entry-index l.entries)) l.all.items
