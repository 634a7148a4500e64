use Rattle.std.proofs.Common.{map, drop}
use Rattle.router_requests.specs.View.{batch_of, entry_of}
use Rattle.router_core.proofs.BatchLemmas.{IsLeft}
use Rattle.router_core.proofs.tables.Tables.apply.Given as goal

-- the entries that are left, with their parts
abbrev pub invariant-loop-entry : goal.invariant-loop-entry
invariant-loop-entry l = IsLeft l.fn.ready.batch.moment (batch_of l.fn.ready.batch).entries
    (map entry_of (drop l.entry-index l.fn.ready.batch.entries.items)) l.fn.self l.self l.parts.items
