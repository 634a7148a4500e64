use Rattle.std.proofs.Common.{take}
use Rattle.router_requests.specs.Matching.{AreSeenEntries}
use Rattle.router_requests.proofs.matching.see_entries.Given as goal

-- the results so far
abbrev pub invariant-loop-entry : goal.invariant-loop-entry
invariant-loop-entry g l = AreSeenEntries (g.F.Finder.set_of l.finder) l.caller (take l.entry-index l.entries) l.all.items
