use Rattle.std.proofs.Common.{◌≡◌, drop}
use Rattle.std.specs.List.{list_any}
use Rattle.json_text.specs.View.{trees_of}
use Rattle.bus_policy.specs.Parts.{has_sid}
use Rattle.bus_policy.proofs.statement.some_has_sid.Given as goal

abbrev pub invariant-loop-statement : goal.invariant-loop-statement
invariant-loop-statement l = list_any (has_sid l.sid) (trees_of (drop l.statement-index l.statements)) ≡ list_any (has_sid l.sid) (trees_of l.statements)
