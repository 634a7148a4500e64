use Rattle.std.proofs.Common.{◌≡◌, drop}
use Rattle.json_text.specs.Tree.{items_of}
use Rattle.json_text.specs.View.{trees_of}
use Rattle.bus_policy.specs.Change as spec
use Rattle.bus_policy.proofs.ItemLemmas.{items_before}
use Rattle.bus_policy.proofs.change.without_sid.Given as goal

-- the copies so far and what is to be stored of the rest
abbrev pub invariant-loop-statement : goal.invariant-loop-statement
invariant-loop-statement l =
    items_before (trees_of l.copies.items) (spec.without_sid l.sid (items_of (trees_of (drop l.statement-index l.statements))))
    ≡ spec.without_sid l.sid (items_of (trees_of l.statements))
