use Rattle.std.proofs.Common.{◌≡◌, drop}
use Rattle.std.specs.List.{list_all}
use Rattle.json_text.specs.View.{trees_of}
use Rattle.pattern_read.specs.Test.{is_number}
use Rattle.pattern_read.proofs.excluded.are_numbers.Given as goal

-- all are such if those that are left are
abbrev pub invariant-loop-item : goal.invariant-loop-item
invariant-loop-item l = list_all is_number (trees_of (drop l.item-index l.items)) ≡ list_all is_number (trees_of l.items)
