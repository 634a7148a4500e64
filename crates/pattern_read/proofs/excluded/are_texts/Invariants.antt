use Rattle.std.proofs.Common.{◌≡◌, drop}
use Rattle.std.specs.List.{list_all}
use Rattle.json_text.specs.View.{trees_of}
use Rattle.json_text.specs.Access.{is_text}
use Rattle.pattern_read.proofs.excluded.are_texts.Given as goal

-- all are such if those that are left are
abbrev pub invariant-loop-item : goal.invariant-loop-item
invariant-loop-item l = list_all is_text (trees_of (drop l.item-index l.items)) ≡ list_all is_text (trees_of l.items)
