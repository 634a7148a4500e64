use Rattle.std.proofs.Common.{◌≡◌}
use Rattle.std.specs.Vec.Iter.{into_iter_items}
use Rattle.json_text.specs.View.{trees_of}
use Rattle.pattern_read.specs.Test.{all_texts}
use Rattle.pattern_read.proofs.ExcludedLemmas.{texts_with}
use Rattle.pattern_read.proofs.excluded.all_texts.Given as goal

-- the texts so far and those of what is left are those of all
abbrev pub invariant-loop-item : goal.invariant-loop-item
invariant-loop-item l =
    (goal.iterator-loop-item).can_next l.item-iterator ×
    (goal.iterator-loop-item).is_finite l.item-iterator ×
    (texts_with l.texts.items (all_texts (trees_of (into_iter_items l.item-iterator))) ≡ all_texts (trees_of l.fn.items.items))
