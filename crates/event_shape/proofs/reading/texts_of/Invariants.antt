use Rattle.std.proofs.Common.{◌≡◌, ◌++◌, map}
use Rattle.std.specs.Vec.Iter.{into_iter_items}
use Rattle.json_text.specs.Tree.{text}
use Rattle.json_text.specs.View.{trees_of}
use Rattle.event_shape.proofs.reading.texts_of.Given as goal

-- the texts so far, and the values that are left
abbrev pub invariant-loop-item : goal.invariant-loop-item
invariant-loop-item l =
    (trees_of l.yielded ≡ map text l.texts.items) × (trees_of l.fn.items.items ≡ map text l.texts.items ++ trees_of (into_iter_items l.item-iterator))
