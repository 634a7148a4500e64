use Rattle.std.proofs.Common.{◌≡◌, take, map}
use Rattle.json_text.specs.Tree.{text}
use Rattle.json_text.specs.View.{trees_of}
use Rattle.event_shape.proofs.writing.text_items.Given as goal

abbrev pub invariant-loop-text : goal.invariant-loop-text
invariant-loop-text l = trees_of l.items.items ≡ map text (take l.text-index l.texts)
