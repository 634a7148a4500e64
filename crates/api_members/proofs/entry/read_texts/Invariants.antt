use Rattle.std.proofs.Common.{◌≡◌, ◌++◌, drop}
use Rattle.json_text.specs.View.{trees_of}
use Rattle.api_members.specs.Entry.{texts_of}
use Rattle.api_members.proofs.entry.read_texts.Given as goal

abbrev pub invariant-loop-value : goal.invariant-loop-value
invariant-loop-value l = l.texts.items ++ texts_of (trees_of (drop l.value-index l.values)) ≡ texts_of (trees_of l.values)
