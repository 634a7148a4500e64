use Rattle.std.proofs.Common.{◌≡◌, All, take}
use Rattle.std.specs.Str.{IsUtf8}
use Rattle.event_shape.proofs.checking.copies_of.Given as goal

abbrev pub invariant-loop-text : goal.invariant-loop-text
invariant-loop-text l = (l.copies.items ≡ take l.text-index l.texts) × All IsUtf8 (take l.text-index l.texts)
