use Rattle.std.proofs.Common.{map, ap, subst}
use Rattle.std.specs.Prelude.{All}
use Rattle.std.specs.Arc.{arc_value}
use Rattle.std.proofs.lemmas.List.Elements.{All-tail}
use Rattle.name_rows.specs.Blocks.{IsFull}
use Rattle.name_rows.proofs.iter.RowsFromIterator.next.Goals as goal

pub invariant_of-self-in-None : goal.invariant_of-self-in-None
invariant_of-self-in-None g c =
    All-tail IsFull (arc_value c.in_ok-block-in-None.block.now) (map arc_value c.in_ok-block-in-None.blocks.now)
    (subst (All IsFull) (ap (map arc_value) c.in_ok-block-in-None.ensures.cases.0) c.self.invariant)
