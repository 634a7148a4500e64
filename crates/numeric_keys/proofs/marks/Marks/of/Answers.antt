use Rattle.numeric_keys.proofs.MarksLemmas.{marks_in-zeros}
use Rattle.numeric_keys.proofs.marks.Marks.of.Goals as goal

pub returns : goal.returns
returns c = marks_in-zeros _ _ c.args.places
    (c.in_ok-words.ensures.items_if_clones_equal (λ y same. same))
