use Rattle.std.proofs.Common.{ap, length, sym, ◌∙◌, replicate, false}
use Rattle.numeric_keys.proofs.MarksLemmas.{length-marks_in, marks_in-zeros}
use Rattle.numeric_keys.proofs.marks.Marks.clear.Goals as goal

pub returns : goal.returns
returns c =
    marks_in-zeros _ _ c.self.inside.places (c.fill.ensures.items (λ y same. same))
    ∙ ap (λ n. replicate n false) (sym (length-marks_in _ _) ∙ ap length c.self.view_is)
