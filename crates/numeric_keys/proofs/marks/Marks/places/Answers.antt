use Rattle.std.proofs.Common.{sym}
use Rattle.numeric_keys.proofs.MarksLemmas.{length-marks_in}
use Rattle.numeric_keys.proofs.marks.Marks.places.Goals as goal

pub returns : goal.returns
returns c = rw (← c.self.view_is) (sym (length-marks_in _ _))
