use Rattle.std.proofs.Common.{◌≡◌, ap, length, sym, ◌∙◌, arith, true}
use Rattle.std.proofs.Math.ListN.{set}
use Rattle.numeric_keys.proofs.MarksLemmas.{length-marks_in, marks_in-set}
use Rattle.numeric_keys.proofs.marks.Marks.set.Goals as goal

pub index_mut-word-requires : goal.index_mut-word-requires
index_mut-word-requires c =
    let places : c.self.inside.places ≡ length c.args.self.now = sym (length-marks_in _ _)
    ∙ ap length c.self.view_is in
    omega (arith, c.self.invariant)

pub returns : goal.returns
returns c =
    let places : c.self.inside.places ≡ length c.args.self.now = sym (length-marks_in _ _)
    ∙ ap length c.self.view_is in
    marks_in-set c.self.inside.words.items c.self.inside.places c.args.place _ (omega arith)
    (omega (arith, c.self.invariant)) c.index_mut-word.ensures.value
    ∙ ap (λ marks. set marks c.args.place true) c.self.view_is
