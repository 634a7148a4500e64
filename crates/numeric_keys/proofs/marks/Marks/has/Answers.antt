use Rattle.std.proofs.Common.{◌≡◌, ap, length, sym, ◌∙◌, arith, slice_get}
use Rattle.numeric_keys.proofs.MarksLemmas.{length-marks_in, is_marked-read}
use Rattle.numeric_keys.proofs.marks.Marks.has.Goals as goal

pub index-word-requires : goal.index-word-requires
index-word-requires c =
    let places : c.self.inside.places ≡ length c.args.self.now = sym (length-marks_in _ _)
    ∙ ap length c.self.view_is in
    omega (arith, c.self.invariant)

pub returns : goal.returns
returns c =
    let places : c.self.inside.places ≡ length c.args.self.now = sym (length-marks_in _ _)
    ∙ ap length c.self.view_is in
    ap (λ marks. slice_get marks c.args.place) (sym c.self.view_is)
    ∙ is_marked-read c.self.inside.words.items c.self.inside.places c.args.place _ (omega arith)
    (omega (arith, c.self.invariant)) c.index-word.ensures
