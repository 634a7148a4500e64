use Rattle.std.proofs.Common.{◌^◌, ◌<◌, [], ◌∷◌, ◌++◌, length, sym, subst, arith}
use Rattle.record_file.specs.Text.{IsTextSoFar}
use Rattle.record_file.proofs.TextLemmas.{text_grows}
use Rattle.record_file.proofs.text.Text.add.Goals as goal

pub invariant_of-self : goal.invariant_of-self
invariant_of-self c =
    let fits : length c.args.payload.now < 2 ^ 64 = omega arith in
    subst (λ ps. IsTextSoFar ps c.add.new.bytes.items) (sym c.hear.ensures)
    (subst (λ t. IsTextSoFar (c.self.inside.payloads ++ c.args.payload.now ∷ []) t) (sym c.in-Ok.ensures.ok)
    (text_grows c.self.inside.payloads c.self.inside.bytes.items c.args.payload.now c.self.invariant fits))
