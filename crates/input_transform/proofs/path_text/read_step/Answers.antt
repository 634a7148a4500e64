use Rattle.std.proofs.Common.{◌-◌, subst, take, drop, length, arith}
use Rattle.input_transform.specs.Cuts.{BeginsSo}
use Rattle.input_transform.proofs.PathLemmas.{place_only, begins_with}
use Rattle.input_transform.proofs.path_text.read_step.Goals as goal

pub returns-in-Some-clause-only : goal.returns-in-Some-clause-only
returns-in-Some-clause-only c step rest begins ends =
    let bytes = c.args.bytes.now in
    let whole = begins_with 91 bytes (omega arith) (omega arith) in
    place_only (take (length bytes - 1) (drop 1 bytes)) c.in-Some.place c.in-Some.after.now step rest c.in-Some.ensures.1 c.in-Some.ensures.0
    (subst (λ bs. BeginsSo bs step rest) whole begins) ends
