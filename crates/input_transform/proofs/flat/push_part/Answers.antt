use Rattle.std.proofs.Common.{◌≡◌, ◌++◌, ◌∙◌, ap, sym}
use Rattle.std.proofs.lemmas.Result.{IfOk-weaker}
use Rattle.input_transform.specs.Names.{Scene}
use Rattle.input_transform.specs.Letters.{shown, steps_of, inside_of}
use Rattle.input_transform.proofs.flat.push_part.Goals as goal

pub returns-else-first-eq60-clause-added : goal.returns-else-first-eq60-clause-added
returns-else-first-eq60-clause-added c = IfOk-weaker c.push_byte.result _
    (λ r. (scene : Scene) → shown scene (steps_of c.args.paths.now) c.push_byte.new.out ++ inside_of c.args.paths.now scene r.now
    ≡ shown scene (steps_of c.args.paths.now) c.args.out.now ++ inside_of c.args.paths.now scene c.args.bytes.now)
    (λ r h scene. h c.args.paths.now scene
    ∙ ap (λ bs. shown scene (steps_of c.args.paths.now) c.args.out.now ++ inside_of c.args.paths.now scene bs) (sym c.in-Some.ensures.cases.0)) c.push_byte.ensures.added
