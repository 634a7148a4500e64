use Rattle.std.proofs.Common.{◌++◌, ◌∙◌, ap, sym}
use Rattle.std.proofs.lemmas.Result.{on_ok_weaker}
use Rattle.json_text.specs.Compact.{compact_text}
use Rattle.input_transform.specs.Letters.{shown, steps_of}
use Rattle.input_transform.proofs.FlatLemmas.{named_none}
use Rattle.input_transform.proofs.flat.push_named.Goals as goal

pub returns-in-None : goal.returns-in-None
returns-in-None c = on_ok_weaker c.push_bytes.result (λ h scene. h scene (steps_of c.args.paths.now)
    ∙ ap (λ t. shown scene (steps_of c.args.paths.now) c.args.out.now ++ compact_text t)
    (sym (named_none c.args.paths.now scene c.args.name.now c.in-None.ensures))) c.push_bytes.ensures
