use Rattle.std.proofs.Common.{◌++◌, ◌∷◌, ◌∙◌, ap, append-nil}
use Rattle.json_text.specs.Compact.{escape}
use Rattle.input_transform.specs.Letters.{shown, steps_of, inside_of}
use Rattle.input_transform.proofs.FlatLemmas.{part_step, inside_plain}
use Rattle.input_transform.proofs.flat.push_byte.Goals as goal

pub returns-clause-added : goal.returns-clause-added
returns-clause-added c paths scene =
    part_step (shown scene (steps_of paths) c.args.out.now) (shown scene (steps_of paths) c.push_escaped.new.self) (escape c.args.byte)
    (inside_of paths scene (c.args.byte ∷ c.args.rest.now)) (inside_of paths scene c.args.rest.now)
    (c.in_ok-push_escaped.ensures scene (steps_of paths) ∙ ap (λ x. shown scene (steps_of paths) c.args.out.now ++ x) (append-nil (escape c.args.byte)))
    (inside_plain paths scene c.args.byte c.args.rest.now c.requires)
