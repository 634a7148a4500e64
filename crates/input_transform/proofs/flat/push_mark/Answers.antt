use Rattle.std.proofs.Common.{◌++◌, ◌∷◌, [], ◌∙◌, ap, sym, flat_map}
use Rattle.json_text.specs.Compact.{escape}
use Rattle.input_transform.specs.Names.{value_in}
use Rattle.input_transform.specs.Filled.{inside_text}
use Rattle.input_transform.specs.Letters.{shown, steps_of, inside_of}
use Rattle.input_transform.proofs.FlatLemmas.{part_step, inside_itself, inside_name}
use Rattle.input_transform.proofs.flat.push_mark.Goals as goal

pub returns-in_ok-push_name-in-Some-clause-added : goal.returns-in_ok-push_name-in-Some-clause-added
returns-in_ok-push_name-in-Some-clause-added c scene =
    let k = c.in-Some.ensures in
    let paths = c.args.paths.now in
    part_step (shown scene (steps_of paths) c.args.out.now) (shown scene (steps_of paths) c.push_name.new.self)
    (flat_map escape (inside_text (value_in scene k.0))) (inside_of paths scene (60 ∷ c.args.bytes.now)) (inside_of paths scene c.in-Some.rest.now)
    (c.in_ok-push_name-in-Some.ensures scene (steps_of paths)
    ∙ ap (λ v. shown scene (steps_of paths) c.args.out.now ++ flat_map escape (inside_text v)) (k.3 scene))
    (inside_name paths scene c.args.bytes.now k.0 k.1 k.2
    ∙ ap (λ r. flat_map escape (inside_text (value_in scene k.0)) ++ inside_of paths scene r) (sym k.4))

pub returns-in_ok-push_bytes-in-None-clause-added : goal.returns-in_ok-push_bytes-in-None-clause-added
returns-in_ok-push_bytes-in-None-clause-added c scene =
    let paths = c.args.paths.now in
    part_step (shown scene (steps_of paths) c.args.out.now) (shown scene (steps_of paths) c.push_bytes.new.self) (60 ∷ []) (inside_of paths scene (60 ∷ c.args.bytes.now))
    (inside_of paths scene c.args.bytes.now) (c.in_ok-push_bytes-in-None.ensures scene (steps_of paths)) (inside_itself paths scene c.args.bytes.now c.in-None.ensures)
