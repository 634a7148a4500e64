use Rattle.std.proofs.Common.{◌++◌, ◌∙◌, ap, sym}
use Rattle.std.proofs.lemmas.List.{nil_from_length}
use Rattle.std.proofs.lemmas.Result.{on_ok_weaker}
use Rattle.json_text.specs.Compact.{compact_text}
use Rattle.input_transform.specs.Letters.{shown, steps_of, filled_string}
use Rattle.input_transform.proofs.FlatLemmas.{string_is_name, string_is_text}
use Rattle.input_transform.proofs.flat.push_string.Goals as goal

pub returns-then-letter-eq78 : goal.returns-then-letter-eq78
returns-then-letter-eq78 c = on_ok_weaker c.push_named.result (λ h scene. h scene
    ∙ ap (λ t. shown scene (steps_of c.args.paths.now) c.args.out.now ++ compact_text t)
    (sym (string_is_name c.args.paths.now scene c.args.text.now c.in-Some.rest.now c.in-Some.letter.now c.in-Some.ensures.cases.0 c.if-letter-eq78.true))) c.push_named.ensures

pub returns-else-letter-eq78 : goal.returns-else-letter-eq78
returns-else-letter-eq78 c = on_ok_weaker c.push_quoted.result (λ h scene. h scene
    ∙ ap (λ t. shown scene (steps_of c.args.paths.now) c.args.out.now ++ compact_text t)
    (sym (string_is_text c.args.paths.now scene c.args.text.now c.in-Some.rest.now c.in-Some.letter.now c.in-Some.ensures.cases.0 c.if-letter-eq78.false))) c.push_quoted.ensures

pub returns-in-None : goal.returns-in-None
returns-in-None c = on_ok_weaker c.push_bytes.result (λ h scene. h scene (steps_of c.args.paths.now)
    ∙ ap (λ t. shown scene (steps_of c.args.paths.now) c.args.out.now ++ compact_text (filled_string c.args.paths.now scene t))
    (sym (nil_from_length c.args.text.now c.in-None.ensures.cases))) c.push_bytes.ensures
