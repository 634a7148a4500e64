use Rattle.std.proofs.Common.{◌++◌, ◌∷◌, [], ◌∙◌, ap, sym, append-nil}
use Rattle.std.proofs.lemmas.Result.{on_ok_weaker}
use Rattle.std.proofs.lemmas.List.{nil_from_length}
use Rattle.std.proofs.lemmas.Bool.{eqb-true}
use Rattle.input_transform.specs.Letters.{shown, steps_of, inside_of}
use Rattle.input_transform.proofs.FlatLemmas.{quoted_closed}
use Rattle.input_transform.proofs.flat.push_quoted.Goals as goal

pub loop-rest-preserved : goal.loop-rest-preserved
loop-rest-preserved c scene = c.in-Ok.ensures.added scene ∙ c.loop-rest.invariant scene

pub returns : goal.returns
returns c = on_ok_weaker c.push_bytes-2.result (λ h scene.
    let steps = steps_of c.args.paths.now in
    let none = ap (inside_of c.args.paths.now scene) (nil_from_length c.loop-rest.rest.now (eqb-true _ _ (sym c.loop-rest-test.ensures))) in
    let whole = sym (append-nil (shown scene steps c.loop-rest.out)) ∙ ap (λ x. shown scene steps c.loop-rest.out ++ x) (sym none) ∙ c.loop-rest.invariant scene in
    h scene steps
    ∙ quoted_closed (shown scene steps c.args.out.now) (shown scene steps c.push_bytes.new.self) (inside_of c.args.paths.now scene c.args.text.now)
    (shown scene steps c.loop-rest.out) (34 ∷ []) (c.in_ok-push_bytes.ensures scene steps) whole) c.push_bytes-2.ensures
