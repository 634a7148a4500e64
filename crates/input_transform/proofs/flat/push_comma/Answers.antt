use Rattle.std.proofs.Common.{◌++◌, ◌∙◌, ap, sym}
use Rattle.std.proofs.lemmas.Result.{on_ok_weaker}
use Rattle.input_transform.specs.Letters.{shown, comma_of}
use Rattle.input_transform.proofs.FlatLemmas.{comma_some}
use Rattle.input_transform.proofs.flat.push_comma.Goals as goal

pub returns-then-place-eq0 : goal.returns-then-place-eq0
returns-then-place-eq0 c = on_ok_weaker c.push_bytes.result (λ h scene paths. h scene paths
    ∙ ap (λ x. shown scene paths c.args.out.now ++ x) (sym (ap comma_of c.if-place-eq0.true))) c.push_bytes.ensures

pub returns : goal.returns
returns c = on_ok_weaker c.push_bytes-2.result (λ h scene paths. h scene paths
    ∙ ap (λ x. shown scene paths c.args.out.now ++ x) (sym (comma_some c.args.place c.if-place-eq0.false))) c.push_bytes-2.ensures
