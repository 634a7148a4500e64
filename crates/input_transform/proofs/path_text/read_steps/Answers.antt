use Rattle.std.proofs.Common.{◌≢◌, ◌++◌, sym, ap, ◌∙◌, subst, arith, length}
use Rattle.std.proofs.lemmas.Bool.{eqb-true, eqb-false}
use Rattle.input_transform.specs.Path.{AreSteps, steps_text}
use Rattle.input_transform.proofs.PathLemmas.{one_more_written, one_more_are, left_after, none_left, all_read}
use Rattle.input_transform.proofs.path_text.read_steps.Goals as goal

pub returns-in-Err-clause-only : goal.returns-in-Err-clause-only
returns-in-Err-clause-only c steps are e =
    let i = c.loop-rest.invariant.only steps are e in
    let some : length c.loop-rest.rest.now ≢ 0 = eqb-false _ 0 (sym c.is_empty.ensures ∙ c.loop-rest-test.true) in
    none_left c.loop-rest.rest.now steps c.loop-rest.steps.items i.0 c.in-Err.ensures.only (omega arith) i.2 i.3

pub loop-rest-preserved : goal.loop-rest-preserved
loop-rest-preserved c =
    let o = c.in-Ok.ensures in
    let pushed = c.in_ok-push-in-Ok.ensures.items in record {
      written = (one_more_written c.args.bytes.now c.loop-rest.rest.now c.in-Ok.after.now c.loop-rest.steps.items c.in-Ok.step c.loop-rest.invariant.written o.found.0)
          ∙ ap (λ t. steps_text t ++ c.in-Ok.after.now) (sym pushed);
      steps = subst AreSteps (sym pushed) (one_more_are c.loop-rest.steps.items c.in-Ok.step c.loop-rest.invariant.steps o.found.1);
      only = λ all are e.
          let i = c.loop-rest.invariant.only all are e in
          let k = left_after c.loop-rest.rest.now c.in-Ok.after.now c.in-Ok.step all c.loop-rest.steps.items i.0 o.found o.only i.1 i.2 i.3 in
          (k.0, k.1 ∙ ap (λ t. t ++ k.0) (sym pushed), k.2, k.3);
    }

pub returns-clause-only : goal.returns-clause-only
returns-clause-only c steps are e =
    let i = c.loop-rest.invariant.only steps are e in
    all_read c.loop-rest.rest.now steps c.loop-rest.steps.items i.0 (eqb-true _ _ (sym c.loop-rest-test.ensures)) i.1 i.3
