use Rattle.std.proofs.Common.{◌≢◌, ◌∙◌, sym, length, arith}
use Rattle.std.proofs.lemmas.Bool.{eqb-true, eqb-false}
use Rattle.input_transform.proofs.RewriteLemmas.{one_more_there, one_more_only, none_goes_on, all_there, all_only}
use Rattle.input_transform.proofs.rewriting.lettered.Goals as goal

pub loop-rest-preserved : goal.loop-rest-preserved
loop-rest-preserved c =
    let o = c.in-Ok.ensures in
    let some : length c.loop-rest.rest.now ≢ 0 = eqb-false _ 0 (sym c.is_empty.ensures ∙ c.loop-rest-test.true) in record {
      there = one_more_there c.args.paths.now c.args.text.now c.loop-rest.rest.now c.in-Ok.after.now c.loop-rest.out c.push_token.new.out o.found.0
          c.loop-rest.invariant.there o.found.1 o.found.2;
      only = one_more_only c.args.paths.now c.args.text.now c.loop-rest.rest.now c.in-Ok.after.now c.loop-rest.out c.push_token.new.out (omega arith) o.only
          c.loop-rest.invariant.only;
    }

pub returns-in-Err-clause-only : goal.returns-in-Err-clause-only
returns-in-Err-clause-only c ts are e =
    let some : length c.loop-rest.rest.now ≢ 0 = eqb-false _ 0 (sym c.is_empty.ensures ∙ c.loop-rest-test.true) in
    none_goes_on c.args.paths.now c.args.text.now c.loop-rest.rest.now c.loop-rest.out (omega arith) c.in-Err.ensures.only c.loop-rest.invariant.only ts are e

pub returns-clause-found : goal.returns-clause-found
returns-clause-found c =
    all_there c.args.paths.now c.args.text.now c.loop-rest.rest.now c.loop-rest.out (eqb-true _ _ (sym c.loop-rest-test.ensures)) c.loop-rest.invariant.there

pub returns-clause-only : goal.returns-clause-only
returns-clause-only c =
    all_only c.args.paths.now c.args.text.now c.loop-rest.rest.now c.loop-rest.out (eqb-true _ _ (sym c.loop-rest-test.ensures)) c.loop-rest.invariant.only
