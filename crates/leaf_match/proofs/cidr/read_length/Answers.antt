use Rattle.std.proofs.Common.{refl, sym, subst, arith, ◌^◌, ◌<◌}
use Rattle.std.proofs.lemmas.Bool.{false≢true}
use Rattle.std.proofs.lemmas.Fmt.{parse-decimal}
use Rattle.leaf_match.specs.Cidr.{BeginsPlainly}
use Rattle.leaf_match.proofs.CidrLemmas.{BeginsPlainly-decimal, decimal_plainly, result_ok-some, result_ok-none, at_most}
use Rattle.leaf_match.proofs.cidr.read_length.Goals as goal

pub returns-then-not-begins_plainly : goal.returns-then-not-begins_plainly
returns-then-not-begins_plainly c = λ n within e.
    let plain = rw c.as_bytes.ensures.value at c.if-not-begins_plainly.ensures in
    let small : c.args.most < 2 ^ 32 = c.ranges.most.fits in
    false≢true (plain.1 (subst BeginsPlainly (sym e) (BeginsPlainly-decimal n (omega arith))))

pub returns-in_err-length : goal.returns-in_err-length
returns-in_err-length c = rw c.from_residual.ensures (λ n within e.
    let small : c.args.most < 2 ^ 32 = c.ranges.most.fits in
    result_ok-none c.parse.result n c.in_err-length.ensures.value
    (parse-decimal 32 n c.args.digits.now c.parse.result (omega arith) (omega arith) e c.parse.ensures.value.0))

pub returns : goal.returns
returns c =
    let small : c.args.most < 2 ^ 32 = c.ranges.most.fits in
    let plain = rw c.as_bytes.ensures.value at c.if-not-begins_plainly.ensures in
    let read = result_ok-some c.parse.result c.in_ok-length.length c.in_ok-length.ensures.value in
    let spelled = decimal_plainly c.args.digits.now c.in_ok-length.length c.parse.result c.parse.ensures.value.0 (plain.0 refl) read in
    rw c.then_some.ensures (at_most c.args.most c.in_ok-length.length c.args.digits.now spelled.0 small spelled.1)
