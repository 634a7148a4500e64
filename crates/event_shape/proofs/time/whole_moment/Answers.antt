use Rattle.std.proofs.Common.{◌≡◌, refl, decimal, None, Some, arith}
use Rattle.std.proofs.lemmas.Bool.{false≢true}
use Rattle.json_text.specs.Moment.{IsMoment}
use Rattle.event_shape.proofs.Found.{found, not_found}
use Rattle.event_shape.proofs.NumberLemmas.{not_plain, plain_is, plain_reads}
use Rattle.event_shape.proofs.time.whole_moment.Goals as goal

pub returns-then-not-begins_plainly : goal.returns-then-not-begins_plainly
returns-then-not-begins_plainly c =
    let plain = rw c.as_bytes.ensures.value at c.if-not-begins_plainly.ensures in
    not_found None refl (not_plain c.args.digits.now (λ h. false≢true (plain.1 h)))

pub returns-then-value-le-LAST_MOMENT : goal.returns-then-value-le-LAST_MOMENT
returns-then-value-le-LAST_MOMENT c =
    let plain = rw c.as_bytes.ensures.value at c.if-not-begins_plainly.ensures in
    let read = plain_is c.args.digits.now c.in-Ok.value c.parse.result c.parse.ensures.value.0 (plain.0 refl) c.in-Ok.is in
    found {P = λ n. IsMoment n × (c.args.digits.now ≡ decimal n)} (Some c.in-Ok.value) c.in-Ok.value refl (omega arith, read.1)
    (λ n p. let same = plain_reads c.args.digits.now n c.parse.result c.parse.ensures.value.0 p in let is = c.in-Ok.is in cc)

pub returns-else-value-le-LAST_MOMENT : goal.returns-else-value-le-LAST_MOMENT
returns-else-value-le-LAST_MOMENT c =
    not_found None refl (λ n p.
    let same = plain_reads c.args.digits.now n c.parse.result c.parse.ensures.value.0 p in
    let is = c.in-Ok.is in
    let value : n ≡ c.in-Ok.value = cc in
    omega (arith, value, p.0))

pub returns-in-Err : goal.returns-in-Err
returns-in-Err c =
    not_found None refl (λ n p.
    let same = plain_reads c.args.digits.now n c.parse.result c.parse.ensures.value.0 p in
    let is = c.in-Err.is in
    cc)
