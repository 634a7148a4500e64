use Rattle.std.proofs.Common.{◌≡◌, ◌≤◌, ap, sym, ◌∙◌, arith, Some}
use Rattle.std.proofs.lemmas.Int.{ints}
use Rattle.numeric_keys.specs.Spelling.{parts_of}
use Rattle.numeric_keys.specs.NumberReader.{number_of}
use Rattle.numeric_keys.specs.Number.{largest_size}
use Rattle.numeric_keys.proofs.MillionthsLemmas.{whole_digits_read, fraction_digits_read, exponent_digits_read, no_number, no_size, found}
use Rattle.numeric_keys.proofs.number.millionths.Goals as goal
use Rattle.numeric_keys.proofs.number.millionths.Goals.{In_ok-spelling}

-- the parts that were read are those of the text
read : (c : In_ok-spelling) → number_of c.args.text.now ≡ Some (parts_of c.in_ok-spelling.spelling)
read c = ap number_of (sym c.as_bytes.ensures.value) ∙ c.in_ok-spelling.ensures

pub returns-in_err-spelling : goal.returns-in_err-spelling
returns-in_err-spelling c m =
    rw c.from_residual.ensures
    (no_number c.args.text.now m (ap number_of (sym c.as_bytes.ensures.value)
    ∙ c.in_err-spelling.ensures))

pub size_in_millionths-requires-clause-whole : goal.size_in_millionths-requires-clause-whole
size_in_millionths-requires-clause-whole c =
    whole_digits_read c.args.text.now _
    (read (goal.at.size_in_millionths-requires-clause-whole c).In_ok-spelling)

pub size_in_millionths-requires-clause-fraction : goal.size_in_millionths-requires-clause-fraction
size_in_millionths-requires-clause-fraction c =
    fraction_digits_read c.args.text.now _
    (read (goal.at.size_in_millionths-requires-clause-fraction c).In_ok-spelling)

pub size_in_millionths-requires-clause-exponent : goal.size_in_millionths-requires-clause-exponent
size_in_millionths-requires-clause-exponent c =
    exponent_digits_read c.args.text.now _
    (read (goal.at.size_in_millionths-requires-clause-exponent c).In_ok-spelling)

pub returns-in_err-size : goal.returns-in_err-size
returns-in_err-size c m =
    rw c.from_residual-in_err-size.ensures
    (no_size c.args.text.now m _
    (read (goal.at.returns-in_err-size c).In_ok-spelling) c.in_err-size.ensures.every)

pub returns-then-spelling : goal.returns-then-spelling
returns-then-spelling c m =
    let small : c.in_ok-size.field-0 ≤ largest_size = c.in_ok-size.ensures.within in
    found c.args.text.now m _ c.in_ok-size.field-0 _
    (read (goal.at.returns-then-spelling c).In_ok-spelling) small c.in_ok-size.ensures.some c.in_ok-size.ensures.every
    (rw c.if-spelling.true (omega (arith, ints)))

pub returns-else-spelling : goal.returns-else-spelling
returns-else-spelling c m =
    let small : c.in_ok-size.field-0 ≤ largest_size = c.in_ok-size.ensures.within in
    found c.args.text.now m _ c.in_ok-size.field-0 _
    (read (goal.at.returns-else-spelling c).In_ok-spelling) small c.in_ok-size.ensures.some c.in_ok-size.ensures.every
    (rw c.if-spelling.false (omega (arith, ints)))
