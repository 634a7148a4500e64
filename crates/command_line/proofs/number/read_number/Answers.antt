use Rattle.std.proofs.Common.{◌≡◌, ◌<◌, ◌^◌, true, Ok, sym, subst, ◌∙◌, arith}
use Rattle.std.proofs.lemmas.Bool.{false≢true}
use Rattle.std.proofs.lemmas.Fmt.{parse-decimal}
use Rattle.command_line.specs.Number.{IsNumber}
use Rattle.command_line.proofs.number.read_number.Goals as goal

pub returns-in-Ok-2 : goal.returns-in-Ok-2
returns-in-Ok-2 c = λ number is.
    let small : number < 2 ^ 64 = omega (arith, is.1, c.ranges.most) in
    let parsed : c.parse.result ≡ Ok number = parse-decimal 64 number c.args.digits.now c.parse.result small small is.2
    c.parse.ensures.value.0 in
    let same : number ≡ c.in-Ok.number = cc in
    let yes : c.is_spelled.result ≡ true = c.is_spelled.ensures.1 (subst (IsNumber c.args.least c.args.most c.args.digits.now) same is) in
    false≢true (sym c.if-is_spelled.false ∙ yes)

pub returns-in-Err : goal.returns-in-Err
returns-in-Err c = λ number is.
    let small : number < 2 ^ 64 = omega (arith, is.1, c.ranges.most) in
    let parsed : c.parse.result ≡ Ok number = parse-decimal 64 number c.args.digits.now c.parse.result small small is.2
    c.parse.ensures.value.0 in
    cc
