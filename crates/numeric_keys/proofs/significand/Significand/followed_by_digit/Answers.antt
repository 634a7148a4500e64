use Rattle.std.proofs.Common.{◌≡◌, ◌*◌, ◌^◌, ◌<◌, arith}
use Rattle.numeric_keys.specs.Number.{largest_size}
use Rattle.numeric_keys.proofs.PowerLemmas.{times_ten, too_long_now}
use Rattle.numeric_keys.proofs.significand.Significand.followed_by_digit.Goals as goal

pub returns-then-digit-eq0-clause-some : goal.returns-then-digit-eq0-clause-some
returns-then-digit-eq0-clause-some c = rw times_ten (omega arith)

pub returns-in_err-digits-clause-none : goal.returns-in_err-digits-clause-none
returns-in_err-digits-clause-none c =
    let large : largest_size < c.args.self.digits * 10 ^ c.args.self.zeros * 10 =
    rw times_ten at c.in_err-digits.ensures.none in
    rw c.from_residual.ensures
    (too_long_now (c.args.self.digits * 10 ^ c.args.self.zeros) c.args.digit (omega arith)
    (omega arith) (omega arith))

pub returns-then-digits-gt-LARGEST-clause-none : goal.returns-then-digits-gt-LARGEST-clause-none
returns-then-digits-gt-LARGEST-clause-none c =
    let same : c.in_ok-digits.field-0 ≡ c.args.self.digits * 10 ^ c.args.self.zeros * 10 =
    rw times_ten at c.in_ok-digits.ensures.some in
    too_long_now (c.args.self.digits * 10 ^ c.args.self.zeros) c.args.digit (omega arith)
    (omega arith) (omega arith)

pub returns-clause-some : goal.returns-clause-some
returns-clause-some c =
    let same : c.in_ok-digits.field-0 ≡ c.args.self.digits * 10 ^ c.args.self.zeros * 10 =
    rw times_ten at c.in_ok-digits.ensures.some in
    omega arith

pub returns-clause-trimmed : goal.returns-clause-trimmed
returns-clause-trimmed c =
    let same : c.in_ok-digits.field-0 ≡ c.args.self.digits * 10 ^ c.args.self.zeros * 10 =
    rw times_ten at c.in_ok-digits.ensures.some in
    record { last = λ some. omega arith; within = omega arith }
