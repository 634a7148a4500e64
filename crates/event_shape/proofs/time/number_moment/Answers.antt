use Rattle.std.proofs.Common.{arith}
use Rattle.std.proofs.lemmas.Str.Pattern.{strip_prefix_char}
use Rattle.event_shape.proofs.NumberLemmas.{minus_number, plain_number}
use Rattle.event_shape.proofs.time.number_moment.Goals as goal

pub returns-in-Some : goal.returns-in-Some
returns-in-Some c = λ n.
    let cut = rw c.in-Some.is at (strip_prefix_char 45 c.args.spelling.now c.strip_prefix.result c.strip_prefix.ensures.cases (omega arith)) in
    let same = minus_number c.args.spelling.now c.in-Some.unsigned.now n cut in (
      λ e.
          let z = (c.zero_only.ensures n).0 e in
          let p = (c.unsigned_moment.ensures n).0 z.0 in
          (p.0, (same (omega (arith, p.0))).1 (p.1, z.1)),
      λ p.
          let q = (same (omega (arith, p.0))).0 p.1 in
          (c.zero_only.ensures n).1 ((c.unsigned_moment.ensures n).1 (p.0, q.0), q.1),
    )

pub returns-in-None : goal.returns-in-None
returns-in-None c = λ n.
    let none = rw c.in-None.is at (strip_prefix_char 45 c.args.spelling.now c.strip_prefix.result c.strip_prefix.ensures.cases (omega arith)) in
    let same = plain_number c.args.spelling.now n none in (
      λ e. let p = (c.unsigned_moment-in-None.ensures n).0 e in (p.0, same.1 p.1),
      λ p. (c.unsigned_moment-in-None.ensures n).1 (p.0, same.0 p.1),
    )
