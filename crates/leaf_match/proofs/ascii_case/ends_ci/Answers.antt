use Rattle.std.proofs.Common.{length, ◌-◌}
use Rattle.leaf_match.proofs.AsciiCaseLemmas.{EndsCi-by_end, take-to_end}
use Rattle.leaf_match.proofs.ascii_case.ends_ci.Goals as goal

pub returns-then-end-text : goal.returns-then-end-text
returns-then-end-text c =
    let text = c.args.text.now in
    let end = c.args.end.now in
    let by = EndsCi-by_end text end in
    let test = rw (
      c.as_bytes-text.ensures.value,
      c.as_bytes-end.ensures.value,
      take-to_end (length text - length end) text,
    ) at c.eq_ignore_ascii_case.ensures.test in
    (λ e. by.0 (test.0 e), λ s. test.1 (by.1 s))
