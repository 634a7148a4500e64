use Rattle.leaf_match.proofs.AsciiCaseLemmas.{StartsCi-by_front}
use Rattle.leaf_match.proofs.ascii_case.starts_ci.Goals as goal

pub returns-then-front-text : goal.returns-then-front-text
returns-then-front-text c =
    let by = StartsCi-by_front c.args.text.now c.args.front.now in
    let test = rw (c.as_bytes-text.ensures.value, c.as_bytes-front.ensures.value) at c.eq_ignore_ascii_case.ensures.test in
    (λ e. by.0 (test.0 e), λ s. test.1 (by.1 s))
