use Rattle.std.proofs.Common.{[], ◌∷◌, arith}
use Rattle.event_text.proofs.TextLemmas.{cut_1, left_after, plain_begins}
use Rattle.event_text.proofs.string.plain_string.Goals as goal

pub returns-in-34-clause-text : goal.returns-in-34-clause-text
returns-in-34-clause-text c =
    let after = c.split_at.result.1.now in
    plain_begins c.args.bytes.now c.split_at.result.0.now after _ c.args.len (omega (arith, c.plain_len.ensures.within)) (λ k from to.
    c.plain_len.ensures.plain k from (omega arith)) c.split_at.ensures.front c.split_at.ensures.back
    (left_after after 1 (34 ∷ []) (cut_1 after 34 c.in-34.len_at_least (omega arith)))
