use Rattle.std.proofs.Common.{[], ◌∷◌, arith}
use Rattle.event_text.proofs.TextLemmas.{cut_1, left_after, key_begins}
use Rattle.event_text.proofs.key.after_key.Goals as goal

pub returns-in-58-clause-key : goal.returns-in-58-clause-key
returns-in-58-clause-key c =
    let rest = c.in_ok-rest.rest.now in
    let key = c.in_ok-rest.ensures.text in
    key_begins key.0 c.args.bytes.now rest c.split_at.result.0.now _ c.hash_of.result key.1
    (left_after rest 1 (58 ∷ []) (cut_1 rest 58 c.in-58.len_at_least (omega arith))) c.split_at.ensures.front c.hash_of.ensures
