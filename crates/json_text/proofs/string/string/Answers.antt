use Rattle.std.proofs.Common.{◌≡◌, ◌+◌, Ok, Err, ap, sym, ◌∙◌, get_or, arith}
use Rattle.std.proofs.Common.{take}
use Rattle.json_text.proofs.StringScan.{mark_utf8}
use Rattle.json_text.proofs.PlainLemmas.{plain_front, plain_whole, plain_ended}
use Rattle.json_text.proofs.string.string.Goals as goal

pub returns-then-plain-bytes-clause-stop : goal.returns-then-plain-bytes-clause-stop
returns-then-plain-bytes-clause-stop c = λ n e. let same : c.plain_len-plain.result ≡ n = cc in
    plain_whole c.args.bytes.now c.plain_len-plain.result c.plain_len-plain.ensures.plain (omega arith) ∙ ap Err same

pub from_utf8-requires : goal.from_utf8-requires
from_utf8-requires c = let mark : get_or c.args.bytes.now c.plain_len-plain.result 0 ≡ 34 = omega arith in
    mark_utf8 c.args.bytes.now (take c.plain_len-plain.result c.args.bytes.now) c.plain_len-plain.result (omega (arith, c.plain_len-plain.ensures.within)) mark
    (plain_front c.args.bytes.now c.plain_len-plain.result c.plain_len-plain.ensures.plain c.plain_len-plain.ensures.within)

pub returns-clause-ok : goal.returns-clause-ok
returns-clause-ok c = let mark : get_or c.args.bytes.now c.plain_len-plain.result 0 ≡ 34 = omega arith in
    plain_ended c.args.bytes.now c.plain_len-plain.result c.plain_len-plain.ensures.plain (omega (arith, c.plain_len-plain.ensures.within)) mark
    ∙ ap (λ t. Ok (t, c.plain_len-plain.result + 1)) (sym c.in_ok-from_utf8.ensures)
