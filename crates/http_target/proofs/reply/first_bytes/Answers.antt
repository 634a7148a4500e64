use Rattle.std.proofs.Common.{take, ap, ◌∙◌, arith}
use Rattle.std.proofs.lemmas.List.{take_min}
use Rattle.http_target.proofs.reply.first_bytes.Goals as goal

pub returns : goal.returns
returns c =
    let bytes = c.args.bytes.now in
    ap (λ n. take n bytes) (omega (arith, c.min.ensures)) ∙ take_min 16384 bytes
