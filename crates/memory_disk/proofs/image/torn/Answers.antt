use Rattle.std.proofs.Common.{length, ap, ◌∙◌, arith}
use Rattle.std.proofs.lemmas.Result.{IfOk-weaker}
use Rattle.router_disk.specs.Disk.{overwritten}
use Rattle.memory_disk.proofs.HeldDiskLemmas.{torn_piece}
use Rattle.memory_disk.proofs.image.torn.Goals as goal

pub returns : goal.returns
returns c =
    IfOk-weaker c.overwrite.result _ _
    (λ next is.
    torn_piece c.args.image.now c.args.at (length c.args.bytes.now) c.in_ok-piece.piece.items next.items (omega (arith, c.if-at-image.false))
    c.in_ok-piece.ensures (is ∙ ap (overwritten c.args.image.now c.args.at) c.as_slice.ensures.value))
    c.overwrite.ensures.is
