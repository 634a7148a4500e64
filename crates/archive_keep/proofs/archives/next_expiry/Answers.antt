use Rattle.std.proofs.Common.{◌<◌, length, take, sym, subst, arith}
use Rattle.std.specs.Prelude.{All}
use Rattle.std.proofs.lemmas.List.Elements.{All-push, All-weaker}
use Rattle.archive_keep.specs.Archive.{KeepsUntil}
use Rattle.archive_keep.proofs.RowLemmas.{take_more, take_all}
use Rattle.archive_keep.proofs.PurgeLemmas.{until_weaker}
use Rattle.archive_keep.proofs.archives.next_expiry.Goals as goal

pub loop-archive-preserved : goal.loop-archive-preserved
loop-archive-preserved c =
    let rows = c.args.rows.now in
    let i = c.loop-archive.archive-index in
    let now = c.min-next.result in
    let within : i < length rows = c.loop-archive-test.true in
    let before = All-weaker (KeepsUntil c.loop-archive.next) (KeepsUntil now)
    (λ a kept. until_weaker now c.loop-archive.next a (omega (arith, c.min-next.ensures)) kept) (take i rows) c.loop-archive.invariant in
    let here = until_weaker now c.expiry.result c.archive-item.result (omega (arith, c.min-next.ensures)) c.expiry.ensures in
    subst (All (KeepsUntil now)) (sym (take_more rows i c.archive-item.result within c.archive-item.is)) (All-push (KeepsUntil now) (take i rows) c.archive-item.result before here)

pub returns : goal.returns
returns c =
    subst (All (KeepsUntil c.loop-archive.next)) (take_all c.args.rows.now c.loop-archive.archive-index c.loop-archive-test.false) c.loop-archive.invariant
