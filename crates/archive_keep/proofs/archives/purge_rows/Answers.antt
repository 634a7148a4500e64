use Rattle.std.proofs.Common.{◌≡◌, ℕ, ◌+◌, ◌<◌, List, ◌++◌, [], ◌∷◌, length, take, drop, map, sym, ap, ◌∙◌, slice_set, slice_index_or, arith}
use Rattle.std.proofs.lemmas.List.Edits.{map_over_more}
use Rattle.archive_keep.specs.Archive.{Archive, purged, expired_at}
use Rattle.archive_keep.proofs.RowLemmas.{take_more, unchanged_at}
use Rattle.archive_keep.proofs.PurgeLemmas.{purge_room, purge_more}
use Rattle.archive_keep.proofs.archives.purge_rows.Goals as goal

next_row : (moment : ℕ) (old rows : List Archive) (i : ℕ) (x : Archive) → i < length old → rows ≡ map (purged moment) (take i old) ++ drop i old
    → x ≡ slice_index_or rows i x → take (i + 1) old ≡ take i old ++ x ∷ []
next_row moment old rows i x within so_far is =
    take_more old i x within (is ∙ ap (λ rs. slice_index_or rs i x) so_far ∙ unchanged_at (purged moment) old i x within)

pub join-requires : goal.join-requires
join-requires c =
    let i = c.loop-archive.archive-index in
    let x = c.archive-item.result in
    let within : i < length c.args.rows.now = omega (arith, c.loop-archive-test.true, c.loop-archive.auto.rows) in
    purge_room c.args.rows.now i c.args.moment x c.args.gone.now c.loop-archive.gone c.purge.result c.requires
    (next_row c.args.moment c.args.rows.now c.loop-archive.rows i x within c.loop-archive.invariant.0 c.archive-item.is) c.loop-archive.invariant.1
    (c.purge.ensures.gone ∙ ap (expired_at c.args.moment) (sym c.archive-item.is))

pub loop-archive-preserved : goal.loop-archive-preserved
loop-archive-preserved c =
    let i = c.loop-archive.archive-index in
    let x = c.archive-item.result in
    let within : i < length c.args.rows.now = omega (arith, c.loop-archive-test.true, c.loop-archive.auto.rows) in (
      ap (slice_set c.loop-archive.rows i) (c.purge.ensures.left ∙ ap (purged c.args.moment) (sym c.archive-item.is))
          ∙ map_over_more (purged c.args.moment) c.args.rows.now c.loop-archive.rows i x within c.loop-archive.invariant.0 c.archive-item.is,
      purge_more c.args.rows.now i c.args.moment x c.args.gone.now c.loop-archive.gone c.purge.result c.join.new.list
          (next_row c.args.moment c.args.rows.now c.loop-archive.rows i x within c.loop-archive.invariant.0 c.archive-item.is) c.loop-archive.invariant.1
          (c.purge.ensures.gone ∙ ap (expired_at c.args.moment) (sym c.archive-item.is)) c.join.ensures,
    )
