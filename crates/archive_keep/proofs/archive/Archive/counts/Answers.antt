use Rattle.std.proofs.Common.{length, take, sym, ap, ◌∙◌, arith}
use Rattle.archive_keep.specs.Archive.{Archive, is_retained, retained_at, expired_at, size_of}
use Rattle.archive_keep.proofs.KeptLemmas.{gone_taken, parts_count, parts_size, retained_later}
use Rattle.archive_keep.proofs.archive.Archive.counts.Goals as goal

pub returns-clause-events : goal.returns-clause-events
returns-clause-events c =
    let events = c.self.inside.events in
    let counted = c.expired_count-count.ensures.count ∙ ap (λ (a : Archive). length (expired_at c.args.moment a)) (sym c.self.view_is) in
    let kept = ap (λ (a : Archive). length (retained_at c.args.moment a)) c.self.view_is in
    omega (arith, c.len.ensures.value, counted, kept, parts_count (is_retained c.self.inside.days c.args.moment) events)

pub returns-clause-bytes : goal.returns-clause-bytes
returns-clause-bytes c =
    let events = c.self.inside.events in
    let days = c.self.inside.days in
    let counted = c.expired_count-count.ensures.count ∙ ap (λ (a : Archive). length (expired_at c.args.moment a)) (sym c.self.view_is) in
    let front = ap (λ n. take n events) counted
    ∙ gone_taken (is_retained days c.args.moment) (retained_later days c.args.moment) events c.self.invariant.in_order in
    let kept = ap (λ (a : Archive). size_of (retained_at c.args.moment a)) c.self.view_is in
    let gone = c.size_of_first-bytes.ensures.size ∙ ap size_of front in
    omega (arith, gone, kept, c.self.invariant.sum, parts_size (is_retained days c.args.moment) events)
