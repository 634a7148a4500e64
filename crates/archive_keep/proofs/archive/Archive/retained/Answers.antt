use Rattle.std.proofs.Common.{length, drop, sym, subst, ap, ◌∙◌}
use Rattle.archive_keep.specs.Archive.{Archive, is_retained, retained_at, expired_at}
use Rattle.archive_keep.specs.Kept.{AreInOrder}
use Rattle.archive_keep.proofs.KeptLemmas.{kept_dropped, order_filter, retained_later}
use Rattle.archive_keep.proofs.archive.Archive.retained.Goals as goal

pub returns-clause-events : goal.returns-clause-events
returns-clause-events c =
    let events = c.self.inside.events in
    let days = c.self.inside.days in
    let counted = c.expired_count-count.ensures.count ∙ ap (λ (a : Archive). length (expired_at c.args.moment a)) (sym c.self.view_is) in
    c.skip.ensures ∙ ap (λ n. drop n events) counted
    ∙ kept_dropped (is_retained days c.args.moment) (retained_later days c.args.moment) events c.self.invariant.in_order
    ∙ ap (λ (a : Archive). retained_at c.args.moment a) c.self.view_is

pub returns-clause-in_order : goal.returns-clause-in_order
returns-clause-in_order c =
    subst (λ (a : Archive). AreInOrder (retained_at c.args.moment a)) c.self.view_is
    (order_filter (is_retained c.self.inside.days c.args.moment) c.self.inside.events c.self.invariant.in_order)
