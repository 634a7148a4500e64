use Rattle.std.proofs.Common.{Bool, length, ap, ◌∙◌, rules}
use borrow.Author.Tests.{tests}
use Rattle.std.proofs.lemmas.Iterator.Consumers.{YieldsList-from_rest, count_from_yields_List}
use Rattle.std.proofs.lemmas.Iterator.Search.{YieldsList-from_take_while}
use Rattle.archive_keep.specs.declared.event_ref.KeptEvent.{KeptEvent}
use Rattle.archive_keep.specs.Archive.{Archive, is_retained, has_expired, expired_at}
use Rattle.archive_keep.proofs.KeptLemmas.{gone_front, retained_later}
use Rattle.archive_keep.proofs.archive.Archive.expired_count.Goals as goal

pub returns-clause-count : goal.returns-clause-count
returns-clause-count c =
    let test : KeptEvent → Bool = λ e. has_expired c.self.inside.days c.args.moment e in
    let count = count_from_yields_List c.take_while.result c.count.result c.count.ensures.ran
    (YieldsList-from_take_while _ test (YieldsList-from_rest c.self.inside.events (cc)) c.take_while.ensures.closure c.take_while.ensures.done
    (λ x b q k. search (rules, tests))) in
    count
    ∙ gone_front (is_retained c.self.inside.days c.args.moment) (retained_later c.self.inside.days c.args.moment) c.self.inside.events c.self.invariant.in_order
    ∙ ap (λ (a : Archive). length (expired_at c.args.moment a)) c.self.view_is
