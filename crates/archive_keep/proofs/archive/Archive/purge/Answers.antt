use Rattle.std.proofs.Common.{◌≡◌, ℕ, ◌-◌, ◌^◌, ◌<◌, Bool, not, List, length, take, drop, sym, subst, ap, ◌∙◌, arith}
use Rattle.std.specs.Prelude.{filter}
use Rattle.std.proofs.lemmas.List.Elements.{All-filter}
use Rattle.archive_keep.specs.declared.event_ref.KeptEvent.{KeptEvent}
use Rattle.archive_keep.specs.Archive.{Archive, is_retained, has_expired, retained_at, expired_at, size_of}
use Rattle.archive_keep.specs.Sound.{IsSummed}
use Rattle.archive_keep.proofs.KeptLemmas.{gone_taken, kept_dropped, order_filter, parts_size, retained_later}
use Rattle.archive_keep.proofs.archive.Archive.purge.Goals as goal

-- the count is that of the events before the purge
counted : (c : goal.After-replace) → c.expired_count-count.result ≡ length (filter (has_expired c.self.inside.days c.args.moment) c.self.inside.events)
counted c = c.expired_count-count.ensures.count ∙ ap (λ (a : Archive). length (expired_at c.args.moment a)) (sym c.self.view_is)

front : (c : goal.After-replace) → take c.expired_count-count.result c.self.inside.events ≡ filter (has_expired c.self.inside.days c.args.moment) c.self.inside.events
front c =
    ap (λ n. take n c.self.inside.events) (counted c)
    ∙ gone_taken (is_retained c.self.inside.days c.args.moment) (retained_later c.self.inside.days c.args.moment) c.self.inside.events c.self.invariant.in_order

-- the events that stay
left : (c : goal.After-replace) → c.replace.new.dest ≡ filter (is_retained c.self.inside.days c.args.moment) c.self.inside.events
left c =
    c.replace.ensures.after ∙ c.cut-left.ensures.back ∙ ap (λ n. drop n c.self.inside.events) (counted c)
    ∙ kept_dropped (is_retained c.self.inside.days c.args.moment) (retained_later c.self.inside.days c.args.moment) c.self.inside.events c.self.invariant.in_order

summed_left : (keep : KeptEvent → Bool) (bytes gone : ℕ) (events : List KeptEvent) → IsSummed bytes events → gone ≡ size_of (filter (λ e. not (keep e)) events)
    → IsSummed (bytes - gone) (filter keep events)
summed_left keep bytes gone events h is = record {
  in_order = order_filter keep events h.in_order;
  sum = omega (arith, is, h.sum, parts_size keep events);
  short = All-filter keep (λ (e : KeptEvent). length e.text < 2 ^ 64) events h.short;
}

pub invariant_of-self : goal.invariant_of-self
invariant_of-self c =
    subst (IsSummed (c.self.inside.bytes - c.size_of_first.result)) (sym (left c))
    (summed_left (is_retained c.self.inside.days c.args.moment) c.self.inside.bytes c.size_of_first.result c.self.inside.events c.self.invariant
    (c.size_of_first.ensures.size ∙ ap size_of (front c)))

pub returns-clause-left : goal.returns-clause-left
returns-clause-left c =
    ap (λ (es : List KeptEvent). record { name = c.self.inside.name; days = c.self.inside.days; created = c.self.inside.created; events = es }) (left c)
    ∙ ap (λ (a : Archive). record a { events = retained_at c.args.moment a }) c.self.view_is

pub returns-clause-gone : goal.returns-clause-gone
returns-clause-gone c =
    c.replace.ensures.value ∙ c.cut-left.ensures.front ∙ front c ∙ ap (λ (a : Archive). expired_at c.args.moment a) c.self.view_is
