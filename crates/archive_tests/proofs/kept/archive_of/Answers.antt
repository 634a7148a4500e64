use Rattle.std.proofs.Common.{◌≡◌, ◌+◌, ◌≤◌, ℕ, List, [], ◌∷◌, sym, subst, ap, arith}
use Rattle.std.specs.Prelude.{All}
use Rattle.std.proofs.lemmas.List.Elements.{All-push, All-weaker}
use Rattle.archive_keep.specs.declared.event_ref.KeptEvent.{KeptEvent}
use Rattle.archive_keep.specs.Archive.{Archive}
use Rattle.archive_keep.specs.Kept.{IsLater}
use Rattle.archive_tests.proofs.kept.archive_of.Goals as goal

later_all : (number moment accepted : ℕ) (events list : List KeptEvent) (first e : KeptEvent) → All (λ (o : KeptEvent). (o.number ≤ number) × (o.accepted ≤ moment)) events
    → moment ≤ accepted → list ≡ first ∷ [] → first.number ≡ number + 1 → first.accepted ≡ accepted → list ≡ e ∷ [] → All (λ o. IsLater o e) events
later_all number moment accepted events list first e all after made numbered at is =
    let same : first ≡ e = cc in
    let n = ap (λ (x : KeptEvent). x.number) same in
    let m = ap (λ (x : KeptEvent). x.accepted) same in
    let P : KeptEvent → Type 0 = λ o. (o.number ≤ number) × (o.accepted ≤ moment) in
    All-weaker P (λ o. IsLater o e) (λ o both. (omega (arith, both.0, numbered, n), omega (arith, both.1, after, at, m))) events all

pub keep-requires-clause-later : goal.keep-requires-clause-later
keep-requires-clause-later c = λ e is.
    let (first, made, numbered, at) = c.in_ok-list.ensures in
    later_all c.loop-event.number c.loop-event.moment _ c.loop-event.archive.events c.in_ok-list.list first e c.loop-event.invariant.2
    c.if-accepted-moment.false made numbered at is

pub loop-event-preserved : goal.loop-event-preserved
loop-event-preserved c =
    let (first, made, numbered, at) = c.in_ok-list.ensures in
    let P : KeptEvent → Type 0 = λ o. (o.number ≤ c.loop-event.number) × (o.accepted ≤ c.loop-event.moment) in
    let Q : KeptEvent → Type 0 = λ o. (o.number ≤ c.loop-event.number + 1) × (o.accepted ≤ c.in_ok-accepted.accepted) in
    let before = All-weaker P Q (λ o both. (omega (arith, both.0), omega (arith, both.1, c.if-accepted-moment.false))) c.loop-event.archive.events
    c.loop-event.invariant.2 in
    let all = All-push Q c.loop-event.archive.events first before (omega (arith, numbered), omega (arith, at)) in
    (tt, tt, subst (λ (a : Archive). All Q a.events) (sym (c.keep.ensures first made)) all)
