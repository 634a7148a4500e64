use Rattle.std.proofs.Common.{◌≡◌, ℕ, ◌<◌, List, [], ◌∷◌, length, refl, subst, arith, slice_index_or}
use Rattle.std.specs.Prelude.{All}
use Rattle.std.proofs.lemmas.List.Elements.{All-cons, All-weaker}
use Rattle.archive_keep.specs.declared.event_ref.KeptEvent.{KeptEvent}
use Rattle.archive_keep.specs.Archive.{Archive, IsKeptUntil}
use Rattle.archive_keep.specs.Kept.{IsLater, AreInOrder}
use Rattle.archive_keep.proofs.KeptLemmas.{retained_later}
use Rattle.archive_keep.proofs.archive.Archive.expiry.Goals as goal

all_until : (until days : ℕ) (events : List KeptEvent) (first : KeptEvent) → AreInOrder events → 0 < length events → first ≡ slice_index_or events 0 first
    → IsKeptUntil until days first → All (IsKeptUntil until days) events
all_until until days [] first o some is kept = absurd (omega (arith, some))
all_until until days (e ∷ es) first o some is kept =
    let here : IsKeptUntil until days e = subst (IsKeptUntil until days) is kept in
    All-cons (IsKeptUntil until days) e es here
    (All-weaker (IsLater e) (IsKeptUntil until days) (λ o later moment before. retained_later days moment e o later (here moment before)) es o.0)

pub returns-in-Some : goal.returns-in-Some
returns-in-Some c =
    let F : Archive → Type 0 = λ a. All (IsKeptUntil c.expiry_of.result a.days) a.events in
    let first = c.in-Some.ensures.lookup in
    subst F c.self.view_is
    (all_until c.expiry_of.result c.self.inside.days c.self.inside.events c.in-Some.event.now c.self.invariant.in_order
    (c.front.ensures.variant.0 (rw c.in-Some.is refl)) first c.expiry_of.ensures)
