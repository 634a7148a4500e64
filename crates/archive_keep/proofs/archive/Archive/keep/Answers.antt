use Rattle.std.proofs.Common.{◌≡◌, ℕ, ◌^◌, ◌<◌, ◌+◌, List, [], ◌∷◌, ◌++◌, length, sym, subst, ap, ◌∙◌, arith}
use Rattle.std.specs.Prelude.{All}
use Rattle.std.proofs.lemmas.List.Sums.{sum_by-append, sum_by-cons}
use Rattle.std.proofs.lemmas.List.Elements.{All-push}
use Rattle.archive_keep.specs.declared.event_ref.KeptEvent.{KeptEvent}
use Rattle.archive_keep.specs.Archive.{Archive, size_of}
use Rattle.archive_keep.specs.Kept.{IsLater}
use Rattle.archive_keep.specs.Sound.{IsSummed}
use Rattle.archive_keep.proofs.KeptLemmas.{single, order_push, size_bound}
use Rattle.archive_keep.proofs.archive.Archive.keep.Goals as goal

kept_more : (bytes size : ℕ) (events one new : List KeptEvent) → IsSummed bytes events → length one ≡ 1 → size ≡ size_of one → size < 2 ^ 64
    → ((e : KeptEvent) → one ≡ e ∷ [] → All (λ o. IsLater o e) events) → new ≡ events ++ one → IsSummed (bytes + size) new
kept_more bytes size events one new h is sized short later made =
    let (e, named) = single one is in
    let f : KeptEvent → ℕ = λ e. length e.text in
    let all : new ≡ events ++ e ∷ [] = made ∙ ap (λ xs. events ++ xs) named in
    let alone : size ≡ length e.text = sized ∙ ap size_of named ∙ omega (arith, sum_by-cons f e []) in
    let F : List KeptEvent → Type 0 = λ xs. IsSummed (bytes + size) xs in
    let made_so : F (events ++ e ∷ []) = record {
      in_order = order_push events e h.in_order (later e named);
      sum = omega (arith, h.sum, sum_by-append f events (e ∷ []), sum_by-cons f e [], alone);
      short = All-push (λ (e : KeptEvent). length e.text < 2 ^ 64) events e h.short (omega (arith, short, alone));
    } in
    subst F (sym all) made_so

pub overflow_add-self : goal.overflow_add-self
overflow_add-self c =
    let few : length c.self.inside.events + 1 < 2 ^ 63 = subst (λ (a : Archive). length a.events + 1 < 2 ^ 63) (sym c.self.view_is) c.requires.room in
    omega (arith, few, c.self.invariant.sum, size_bound c.self.inside.events c.self.invariant.short, c.size_of_one.ensures.short)

pub invariant_of-self : goal.invariant_of-self
invariant_of-self c =
    let Later : Archive → Type 0 = λ a. (e : KeptEvent) → c.args.event ≡ e ∷ [] → All (λ o. IsLater o e) a.events in
    kept_more c.self.inside.bytes c.size_of_one.result c.self.inside.events c.args.event c.join.new.list c.self.invariant c.requires.one
    c.size_of_one.ensures.size c.size_of_one.ensures.short (subst Later (sym c.self.view_is) c.requires.later) c.join.ensures
