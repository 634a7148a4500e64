use Rattle.std.proofs.Common.{◌≡◌, ℕ, List, [], ◌∷◌, Some, None, refl, sym, ap, subst, ◌∙◌, rules}
use Rattle.std.specs.Prelude.{slice_get}
use Rattle.key_tree.specs.Entries.{value_at}
use Rattle.replay_run.specs.Replays.{found, name_of, running}
use Rattle.replay_run.proofs.ReplaysLemmas.{first_entry, first_named, no_entry, next_named, next_row}
use Rattle.replay_run.proofs.replays.Replays.next.Goals as goal

first_of_items : (xs : List ℕ) (x : ℕ) → Some x ≡ slice_get xs 0 → (rest : List ℕ) × (xs ≡ x ∷ rest)
first_of_items [] x h = absurd (cc)
first_of_items (y ∷ ys) x h = (ys, let same : x ≡ y = cc in ap (λ z. z ∷ ys) (sym same))

none_of_items : (xs : List ℕ) → None ≡ slice_get xs 0 → xs ≡ []
none_of_items [] h = refl
none_of_items (y ∷ ys) h = absurd (cc)

pub returns-in-Some-clause-first : goal.returns-in-Some-clause-first
returns-in-Some-clause-first c =
    let es = c.self.inside.all in
    let sound = c.self.invariant.2 in
    let n = c.in-Some.number.now in
    let (later, is) = first_of_items c.self.inside.running.items n (c.in-Some.ensures.value ∙ ap (λ (xs : List ℕ). slice_get xs 0) c.deref.ensures.value) in
    let (row, rest, runs, value) = first_entry es n later sound.counted (sym is ∙ sound.runs) in
    let keyed : c.from.result ≡ n = search rules in
    let now : running c.args.self.now ≡ row ∷ rest = ap running (sym c.self.view_is) ∙ runs in
    next_row c.get.result (value_at c.from.result es) c.args.self.now rest row c.get.ensures (ap (λ k. value_at k es) keyed ∙ value) now

pub returns-in-Some-clause-named : goal.returns-in-Some-clause-named
returns-in-Some-clause-named c =
    let es = c.self.inside.all in
    let sound = c.self.invariant.2 in
    let n = c.in-Some.number.now in
    let (later, is) = first_of_items c.self.inside.running.items n (c.in-Some.ensures.value ∙ ap (λ (xs : List ℕ). slice_get xs 0) c.deref.ensures.value) in
    let (row, rest, runs, value) = first_entry es n later sound.counted (sym is ∙ sound.runs) in
    let keyed : c.from.result ≡ n = search rules in
    let named_so = first_named es row rest sound.counted sound.apart runs in
    next_named c.get.result (value_at c.from.result es) c.args.self.now rest row c.get.ensures (ap (λ k. value_at k es) keyed ∙ value)
    (subst (λ all. found (name_of row) all ≡ Some row) c.self.view_is named_so)

pub returns-in-None-clause-first : goal.returns-in-None-clause-first
returns-in-None-clause-first c =
    let es = c.self.inside.all in
    let is = none_of_items c.self.inside.running.items (c.in-None.ensures.value ∙ ap (λ (xs : List ℕ). slice_get xs 0) c.deref.ensures.value) in
    ap running (sym c.self.view_is) ∙ no_entry es (sym is ∙ c.self.invariant.2.runs)
