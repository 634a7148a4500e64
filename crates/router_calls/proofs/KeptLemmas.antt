-- The archives that keep an accepted event: each of them is there (`kept_there`), and they are named once, in byte order (`kept_sorted`).
use Rattle.std.proofs.Common.{◌≡◌, ℕ, inl, inr, Bool, true, false, cond, List, [], ◌∷◌, map, Option, Some, None, refl, sym, subst}
use Rattle.std.specs.Prelude.{All, filter}
use Rattle.std.specs.Option.{is_some}
use Rattle.std.specs.declared.cmp.Ordering.TheVariants.{Less}
use Rattle.std.specs.Cmp.Lexicographic.{slice_cmp}
use Rattle.std.specs.Ordering.{nat_cmp}
use Rattle.std.specs.Str.{bytes_eq}
use Rattle.std.proofs.lemmas.List.Elements.{All-nil, All-cons, All-head, All-tail, All-map, All-filter}
use Rattle.json_text.specs.Tree.{Tree}
use Rattle.name_rows.specs.Rows.{AreSorted}
use Rattle.rule_table.specs.RuleSet.{Archive, RuleSet, archive_at, archives_of, has_archive}
use Rattle.router_requests.specs.Matching.{AreKeeping, seen_archive}
use Rattle.router_requests.specs.declared.seen.SeenArchive.{SeenArchive}
use Rattle.router_calls.specs.Accepted.{archives_kept, is_made_at, is_still_there}

abbrev name_of : SeenArchive → List ℕ
name_of found = found.name

made_some : (made : ℕ) (o : Option Archive) → is_made_at made o ≡ true → is_some o ≡ true
made_some made None is = absurd (cc)
made_some made (Some a) is = refl

abbrev IsThere : RuleSet → List ℕ → Type 0
IsThere set name = has_archive name set ≡ true

pub kept_there : (set : RuleSet) (found : List SeenArchive) → All (IsThere set) (archives_kept set found)
kept_there set [] = All-nil (IsThere set)
kept_there set (a ∷ found) =
    let more = filter (is_still_there set) found in
    (elim (is_still_there set a) as (λ b. is_still_there set a ≡ b → All (IsThere set) (map name_of (cond b (a ∷ more) more))) [
      | true ↦ λ is. All-cons (IsThere set) a.name (archives_kept set found) (made_some a.made (archive_at a.name set) is) (kept_there set found)
      | false ↦ λ is. kept_there set found
    ]) refl

-- ---- in byte order

sorted_filter : {A : Type 0} (f : A → List ℕ) (test : A → Bool) (rows : List A) → AreSorted f rows → AreSorted f (filter test rows)
sorted_filter f test [] sorted = tt
sorted_filter f test (row ∷ rows) sorted =
    let more = filter test rows in
    elim (test row) as (λ b. AreSorted f (cond b (row ∷ more) more)) [
      | true ↦ (All-filter test (λ other. slice_cmp nat_cmp (f row) (f other) ≡ Less) rows sorted.0, sorted_filter f test rows sorted.1)
      | false ↦ sorted_filter f test rows sorted.1
    ]

sorted_map : {A : Type 0} (f : A → List ℕ) (rows : List A) → AreSorted f rows → AreSorted (λ name. name) (map f rows)
sorted_map f [] sorted = tt
sorted_map f (row ∷ rows) sorted = (All-map (λ other. slice_cmp nat_cmp (f row) other ≡ Less) f rows sorted.0, sorted_map f rows sorted.1)

-- what holds of the names of archives holds of those that keep an event
keeping_all : (P : List ℕ → Type 0) (archives : List Archive) (event : Tree) (found : List SeenArchive) → AreKeeping archives event found
    → All (λ a. P a.name) archives → All (λ f. P f.name) found
keeping_all P [] event found none all = subst (All (λ (f : SeenArchive). P f.name)) (sym none) (All-nil (λ (f : SeenArchive). P f.name))
keeping_all P (a ∷ archives) event found (rest, are, which) all =
    let later = keeping_all P archives event rest are (All-tail (λ (x : Archive). P x.name) a archives all) in
    elim which [
      | inl (keeps, is) ↦ subst (All (λ (f : SeenArchive). P f.name)) (sym is)
          (All-cons (λ (f : SeenArchive). P f.name) (seen_archive a) rest (All-head (λ (x : Archive). P x.name) a archives all) later)
      | inr (not, is) ↦ subst (All (λ (f : SeenArchive). P f.name)) (sym is) later
    ]

keeping_sorted : (archives : List Archive) (event : Tree) (found : List SeenArchive) → AreKeeping archives event found
    → AreSorted (λ a. a.name) archives → AreSorted name_of found
keeping_sorted [] event found none sorted = subst (AreSorted name_of) (sym none) tt
keeping_sorted (a ∷ archives) event found (rest, are, which) sorted =
    let later = keeping_sorted archives event rest are sorted.1 in
    elim which [
      | inl (keeps, is) ↦ subst (AreSorted name_of) (sym is)
          (keeping_all (λ name. slice_cmp nat_cmp a.name name ≡ Less) archives event rest are sorted.0, later)
      | inr (not, is) ↦ subst (AreSorted name_of) (sym is) later
    ]

pub kept_sorted : (set now : RuleSet) (bus : List ℕ) (event : Tree) (found : List SeenArchive) → AreSorted (λ a. a.name) set.archives
    → AreKeeping (archives_of bus set) event found → AreSorted (λ name. name) (archives_kept now found)
kept_sorted set now bus event found sorted are =
    let there = sorted_filter (λ (a : Archive). a.name) (λ a. bytes_eq a.bus bus) set.archives sorted in
    sorted_map name_of (filter (is_still_there now) found)
    (sorted_filter name_of (is_still_there now) found (keeping_sorted (archives_of bus set) event found are there))
