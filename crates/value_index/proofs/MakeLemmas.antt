-- How an index is made: `rows_signed`, `entries_entered`, `listed_more`, `ranges_more`, `entered_more`.
use Rattle.std.proofs.Common.{◌≡◌, ℕ, ◌+◌, ◌<◌, List, [], ◌∷◌, ◌++◌, Option, Some, None, length, map, take, get_or, refl, ap, ap₂, ◌∙◌, sym, subst, IsPermutation}
use Rattle.std.specs.Prelude.{ℤ}
use Rattle.std.specs.List.{All, cons_option, filter_map}
use Rattle.std.specs.Option.{option_to_list}
use Rattle.std.specs.declared.alloc.Global.{Global}
use Rattle.std.specs.declared.sync.Arc.{Arc}
use Rattle.std.specs.Arc.{arc_value}
use Rattle.pattern_meaning.specs.PatternView.{test_of}
use Rattle.std.proofs.lemmas.List.{take_more, map-append, map_more}
use Rattle.std.proofs.lemmas.List.Elements.{All-map, All-more, All-weaker, filter_map-append}
use Rattle.std.proofs.lemmas.List.Sorted.{All-permutation, IsPermutation-map}
use Rattle.pattern_meaning.specs.declared.pattern.LeafTest.{LeafTest}
use Rattle.value_index.specs.declared.key.Key.{Key}
use Rattle.value_index.specs.declared.lengths.Lengths.{Lengths}
use Rattle.value_index.specs.declared.row.Row.{Row}
use Rattle.value_index.specs.Index.{entered}
use Rattle.value_index.specs.Lengths.{IsListed, Grown}
use Rattle.value_index.specs.Rows.{key_in, entry_in, range_in, row_of}

abbrev pub IsSigned : Row → Type 0
IsSigned row = row.signature ≡ (key_in row).signature

pub rows_signed : (tests : List (Arc LeafTest Global × ℕ)) (rows sorted : List Row) → rows ≡ map row_of tests → IsPermutation rows sorted → All IsSigned sorted
rows_signed tests rows sorted is moved =
    All-permutation IsSigned rows sorted moved (subst (λ (l : List Row). All IsSigned l) (sym is) (All-map IsSigned row_of tests (λ k d within. refl)))

row_entries : (tests : List (Arc LeafTest Global × ℕ)) → entered tests ≡ map entry_in (map row_of tests)
row_entries [] = refl
row_entries (e ∷ tests) = ap (λ l. entry_in (row_of e) ∷ l) (row_entries tests)

pub entries_entered : (tests : List (Arc LeafTest Global × ℕ)) (rows sorted : List Row) → rows ≡ map row_of tests → IsPermutation rows sorted
    → IsPermutation (entered tests) (map entry_in sorted)
entries_entered tests rows sorted is moved =
    subst (λ l. IsPermutation l (map entry_in sorted)) (ap (map entry_in) is ∙ sym (row_entries tests)) (IsPermutation-map entry_in rows sorted moved)

pub listed_more : (old new : Lengths) (rows : List Row) (i : ℕ) (row : Row) (key : Key) → i < length rows → Grown old new → key ≡ key_in row
    → row ≡ get_or rows i row → IsListed new key.length → All (λ (r : Row). IsListed old (key_in r).length) (take i rows)
    → All (λ (r : Row). IsListed new (key_in r).length) (take (i + 1) rows)
listed_more old new rows i row key within grown is at listed before =
    All-more (λ (r : Row). IsListed new (key_in r).length) rows i row within
    (All-weaker (λ (r : Row). IsListed old (key_in r).length) (λ (r : Row). IsListed new (key_in r).length) (λ r h. grown (key_in r).length h) (take i rows) before)
    (subst (λ (r : Row). IsListed new (key_in r).length) at (subst (λ (k : Key). IsListed new k.length) is listed))

one_range : (o : Option (ℤ × ℤ × ℕ)) → cons_option o [] ≡ option_to_list o
one_range None = refl
one_range (Some range) = refl

pub ranges_more : (rows : List Row) (i : ℕ) (row : Row) (old new : List (ℤ × ℤ × ℕ)) → i < length rows → row ≡ get_or rows i row
    → new ≡ old ++ option_to_list (range_in row) → old ≡ filter_map range_in (take i rows) → new ≡ filter_map range_in (take (i + 1) rows)
ranges_more rows i row old new within at grown before =
    let last : List Row = get_or rows i row ∷ [] in
    grown ∙ ap₂ ◌++◌ before (ap (λ (r : Row). option_to_list (range_in r)) at ∙ sym (one_range (range_in (get_or rows i row))))
    ∙ sym (filter_map-append range_in (take i rows) last) ∙ ap (filter_map range_in) (sym (take_more rows i row within))

pub entered_more : (rows : List Row) (i : ℕ) (row : Row) (old new : List (Arc LeafTest Global × ℕ)) (test : Arc LeafTest Global) → i < length rows → row ≡ get_or rows i row
    → new ≡ old ++ (test, row.mark) ∷ [] → arc_value test ≡ arc_value row.test → entered old ≡ map entry_in (take i rows)
    → entered new ≡ map entry_in (take (i + 1) rows)
entered_more rows i row old new test within at grown shared before =
    ap entered grown ∙ map-append (λ (e : Arc LeafTest Global × ℕ). (test_of (arc_value e.0), e.1)) old ((test, row.mark) ∷ [])
    ∙ ap₂ ◌++◌ before (ap (λ t. (test_of t, row.mark) ∷ []) shared ∙ ap (λ (r : Row). entry_in r ∷ []) at)
    ∙ sym (map_more entry_in rows i row within)
