-- Paths: lists of keys, and their order.
use Rattle.std.specs.Prelude.{◌≡◌, ℕ, List}
use Rattle.std.specs.List.{AllPairs}
use Rattle.std.specs.Cmp.Lexicographic.{slice_cmp}
use Rattle.std.specs.Ordering.{nat_cmp}
use Rattle.std.specs.declared.cmp.Ordering.{Ordering}
use Rattle.std.specs.declared.cmp.Ordering.TheVariants.{Less}

-- The order of paths: the first keys that differ decide, by their bytes. A path comes before each longer one that begins with it.
-- Shown by: event_tests test_event_flatten.rt: paths_are_sorted.
abbrev pub path_cmp : List (List ℕ) → List (List ℕ) → Ordering
path_cmp = slice_cmp (slice_cmp nat_cmp)

-- Each path comes before all later ones, so no path is there twice.
-- Shown by: event_tests test_event_flatten.rt: paths_are_sorted.
abbrev pub AreAscending : List (List (List ℕ)) → Type 0
AreAscending paths = AllPairs (λ path later. path_cmp path later ≡ Less) paths
