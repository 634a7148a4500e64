-- Lists of rows, each with a name, in the byte order of the names: one more, one less, the row of a name, and the rows from a name on.
use Rattle.std.specs.Prelude.{◌≡◌, ℕ, if◌then◌else◌, List, [], ◌∷◌, Option, Some, None, All}
use Rattle.std.specs.declared.cmp.Ordering.{Ordering}
use Rattle.std.specs.declared.cmp.Ordering.TheVariants.{Less, Equal, Greater}
use Rattle.std.specs.Cmp.Lexicographic.{slice_cmp}
use Rattle.std.specs.Ordering.{nat_cmp}
use Rattle.std.specs.Str.{bytes_eq}

-- one of three, by the order of two names
abbrev pub by_order : {A : Type 0} → Ordering → A → A → A → A
by_order Less less equal greater = less
by_order Equal less equal greater = equal
by_order Greater less equal greater = greater

-- The rows, in the byte order of their names, with the new row in its place. If a row has the same name, `joined` of the old row and the
-- new one replaces it. `b` among `a`, `c` gives `a`, `b`, `c`.
-- Shown by: text_tests test_name_rows.rt: a_row_of_the_same_name_is_replaced.
abbrev pub placed : {A : Type 0} → (A → List ℕ) → (A → A → A) → A → List A → List A
placed name_of joined new [] = new ∷ []
placed name_of joined new (old ∷ rest) = by_order (slice_cmp nat_cmp (name_of new) (name_of old))
    (new ∷ old ∷ rest)
    (joined old new ∷ rest)
    (old ∷ placed name_of joined new rest)

-- Of an old row and a new one of the same name, the new one.
-- Shown by: the_replaced_row_stays.edit.
abbrev pub replacing : {A : Type 0} → A → A → A
replacing old new = new

-- The first row of a name, compared byte by byte.
-- Shown by: text_tests test_name_rows.rt: a_thousand_rows_in_a_bad_order.
abbrev pub named : {A : Type 0} → (A → List ℕ) → List ℕ → List A → Option A
named name_of name [] = None
named name_of name (row ∷ rows) = if bytes_eq (name_of row) name then Some row else named name_of name rows

-- The rows that do not have the name.
-- Shown by: text_tests test_name_rows.rt: removed_rows_are_gone_and_the_others_stay.
abbrev pub without : {A : Type 0} → (A → List ℕ) → List ℕ → List A → List A
without name_of name [] = []
without name_of name (row ∷ rows) = if bytes_eq (name_of row) name then without name_of name rows else row ∷ without name_of name rows

-- The rows from the first one whose name is not smaller. From `b` on, `a`, `c` is `c`.
-- Shown by: text_tests test_name_rows.rt: rows_from_a_name_on.
abbrev pub from_name : {A : Type 0} → (A → List ℕ) → List ℕ → List A → List A
from_name name_of name [] = []
from_name name_of name (row ∷ rows) = by_order (slice_cmp nat_cmp name (name_of row)) (row ∷ rows) (row ∷ rows) (from_name name_of name rows)

-- Each name is smaller, byte by byte, than all names after it.
-- Shown by: text_tests test_name_rows.rt: a_thousand_rows_in_a_bad_order.
abbrev pub AreSorted : {A : Type 0} → (A → List ℕ) → List A → Type 0
AreSorted name_of [] = Unit {0}
AreSorted name_of (row ∷ rows) = All (λ other. slice_cmp nat_cmp (name_of row) (name_of other) ≡ Less) rows × AreSorted name_of rows
