-- Lists of entries, each a key and a value, in the order of their keys.
use Rattle.std.specs.Prelude.{◌<◌, ℕ, if◌then◌else◌, nat_lt, ◌==◌, List, [], ◌∷◌, Option, Some, None}

-- The entries with a new one before the first entry that has a greater key. 5 among 3, 7 gives 3, 5, 7.
-- Shown by: text_tests test_key_tree.rt: a_few_values.
abbrev pub placed : {V : Type 0} → ℕ × V → List (ℕ × V) → List (ℕ × V)
placed new [] = new ∷ []
placed new (entry ∷ rest) = if nat_lt new.0 entry.0 then new ∷ entry ∷ rest else entry ∷ placed new rest

-- The value of the first entry with the key; none if there is no such entry.
-- Shown by: text_tests test_key_tree.rt: a_few_values.
abbrev pub value_at : {V : Type 0} → ℕ → List (ℕ × V) → Option V
value_at key [] = None
value_at key (entry ∷ rest) = if entry.0 == key then Some entry.1 else value_at key rest

-- The entries that do not have the key.
-- Shown by: text_tests test_key_tree.rt: ten_thousand_values_in_four_orders.
abbrev pub without : {V : Type 0} → ℕ → List (ℕ × V) → List (ℕ × V)
without key [] = []
without key (entry ∷ rest) = if entry.0 == key then without key rest else entry ∷ without key rest

-- The entries from the first one whose key is not smaller. From 4 on, 3, 5, 7 is 5, 7.
-- Shown by: text_tests test_key_tree.rt: a_few_values.
abbrev pub from_key : {V : Type 0} → ℕ → List (ℕ × V) → List (ℕ × V)
from_key key [] = []
from_key key (entry ∷ rest) = if nat_lt entry.0 key then from_key key rest else entry ∷ rest

-- P is true of each key
abbrev pub AllKeys : {V : Type 0} → (ℕ → Type 0) → List (ℕ × V) → Type 0
AllKeys P [] = Unit {0}
AllKeys P (entry ∷ rest) = P entry.0 × AllKeys P rest

-- Each key is smaller than all keys after it.
-- Shown by: text_tests test_key_tree.rt: ten_thousand_values_in_four_orders.
abbrev pub AreSorted : {V : Type 0} → List (ℕ × V) → Type 0
AreSorted [] = Unit {0}
AreSorted (entry ∷ rest) = AllKeys (λ key. entry.0 < key) rest × AreSorted rest
