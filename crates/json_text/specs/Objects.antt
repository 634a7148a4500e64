-- For private clauses alone: the members of an object while it is read.
use Rattle.std.specs.Prelude.{◌≡◌, ◌≢◌, ℕ, zero, suc, ◌+◌, ◌*◌, ◌%◌, Bool, true, false, List, [], ◌∷◌, ◌++◌, Option, Some, None, String, length, if◌then◌else◌}
use Rattle.std.specs.Global.{Global}
use Rattle.std.specs.Int.{bit_at}
use Rattle.std.specs.Str.{bytes_eq}
use Rattle.std.specs.BTreeMap.{BTreeMap, btree_map_len, get_by_text}
use Rattle.json_text.specs.Tree.{Tree, null}

-- the place of the member with the key, counted from a number on, if there is one
abbrev pub slot_from : {V : Type 0} → ℕ → List ℕ → List (List ℕ × V) → Option ℕ
slot_from at key [] = None
slot_from at key (m ∷ ms) = if bytes_eq key m.0 then Some at else slot_from (at + 1) key ms

-- one of 128 numbers for each key
abbrev pub hash_from : ℕ → List ℕ → ℕ
hash_from hash [] = hash
hash_from hash (b ∷ bs) = hash_from ((hash * 29 + b) % 128) bs

abbrev pub hash_of : List ℕ → ℕ
hash_of key = hash_from 0 key

-- a key whose hash has no bit is no member's
abbrev pub HasHashes : {V : Type 0} → ℕ → List (List ℕ × V) → Type 0
HasHashes hashes ms = (key : List ℕ) → bit_at hashes (hash_of key) ≡ 0 → slot_from 0 key ms ≡ None

-- the map, if it is not empty, has each key's index
abbrev pub IsIndex : {V : Type 0} → BTreeMap (String Global) ℕ → List (List ℕ × V) → Type 0
IsIndex slots ms = btree_map_len slots ≢ 0 → (key : List ℕ) → get_by_text slots key ≡ slot_from 0 key ms

-- the member at the place has the key: it was there, or was put at the end with no value yet
abbrev pub Reserves : List (List ℕ × Tree) → List (List ℕ × Tree) → List ℕ → ℕ → Bool → Type 0
Reserves old new key slot true = (new ≡ old) × (slot_from 0 key old ≡ Some slot)
Reserves old new key slot false = (new ≡ old ++ (key, null) ∷ []) × (slot_from 0 key old ≡ None) × (slot ≡ length old)

-- the member at the place has the value
abbrev pub with_value : ℕ → Tree → List (List ℕ × Tree) → List (List ℕ × Tree)
with_value slot tree [] = []
with_value zero tree (m ∷ ms) = (m.0, tree) ∷ ms
with_value (suc slot) tree (m ∷ ms) = m ∷ with_value slot tree ms
