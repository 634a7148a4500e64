-- For private clauses alone: the entries of a subtree, and its height.
use Rattle.std.specs.Prelude.{◌≡◌, ◌+◌, ◌-◌, ◌^◌, max, min, ℕ, List, [], ◌∷◌, ◌++◌}
use Rattle.key_tree.specs.declared.subtree.Subtree.{Subtree, Empty, Full'}
use Rattle.key_tree.specs.declared.subtree.Fork.{Fork}

-- the entries, in the order of their keys
abbrev pub entries : {V : Type 0} → Subtree V → List (ℕ × V)
entries Empty = []
entries (Full' p key value height lower upper) = entries lower ++ (key, value) ∷ entries upper

-- the entry of the fork itself
abbrev pub entry_of : {V : Type 0} → Fork V → ℕ × V
entry_of fork = (fork.key, fork.value)

-- all entries of a fork
abbrev pub entries_in : {V : Type 0} → Fork V → List (ℕ × V)
entries_in fork = entries fork.lower ++ entry_of fork ∷ entries fork.upper

-- the height that the fork stores
abbrev pub height_of : {V : Type 0} → Subtree V → ℕ
height_of Empty = 0
height_of (Full' p key value height lower upper) = height

-- the height of a fork over two sides, at most the greatest `u64`
abbrev pub height_over : {V : Type 0} → Subtree V → Subtree V → ℕ
height_over lower upper = min (max (height_of lower) (height_of upper) + 1) (2 ^ 64 - 1)

-- the fork has no other entry
abbrev pub IsLeaf : {V : Type 0} → Fork V → Type 0
IsLeaf fork = (fork.lower ≡ Empty) × (fork.upper ≡ Empty) × (fork.height ≡ 1)

-- the list begins with the entry
abbrev pub HasFirst : {V : Type 0} → ℕ × V → List (ℕ × V) → Type 0
HasFirst {V} entry list = (rest : List (ℕ × V)) × (list ≡ entry ∷ rest)

-- no entry is before the one of the fork
abbrev pub HasNoLower : {V : Type 0} → Subtree V → Type 0
HasNoLower Empty = Unit {0}
HasNoLower (Full' p key value height lower upper) = entries lower ≡ []

-- the side with the greater keys
abbrev pub upper_of : {V : Type 0} → Subtree V → Subtree V
upper_of Empty = Empty
upper_of (Full' p key value height lower upper) = upper

-- the entry is that of the fork, and the other entries are left
abbrev pub TakesTop : {V : Type 0} → Subtree V → ℕ × V → List (ℕ × V) → Type 0
TakesTop Empty entry left = ⊥
TakesTop (Full' p key value height lower upper) entry left = (entry ≡ (key, value)) × (left ≡ entries lower ++ entries upper)

-- the subtree is a fork with this entry, this height and these sides
abbrev pub IsFork : {V : Type 0} → Subtree V → ℕ × V → ℕ → Subtree V → Subtree V → Type 0
IsFork Empty entry n below above = ⊥
IsFork (Full' p key value height lower upper) entry n below above = ((key, value) ≡ entry) × (height ≡ n) × (lower ≡ below) × (upper ≡ above)

-- The fork of the lower side, the first argument, is at the top of the new fork. The old fork is on its upper side.
abbrev pub LiftsLower : {V : Type 0} → Subtree V → Fork V → Fork V → Type 0
LiftsLower Empty old new = Unit {0}
LiftsLower (Full' p key value height lower upper) old new = (entry_of new ≡ (key, value)) × (new.lower ≡ lower)
    × IsFork new.upper (entry_of old) (height_over upper old.upper) upper old.upper × (new.height ≡ height_over new.lower new.upper)

-- The fork of the upper side, the first argument, is at the top of the new fork. The old fork is on its lower side.
abbrev pub LiftsUpper : {V : Type 0} → Subtree V → Fork V → Fork V → Type 0
LiftsUpper Empty old new = Unit {0}
LiftsUpper (Full' p key value height lower upper) old new = (entry_of new ≡ (key, value)) × (new.upper ≡ upper)
    × IsFork new.lower (entry_of old) (height_over old.lower lower) old.lower lower × (new.height ≡ height_over new.lower new.upper)
