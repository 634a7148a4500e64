-- For private clauses alone: the balance of a subtree.
use Rattle.std.specs.Prelude.{◌≡◌, ℕ, ◌+◌, ◌^◌, ◌<◌, ◌≤◌, max, length}
use Rattle.key_tree.specs.Subtree.{entries, height_of}
use Rattle.key_tree.specs.declared.subtree.Subtree.{Subtree, Empty, Full'}
use Rattle.key_tree.specs.declared.subtree.Fork.{Fork}

-- neither number is more than this above the other
abbrev pub DifferByAtMost : ℕ → ℕ → ℕ → Type 0
DifferByAtMost by below above = (below ≤ above + by) × (above ≤ below + by)

-- every stored height is right, and the heights of two sides differ by at most one
abbrev pub IsAvl : {V : Type 0} → Subtree V → Type 0
IsAvl Empty = Unit {0}
IsAvl (Full' p key value height lower upper) = (height ≡ max (height_of lower) (height_of upper) + 1)
    × DifferByAtMost 1 (height_of lower) (height_of upper) × IsAvl lower × IsAvl upper

-- the same of a fork
abbrev pub IsAvlFork : {V : Type 0} → Fork V → Type 0
IsAvlFork fork = (fork.height ≡ max (height_of fork.lower) (height_of fork.upper) + 1)
    × DifferByAtMost 1 (height_of fork.lower) (height_of fork.upper) × IsAvl fork.lower × IsAvl fork.upper

-- what has to be known of two sides, of which a lower one of height n is to be lifted: `far` is the side that keeps its place
abbrev pub AreReady : {V : Type 0} → ℕ → Subtree V → Subtree V → Type 0
AreReady n far near = IsAvl far × IsAvl near × (height_of far + 1 ≡ n) × (height_of near + 1 ≤ n) × (n ≤ height_of near + 3)

abbrev pub IsLowerReady : {V : Type 0} → ℕ → Subtree V → Type 0
IsLowerReady n Empty = ⊥
IsLowerReady n (Full' p key value height lower upper) = AreReady n lower upper

abbrev pub IsUpperReady : {V : Type 0} → ℕ → Subtree V → Type 0
IsUpperReady n Empty = ⊥
IsUpperReady n (Full' p key value height lower upper) = AreReady n upper lower

-- what a fork over sides of these two heights becomes
abbrev pub BalancesTo : {V : Type 0} → ℕ → ℕ → Fork V → Type 0
BalancesTo below above new = IsAvlFork new × (max below above ≤ new.height) × (new.height ≤ max below above + 1)
    × (below ≤ above + 1 → above ≤ below + 1 → new.height ≡ max below above + 1)

-- the tree has this height or one level more
abbrev pub Grows : {V : Type 0} → ℕ → Subtree V → Type 0
Grows n new = IsAvl new × (n ≤ height_of new) × (height_of new ≤ n + 1)

-- the tree has this height or one level less
abbrev pub Shrinks : {V : Type 0} → ℕ → Subtree V → Type 0
Shrinks n new = IsAvl new × (height_of new ≤ n) × (n ≤ height_of new + 1)

-- The tree is balanced, if this number of insertions, which stops at the greatest `u64`, has not come near its end.
abbrev pub IsBalanced : {V : Type 0} → ℕ → Subtree V → Type 0
IsBalanced insertions tree = insertions < 2 ^ 63 → IsAvl tree × (length (entries tree) ≤ insertions)
