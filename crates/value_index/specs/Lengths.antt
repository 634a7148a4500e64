-- For private clauses alone: which lengths an index lists.
use Rattle.std.specs.Prelude.{◌≡◌, ℕ, Bool, true, false, IsTrue, List, length, slice_index_or}
use Rattle.leaf_match.specs.declared.address.Family.{Family}
use Rattle.leaf_match.specs.declared.address.Family.TheVariants.{V4, V6}
use Rattle.value_index.specs.declared.signature.Side.{Side}
use Rattle.value_index.specs.declared.signature.Side.TheVariants.{Front, Back}
use Rattle.value_index.specs.declared.lengths.Length.{Length}
use Rattle.value_index.specs.declared.lengths.Length.TheVariants.{Any, Whole, End, Network}
use Rattle.value_index.specs.declared.lengths.Lengths.{Lengths}

-- the number is listed
abbrev pub has : List Bool → ℕ → Bool
has list number = slice_index_or list number false

abbrev pub Has : List Bool → ℕ → Type 0
Has list number = IsTrue (has list number)

abbrev pub lengths_from : Side → Lengths → List Bool
lengths_from Front lengths = lengths.fronts.items
lengths_from Back lengths = lengths.backs.items

abbrev pub lengths_for : Family → Lengths → List Bool
lengths_for V4 lengths = lengths.v4.items
lengths_for V6 lengths = lengths.v6.items

-- no number of bits is listed
abbrev pub HasNone : Lengths → Type 0
HasNone lengths = (family : Family) → length (lengths_for family lengths) ≡ 0

-- the length is listed, if it is one
abbrev pub is_listed : Lengths → Length → Bool
is_listed lengths Any = true
is_listed lengths (Whole number) = has lengths.wholes.items number
is_listed lengths (End side number) = has (lengths_from side lengths) number
is_listed lengths (Network family number) = has (lengths_for family lengths) number

abbrev pub IsListed : Lengths → Length → Type 0
IsListed lengths length = IsTrue (is_listed lengths length)

-- what was listed still is
abbrev pub Grown : Lengths → Lengths → Type 0
Grown old new = (length : Length) → IsListed old length → IsListed new length
