-- For private clauses alone: what one part of `hits` adds.
use Rattle.std.specs.Prelude.{◌≡◌, ◌≤◌, ◌<◌, ◌⊎◌, ℕ, Bool, false, IsTrue, List, length, take, slice_index_or}
use Rattle.std.specs.List.{All, Any}
use Rattle.json_text.specs.Tree.{Tree, null, truth, number, text, list, object}
use Rattle.leaf_match.specs.Cidr as address
use Rattle.leaf_match.specs.declared.address.Family.{Family}
use Rattle.pattern_meaning.specs.Holds.{IsMet}
use Rattle.pattern_meaning.specs.Pattern.{numeric}
use Rattle.pattern_meaning.specs.declared.comparison.Comparison.{Comparison}
use Rattle.value_index.specs.declared.lengths.Lengths.{Lengths}
use Rattle.value_index.specs.declared.row.Row.{Row}
use Rattle.value_index.specs.declared.signature.Side.{Side}
use Rattle.value_index.specs.declared.signature.Side.TheVariants.{Front, Back}
use Rattle.value_index.specs.Hits.{Finds}
use Rattle.value_index.specs.Lengths.{Has, lengths_for}
use Rattle.value_index.specs.Rows.{test_in, entry_in}
use Rattle.value_index.specs.Signature.{signature, read_from, seed_of, network, whole}

-- No mark goes away, a mark comes only from a row that is met, and of the rows that are looked up each that is met is marked.
pub record Adds (looked : Row → Type 0) (rows : List Row) (leaf : Tree) (old new : List Bool) : Type 0 where
  pub same_places : length new ≡ length old
  pub kept : (place : ℕ) → IsTrue (slice_index_or old place false) → IsTrue (slice_index_or new place false)
  pub only : (place : ℕ) → IsTrue (slice_index_or new place false)
      → IsTrue (slice_index_or old place false) ⊎ Any (λ row. Finds leaf place (entry_in row)) rows
  pub found : All (λ row. looked row → IsMet (test_in row) leaf → IsTrue (slice_index_or new row.mark false)) rows

-- a row is found by the first bytes, or the last, of the text: at a length that is listed
abbrev pub HasEnd : List Bool → Side → List ℕ → Row → Type 0
HasEnd listed side t row =
    (n : ℕ) × (n ≤ length t) × Has listed n × (row.signature ≡ signature (seed_of side) (take n (read_from side t)))

-- the same, at a length below a number
abbrev pub HasEndBelow : ℕ → List Bool → Side → List ℕ → Row → Type 0
HasEndBelow i listed side t row =
    (n : ℕ) × (n < i) × Has listed n × (row.signature ≡ signature (seed_of side) (take n (read_from side t)))

-- a row is found by the first bits of an address, at a number of bits below a number that is listed
abbrev pub HasBitsBelow : ℕ → List Bool → Family → ℕ → Row → Type 0
HasBitsBelow i listed family bits row =
    (n : ℕ) × (n < i) × Has listed n × (row.signature ≡ network family n (address.leading_bits family n bits))

-- a row is found by a prefix of addresses that holds the text, at a number of bits that is listed
abbrev pub HasNetwork : Lengths → List ℕ → Row → Type 0
HasNetwork lengths t row =
    (p : address.Prefix) × address.Holds p t × Has (lengths_for p.family lengths) p.length
    × (row.signature ≡ network p.family p.length p.first_bits)

-- a row is found by the whole text, at a length that is listed
abbrev pub HasWhole : List Bool → List ℕ → Row → Type 0
HasWhole listed t row = Has listed (length t) × (row.signature ≡ signature 6 t)

-- a row is found by a text
abbrev pub HasText : Lengths → List ℕ → Row → Type 0
HasText lengths t row =
    HasWhole lengths.wholes.items t row ⊎ HasEnd lengths.fronts.items Front t row ⊎ HasEnd lengths.backs.items Back t row
    ⊎ HasNetwork lengths t row

-- a row of a `numeric`
abbrev pub IsNumeric : Row → Type 0
IsNumeric row = (cs : List Comparison) × (test_in row ≡ numeric cs)

-- a row is found by a signature of every leaf, or by that of the whole leaf
abbrev pub IsPlainlyReached : Tree → Row → Type 0
IsPlainlyReached leaf row = (row.signature ≡ 0) ⊎ (row.signature ≡ whole leaf)

-- a row is found by the leaf
abbrev pub IsReached : Lengths → Tree → Row → Type 0
IsReached lengths null row = IsPlainlyReached null row
IsReached lengths (truth b) row = IsPlainlyReached (truth b) row
IsReached lengths (number spelling) row = IsPlainlyReached (number spelling) row ⊎ IsNumeric row
IsReached lengths (text t) row = (row.signature ≡ 0) ⊎ HasText lengths t row
IsReached lengths (list items) row = IsPlainlyReached (list items) row
IsReached lengths (object inside) row = IsPlainlyReached (object inside) row
