-- The tree over n ranges: node 1 is its root, node i has the children 2i and 2i + 1, and node n + k
-- is the leaf of the range at k. No public clause names these.
use Rattle.std.specs.Prelude.{◌≡◌, ℕ, ◌+◌, ◌-◌, ◌*◌, ◌<◌, ◌≤◌, ◌⊎◌, ◌↔◌, ℤ, pos, ◌≤ℤ◌, Bool, false, IsTrue, cond, nat_lt, List, length, slice_index_or}
use Rattle.numeric_keys.specs.Ranges.{Hits}
use Rattle.numeric_keys.specs.declared.ranges.Span.{Span}

-- the range and the span that are read past the end of their lists
abbrev pub no_range : ℤ × ℤ × ℕ
no_range = (pos 0, pos 0, 0)

abbrev pub no_span : Span
no_span = record { least = pos 0; greatest = pos 0 }

-- a range alone, without its mark
abbrev pub span_of : ℤ × ℤ × ℕ → Span
span_of range = record { least = range.0; greatest = range.1 }

-- the span of a node, which for a leaf is that of its range
abbrev pub node_span : List (ℤ × ℤ × ℕ) → List Span → ℕ → Span
node_span ranges spans node =
    cond (nat_lt node (length ranges)) (slice_index_or spans node no_span)
    (span_of (slice_index_or ranges (node - length ranges) no_range))

-- what is within the inner span is within the outer one
pub record Encloses (outer inner : Span) : Type 0 where
  pub low : outer.least ≤ℤ inner.least
  pub high : inner.greatest ≤ℤ outer.greatest

-- from this node on, each inner node's span encloses those of its children
abbrev pub EnclosesFrom : List (ℤ × ℤ × ℕ) → List Span → ℕ → Type 0
EnclosesFrom ranges spans first = (node : ℕ) → first ≤ node → node < length ranges →
    Encloses (node_span ranges spans node) (node_span ranges spans (2 * node))
    × Encloses (node_span ranges spans node) (node_span ranges spans (2 * node + 1))

-- a span for each node that has children, and each encloses those of its children
pub record IsTree (ranges : List (ℤ × ℤ × ℕ)) (spans : List Span) : Type 0 where
  pub nodes : length spans ≡ length ranges
  pub enclosed : EnclosesFrom ranges spans 1

-- the second node is the first or below it
pub data IsUnder : ℕ → ℕ → Type 0 where
  here : {node : ℕ} → IsUnder node node
  left : {node below : ℕ} → IsUnder (2 * node) below → IsUnder node below
  right : {node below : ℕ} → IsUnder (2 * node + 1) below → IsUnder node below

-- a leaf under this node has a range with this mark that holds the value
pub record HitUnder (ranges : List (ℤ × ℤ × ℕ)) (node : ℕ) (value : ℤ) (mark : ℕ) : Type 0 where
  pub place : ℕ
  pub within : place < length ranges
  pub under : IsUnder node (length ranges + place)
  pub hit : Hits value mark (slice_index_or ranges place no_range)

-- a place is marked afterwards exactly if it was marked before, or a leaf under the node marks it
pub record AddsUnder (ranges : List (ℤ × ℤ × ℕ)) (node : ℕ) (value : ℤ)
    (old new : List Bool) : Type 0 where
  pub same_places : length new ≡ length old
  pub marked : (place : ℕ) → IsTrue (slice_index_or new place false)
      ↔ (IsTrue (slice_index_or old place false) ⊎ HitUnder ranges node value place)
