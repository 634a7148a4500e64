-- What std's binary search finds: `here_found` and `before_found` for `place_of`, `blocks_smaller` and `blocks_greater` for `block_of`.
use Rattle.std.proofs.Common.{◌≡◌, ℕ, zero, suc, ◌<◌, ◌≤◌, ◌-◌, true, false, List, [], ◌∷◌, ◌++◌, length, map, refl, sym, ap, ◌∙◌}
use Rattle.std.proofs.Common.{subst, arith, get_or, drop, take}
use Rattle.std.specs.Prelude.{All}
use Rattle.std.specs.List.{AllWithin, HoldsAt}
use Rattle.std.specs.List.Sorted.{IsNonDecreasingBy, IsPartitionedBy}
use Rattle.std.specs.Cmp.Lexicographic.{slice_cmp}
use Rattle.std.specs.Ordering.{nat_cmp, ordering_index, is_le}
use Rattle.std.specs.declared.cmp.Ordering.TheVariants.{Less, Equal, Greater}
use Rattle.std.proofs.lemmas.Bool.{false≢true}
use Rattle.std.proofs.lemmas.List.Elements.{All-head, All-tail, All-cons, All-nil, All-append}
use Rattle.name_rows.specs.Rows.{AreSorted}
use Rattle.name_rows.specs.Blocks.{IsFull, rows_in, starts_by}
use Rattle.name_rows.specs.Place.{IsHere, IsBefore, IsSmaller, StartsGreater}
use Rattle.name_rows.proofs.NameOrder.{Less_trans, Less_from_Greater, same_name, Greater_from_Less}
use Rattle.name_rows.proofs.RowLemmas.{by_cmp, All_front, All_back, sorted_back}

abbrev Below : {A : Type 0} → (A → List ℕ) → A → A → Type 0
Below f row other = slice_cmp nat_cmp (f row) (f other) ≡ Less

least : (x y name : List ℕ) → slice_cmp nat_cmp x y ≡ Less → ordering_index (slice_cmp nat_cmp x name) ≤ ordering_index (slice_cmp nat_cmp y name)
least x y name less =
    by_cmp (slice_cmp nat_cmp y name)
    (λ e. let first = Less_trans x y name less e in rw (first, e) (omega arith))
    (λ e. let first : slice_cmp nat_cmp x name ≡ Less = subst (λ n. slice_cmp nat_cmp x n ≡ Less) (same_name y name e) less in
    rw (first, e) (omega arith))
    (λ e. by_cmp (slice_cmp nat_cmp x name) (λ o. rw (o, e) (omega arith)) (λ o. rw (o, e) (omega arith)) (λ o. rw (o, e) (omega arith)))

pub non_decreasing : {A : Type 0} (f : A → List ℕ) (name : List ℕ) (rows : List A) → AreSorted f rows
    → IsNonDecreasingBy (λ row. ordering_index (slice_cmp nat_cmp (f row) name)) rows
non_decreasing f name [] o i j d le lt = absurd (omega (arith, lt))
non_decreasing f name (row ∷ rows) o zero zero d le lt = omega arith
non_decreasing f name (row ∷ rows) o zero (suc j) d le lt = least (f row) (f (get_or rows j d)) name (o.0 j d (omega (arith, lt)))
non_decreasing f name (row ∷ rows) o (suc i) zero d le lt = absurd (omega (arith, le))
non_decreasing f name (row ∷ rows) o (suc i) (suc j) d le lt = non_decreasing f name rows o.1 i j d (omega (arith, le)) (omega (arith, lt))

equal_turned : (x y : List ℕ) → slice_cmp nat_cmp x y ≡ Equal → slice_cmp nat_cmp y x ≡ Equal
equal_turned x y e =
    let same = same_name x y e in
    subst (λ n. slice_cmp nat_cmp n x ≡ Equal) same (subst (λ n. slice_cmp nat_cmp x n ≡ Equal) (sym same) e)

pub here_found : {A : Type 0} (f : A → List ℕ) (name : List ℕ) (rows : List A) (at : ℕ) → AreSorted f rows → at < length rows
    → HoldsAt (λ row. slice_cmp nat_cmp (f row) name ≡ Equal) rows at → IsHere f name rows at
here_found f name [] at o within same = absurd (omega (arith, within))
here_found f name (row ∷ rows) zero o within same = record {
  front = [];
  old = row;
  back = rows;
  parts = refl;
  at = refl;
  smaller = All-nil (IsSmaller f name);
  same = equal_turned (f row) name (same row);
}
here_found f name (row ∷ rows) (suc at) o within same =
    let h = here_found f name rows at o.1 (omega (arith, within)) (λ d. same d) in
    let below = All-head (Below f row) h.old h.back (All_back (Below f row) h.front (h.old ∷ h.back) (subst (All (Below f row)) h.parts o.0)) in
    record {
      front = row ∷ h.front;
      old = h.old;
      back = h.back;
      parts = ap (λ rs. row ∷ rs) h.parts;
      at = ap suc h.at;
      smaller = All-cons (IsSmaller f name) row h.front
          (subst (λ n. slice_cmp nat_cmp n (f row) ≡ Greater) (sym (same_name name (f h.old) h.same)) (Greater_from_Less (f row) (f h.old) below)) h.smaller;
      same = h.same;
    }

pub before_found : {A : Type 0} (f : A → List ℕ) (name : List ℕ) (rows : List A) (at : ℕ) → at ≤ length rows
    → AllWithin (λ row. slice_cmp nat_cmp (f row) name ≡ Less) rows 0 at
    → AllWithin (λ row. slice_cmp nat_cmp (f row) name ≡ Greater) rows at (length rows) → IsBefore f name rows at
before_found f name [] zero within less greater = record { front = []; back = []; parts = refl; at = refl; smaller = All-nil (IsSmaller f name); greater = tt }
before_found f name [] (suc at) within less greater = absurd (omega (arith, within))
before_found f name (row ∷ rows) zero within less greater = record {
  front = [];
  back = row ∷ rows;
  parts = refl;
  at = refl;
  smaller = All-nil (IsSmaller f name);
  greater = Less_from_Greater (f row) name (greater 0 row (omega arith) (omega arith));
}
before_found f name (row ∷ rows) (suc at) within less greater =
    let h = before_found f name rows at (omega (arith, within)) (λ k d from to. less (suc k) d (omega arith) (omega (arith, to)))
    (λ k d from to. greater (suc k) d (omega (arith, from)) (omega (arith, to))) in
    record {
      front = row ∷ h.front;
      back = h.back;
      parts = ap (λ rs. row ∷ rs) h.parts;
      at = ap suc h.at;
      smaller = All-cons (IsSmaller f name) row h.front (Greater_from_Less (f row) name (less 0 row (omega arith) (omega arith))) h.smaller;
      greater = h.greater;
    }

-- what holds of all rows holds of the rows of each block
block_in : {A B : Type 0} (P : A → Type 0) (g : B → List A) (blocks : List B) (at : ℕ) (d : B) → at < length blocks → All P (rows_in (map g blocks))
    → All P (g (get_or blocks at d))
block_in P g [] at d within all = absurd (omega (arith, within))
block_in P g (block ∷ blocks) zero d within all = All_front P (g block) (rows_in (map g blocks)) all
block_in P g (block ∷ blocks) (suc at) d within all = block_in P g blocks at d (omega (arith, within)) (All_back P (g block) (rows_in (map g blocks)) all)

full_at : {A B : Type 0} (g : B → List A) (blocks : List B) (at : ℕ) (d : B) → at < length blocks → All IsFull (map g blocks)
    → 0 < length (g (get_or blocks at d))
full_at g [] at d within all = absurd (omega (arith, within))
full_at g (block ∷ blocks) zero d within all = All-head (λ b. 0 < length b) (g block) (map g blocks) all
full_at g (block ∷ blocks) (suc at) d within all = full_at g blocks at d (omega (arith, within)) (All-tail (λ b. 0 < length b) (g block) (map g blocks) all)

-- a row before a block that starts by the name has a smaller name
row_smaller : {A : Type 0} (f : A → List ℕ) (name : List ℕ) (row : A) (block : List A) → 0 < length block → starts_by f name block ≡ true
    → All (Below f row) block → slice_cmp nat_cmp (f row) name ≡ Less
row_smaller f name row [] full starts all = absurd (omega (arith, full))
row_smaller f name row (first ∷ rest) full starts all =
    let below = All-head (Below f row) first rest all in
    by_cmp (slice_cmp nat_cmp (f first) name)
    (λ e. Less_trans (f row) (f first) name below e)
    (λ e. subst (λ n. slice_cmp nat_cmp (f row) n ≡ Less) (same_name (f first) name e) below)
    (λ e. let never : false ≡ true = sym (ap is_le e) ∙ starts in absurd (false≢true never))

first_starts : {A : Type 0} (f : A → List ℕ) (name : List ℕ) (block rest other : List A) → AreSorted f (block ++ rest)
    → All (λ row. All (Below f row) rest → All (Below f row) other) block → 0 < length other → starts_by f name other ≡ true
    → starts_by f name block ≡ true
first_starts f name [] rest other o within full starts = refl
first_starts f name (row ∷ rows) rest other o within full starts =
    let all = All-head (λ r. All (Below f r) rest → All (Below f r) other) row rows within (All_back (Below f row) rows rest o.0) in
    ap is_le (row_smaller f name row other full starts all)

pub partitioned : {A B : Type 0} (f : A → List ℕ) (name : List ℕ) (g : B → List A) (blocks : List B) → All IsFull (map g blocks)
    → AreSorted f (rows_in (map g blocks)) → IsPartitionedBy (λ block. starts_by f name (g block)) blocks
partitioned f name g [] full o i j d le lt starts = absurd (omega (arith, lt))
partitioned f name g (block ∷ blocks) full o zero zero d le lt starts = starts
partitioned f name g (block ∷ blocks) full o zero (suc j) d le lt starts =
    let within : j < length blocks = omega (arith, lt) in
    first_starts f name (g block) (rows_in (map g blocks)) (g (get_or blocks j d)) o
    (λ k r _. block_in (Below f (get_or (g block) k r)) g blocks j d within)
    (full_at g blocks j d within (All-tail (λ b. 0 < length b) (g block) (map g blocks) full)) starts
partitioned f name g (block ∷ blocks) full o (suc i) zero d le lt starts = absurd (omega (arith, le))
partitioned f name g (block ∷ blocks) full o (suc i) (suc j) d le lt starts =
    partitioned f name g blocks (All-tail (λ b. 0 < length b) (g block) (map g blocks) full) (sorted_back f (g block) (rows_in (map g blocks)) o)
    i j d (omega (arith, le)) (omega (arith, lt)) starts

smaller_block : {A : Type 0} (f : A → List ℕ) (name : List ℕ) (block rest other : List A) → AreSorted f (block ++ rest)
    → ((row : A) → All (Below f row) rest → All (Below f row) other) → 0 < length other → starts_by f name other ≡ true
    → All (IsSmaller f name) block
smaller_block f name [] rest other o within full starts = All-nil (IsSmaller f name)
smaller_block f name (row ∷ rows) rest other o within full starts =
    All-cons (IsSmaller f name) row rows
    (Greater_from_Less (f row) name (row_smaller f name row other full starts (within row (All_back (Below f row) rows rest o.0))))
    (smaller_block f name rows rest other o.1 within full starts)

-- the rows before a block that starts by the name have smaller names
pub blocks_smaller : {A B : Type 0} (f : A → List ℕ) (name : List ℕ) (g : B → List A) (blocks : List B) (at : ℕ)
    → All IsFull (map g blocks) → AreSorted f (rows_in (map g blocks)) → at < length blocks
    → HoldsAt (λ block. starts_by f name (g block) ≡ true) blocks at → All (IsSmaller f name) (rows_in (take at (map g blocks)))
blocks_smaller f name g [] at full o within starts = absurd (omega (arith, within))
blocks_smaller f name g (block ∷ blocks) zero full o within starts = All-nil (IsSmaller f name)
blocks_smaller f name g (block ∷ blocks) (suc at) full o within starts =
    let others = All-tail (λ b. 0 < length b) (g block) (map g blocks) full in
    let inside : at < length blocks = omega (arith, within) in
    All-append (IsSmaller f name) (g block) (rows_in (take at (map g blocks)))
    (smaller_block f name (g block) (rows_in (map g blocks)) (g (get_or blocks at block)) o (λ row. block_in (Below f row) g blocks at block inside)
    (full_at g blocks at block inside others) (starts block))
    (blocks_smaller f name g blocks at others (sorted_back f (g block) (rows_in (map g blocks)) o) inside (λ d. starts d))

block_greater : {A : Type 0} (f : A → List ℕ) (name : List ℕ) (block rest : List A) → 0 < length block → starts_by f name block ≡ false
    → StartsGreater f name (block ++ rest)
block_greater f name [] rest full starts = absurd (omega (arith, full))
block_greater f name (row ∷ rows) rest full starts =
    by_cmp (slice_cmp nat_cmp (f row) name)
    (λ e. let never : false ≡ true = sym starts ∙ ap is_le e in absurd (false≢true never))
    (λ e. let never : false ≡ true = sym starts ∙ ap is_le e in absurd (false≢true never))
    (λ e. Less_from_Greater (f row) name e)

-- if no block from an index on starts by the name, the first row there has a greater name
pub blocks_greater : {A B : Type 0} (f : A → List ℕ) (name : List ℕ) (g : B → List A) (blocks : List B) (at : ℕ)
    → All IsFull (map g blocks)
    → AllWithin (λ block. starts_by f name (g block) ≡ false) blocks at (length blocks) → StartsGreater f name (rows_in (drop at (map g blocks)))
blocks_greater f name g [] zero full starts = tt
blocks_greater f name g [] (suc at) full starts = tt
blocks_greater f name g (block ∷ blocks) zero full starts =
    block_greater f name (g block) (rows_in (map g blocks)) (All-head (λ b. 0 < length b) (g block) (map g blocks) full)
    (starts 0 block (omega arith) (omega arith))
blocks_greater f name g (block ∷ blocks) (suc at) full starts =
    blocks_greater f name g blocks at (All-tail (λ b. 0 < length b) (g block) (map g blocks) full)
    (λ k d from to. starts (suc k) d (omega (arith, from)) (omega (arith, to)))

-- the same at the index before the first block that does not
pub blocks_smaller_at : {A B : Type 0} (f : A → List ℕ) (name : List ℕ) (g : B → List A) (blocks : List B) (at count : ℕ)
    → All IsFull (map g blocks) → AreSorted f (rows_in (map g blocks)) → count ≤ length blocks → at ≡ count - 1
    → AllWithin (λ block. starts_by f name (g block) ≡ true) blocks 0 count → All (IsSmaller f name) (rows_in (take at (map g blocks)))
blocks_smaller_at f name g blocks zero count full o bound is starts = All-nil (IsSmaller f name)
blocks_smaller_at f name g blocks (suc at) count full o bound is starts =
    blocks_smaller f name g blocks (suc at) full o (omega (arith, bound, is)) (λ d. starts (suc at) d (omega arith) (omega (arith, is)))
