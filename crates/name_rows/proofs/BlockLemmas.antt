-- Blocks at an index: what `named`, `placed` and `without` of all rows say of one block (`named_block`, `placed_block`,
-- `without_block`), and the rows of blocks of which some are replaced (`spliced_rows`, `joined_rows`).
use Rattle.std.proofs.Common.{◌≡◌, ℕ, zero, suc, ◌<◌, ◌≤◌, ◌+◌, ◌-◌, List, [], ◌∷◌, ◌++◌, length, map, refl, sym, ap, ◌∙◌}
use Rattle.std.proofs.Common.{subst, arith}
use Rattle.std.proofs.Common.{get_or, drop, take}
use Rattle.std.specs.Prelude.{All}
use Rattle.std.proofs.lemmas.List.{map-append, length-map, length-append, length-drop, take-map, drop-map, take_at, take_all, take-take}
use Rattle.std.proofs.lemmas.List.{drop-take, drop-drop, drop_at, take-append-drop, append_assoc, append-nil, take_more}
use Rattle.std.proofs.Math.Seq.{get_or-append_seam}
use Rattle.std.proofs.lemmas.List.Elements.{All-head, All-tail, All-append, All-take, All-drop}
use Rattle.name_rows.specs.Rows.{named, placed, replacing, without, from_name, AreSorted}
use Rattle.name_rows.specs.Blocks.{Cuts, IsFull, rows_in}
use Rattle.name_rows.specs.Place.{IsHere, IsBefore, IsSmaller, StartsGreater}
use Rattle.name_rows.proofs.RowLemmas.{named_within, placed_within, without_within, placed_here, placed_before, without_here}
use Rattle.name_rows.proofs.RowLemmas.{without_before, sorted_front, sorted_back}

rows_in-append : {A : Type 0} (xs ys : List (List A)) → rows_in (xs ++ ys) ≡ rows_in xs ++ rows_in ys
rows_in-append [] ys = refl
rows_in-append (x ∷ xs) ys = ap (λ rs. x ++ rs) (rows_in-append xs ys) ∙ sym (append_assoc x (rows_in xs) (rows_in ys))

cut_at : {A : Type 0} (blocks : List (List A)) (at : ℕ)
    → rows_in blocks ≡ rows_in (take at blocks) ++ (get_or blocks at [] ++ rows_in (drop (suc at) blocks))
cut_at [] zero = refl
cut_at [] (suc at) = refl
cut_at (block ∷ blocks) zero = refl
cut_at (block ∷ blocks) (suc at) =
    ap (λ rs. block ++ rs) (cut_at blocks at)
    ∙ sym (append_assoc block (rows_in (take at blocks)) (get_or blocks at [] ++ rows_in (drop (suc at) blocks)))

rows_cut : {A : Type 0} (blocks : List (List A)) (at : ℕ)
    → rows_in blocks ≡ rows_in (take at blocks) ++ (get_or blocks at [] ++ rows_in (drop (at + 1) blocks))
rows_cut blocks at =
    let same : suc at ≡ at + 1 = omega arith in
    cut_at blocks at ∙ ap (λ n. rows_in (take at blocks) ++ (get_or blocks at [] ++ rows_in (drop n blocks))) same

pub block_sorted : {A : Type 0} (f : A → List ℕ) (blocks : List (List A)) (at : ℕ) → AreSorted f (rows_in blocks) → AreSorted f (get_or blocks at [])
block_sorted f blocks at o =
    let parts = subst (AreSorted f) (rows_cut blocks at) o in
    sorted_front f (get_or blocks at []) (rows_in (drop (at + 1) blocks))
    (sorted_back f (rows_in (take at blocks)) (get_or blocks at [] ++ rows_in (drop (at + 1) blocks)) parts)

pub named_block : {A : Type 0} (f : A → List ℕ) (name : List ℕ) (blocks : List (List A)) (at : ℕ) → AreSorted f (rows_in blocks)
    → All (IsSmaller f name) (rows_in (take at blocks)) → StartsGreater f name (rows_in (drop (at + 1) blocks))
    → named f name (rows_in blocks) ≡ named f name (get_or blocks at [])
named_block f name blocks at o smaller greater =
    ap (named f name) (rows_cut blocks at)
    ∙ named_within f name (rows_in (take at blocks)) (get_or blocks at []) (rows_in (drop (at + 1) blocks))
    (subst (AreSorted f) (rows_cut blocks at) o) smaller greater

pub placed_block : {A : Type 0} (f : A → List ℕ) (new : A) (blocks : List (List A)) (at : ℕ)
    → All (IsSmaller f (f new)) (rows_in (take at blocks)) → StartsGreater f (f new) (rows_in (drop (at + 1) blocks))
    → placed f replacing new (rows_in blocks)
    ≡ rows_in (take at blocks) ++ (placed f replacing new (get_or blocks at []) ++ rows_in (drop (at + 1) blocks))
placed_block f new blocks at smaller greater =
    ap (placed f replacing new) (rows_cut blocks at)
    ∙ placed_within f replacing new (rows_in (take at blocks)) (get_or blocks at []) (rows_in (drop (at + 1) blocks)) smaller greater

pub without_block : {A : Type 0} (f : A → List ℕ) (name : List ℕ) (blocks : List (List A)) (at : ℕ) → AreSorted f (rows_in blocks)
    → All (IsSmaller f name) (rows_in (take at blocks)) → StartsGreater f name (rows_in (drop (at + 1) blocks))
    → without f name (rows_in blocks) ≡ rows_in (take at blocks) ++ (without f name (get_or blocks at []) ++ rows_in (drop (at + 1) blocks))
without_block f name blocks at o smaller greater =
    ap (without f name) (rows_cut blocks at)
    ∙ without_within f name (rows_in (take at blocks)) (get_or blocks at []) (rows_in (drop (at + 1) blocks))
    (subst (AreSorted f) (rows_cut blocks at) o) smaller greater

-- the rest of a list, as a slice of it is seen
rest_is : {A : Type 0} (rows : List A) (at : ℕ) → take (length rows - at) (drop at rows) ≡ drop at rows
rest_is rows at =
    let long = length-drop at rows in
    take_all (length rows - at) (drop at rows) (omega (arith, long))

pub rest_mapped : {A B : Type 0} (g : A → B) (rows : List A) (at : ℕ) → map g (take (length rows - at) (drop at rows)) ≡ drop at (map g rows)
rest_mapped g rows at = ap (map g) (rest_is rows at) ∙ sym (drop-map g at rows)

drop_after : {A : Type 0} (front : List A) (old : A) (back : List A) → drop (suc (length front)) (front ++ old ∷ back) ≡ back
drop_after [] old back = refl
drop_after (row ∷ front) old back = drop_after front old back

drop_seam : {A : Type 0} (front back : List A) → drop (length front) (front ++ back) ≡ back
drop_seam [] back = refl
drop_seam (row ∷ front) back = drop_seam front back

here_front : {A : Type 0} (f : A → List ℕ) (name : List ℕ) (rows : List A) (at : ℕ) → (h : IsHere f name rows at) → h.front ≡ take at rows
here_front f name rows at h = sym (ap (take at) h.parts ∙ take_at h.front (h.old ∷ h.back) at h.at)

here_back : {A : Type 0} (f : A → List ℕ) (name : List ℕ) (rows : List A) (at : ℕ) → (h : IsHere f name rows at) → h.back ≡ drop (at + 1) rows
here_back f name rows at h =
    let same : at + 1 ≡ suc at = omega arith in
    sym (ap (drop (at + 1)) h.parts ∙ ap (λ n. drop n (h.front ++ h.old ∷ h.back)) (same ∙ ap suc (sym h.at)) ∙ drop_after h.front h.old h.back)

before_front : {A : Type 0} (f : A → List ℕ) (name : List ℕ) (rows : List A) (at : ℕ) → (h : IsBefore f name rows at) → h.front ≡ take at rows
before_front f name rows at h = sym (ap (take at) h.parts ∙ take_at h.front h.back at h.at)

before_back : {A : Type 0} (f : A → List ℕ) (name : List ℕ) (rows : List A) (at : ℕ) → (h : IsBefore f name rows at) → h.back ≡ drop at rows
before_back f name rows at h =
    sym (ap (drop at) h.parts ∙ ap (λ n. drop n (h.front ++ h.back)) (sym h.at) ∙ drop_seam h.front h.back)

pub here_within : {A B : Type 0} (g : A → B) (f : B → List ℕ) (name : List ℕ) (rows : List A) (at : ℕ)
    → IsHere f name (map g rows) at → at < length rows
here_within g f name rows at h =
    let long = ap length h.parts in
    let parts = length-append h.front (h.old ∷ h.back) in
    let same = length-map rows g in
    let place = h.at in
    omega (arith, long, parts, same, place)

-- the two parts of the rows, as slices of them are seen
abbrev pub Front : {A B : Type 0} → (A → B) → List A → ℕ → List B
Front g rows at = map g (take at rows)

abbrev pub Back : {A B : Type 0} → (A → B) → List A → ℕ → List B
Back g rows at = map g (take (length rows - at) (drop at rows))

pub with_here : {A B : Type 0} (g : A → B) (f : B → List ℕ) (name : List ℕ) (rows : List A) (at : ℕ) (row : B) → f row ≡ name
    → IsHere f name (map g rows) at → placed f replacing row (map g rows) ≡ Front g rows at ++ row ∷ Back g rows (at + 1)
with_here g f name rows at row e h =
    let here = subst (λ n. IsHere f n (map g rows) at) (sym e) h in
    placed_here f replacing row (map g rows) at here
    ∙ ap (λ front. front ++ row ∷ here.back) (here_front f (f row) (map g rows) at here ∙ take-map g at rows)
    ∙ ap (λ back. Front g rows at ++ row ∷ back) (here_back f (f row) (map g rows) at here ∙ sym (rest_mapped g rows (at + 1)))

pub with_before : {A B : Type 0} (g : A → B) (f : B → List ℕ) (name : List ℕ) (rows : List A) (at : ℕ) (row : B) → f row ≡ name
    → IsBefore f name (map g rows) at → placed f replacing row (map g rows) ≡ Front g rows at ++ row ∷ Back g rows at
with_before g f name rows at row e h =
    let before = subst (λ n. IsBefore f n (map g rows) at) (sym e) h in
    placed_before f replacing row (map g rows) at before
    ∙ ap (λ front. front ++ row ∷ before.back) (before_front f (f row) (map g rows) at before ∙ take-map g at rows)
    ∙ ap (λ back. Front g rows at ++ row ∷ back) (before_back f (f row) (map g rows) at before ∙ sym (rest_mapped g rows at))

pub less_here : {A B : Type 0} (g : A → B) (f : B → List ℕ) (name : List ℕ) (rows : List A) (at : ℕ) → AreSorted f (map g rows)
    → IsHere f name (map g rows) at → without f name (map g rows) ≡ Front g rows at ++ Back g rows (at + 1)
less_here g f name rows at o h =
    without_here f name (map g rows) at o h
    ∙ ap (λ front. front ++ h.back) (here_front f name (map g rows) at h ∙ take-map g at rows)
    ∙ ap (λ back. Front g rows at ++ back) (here_back f name (map g rows) at h ∙ sym (rest_mapped g rows (at + 1)))

pub less_before : {A B : Type 0} (g : A → B) (f : B → List ℕ) (name : List ℕ) (rows : List A) (at : ℕ) → AreSorted f (map g rows)
    → IsBefore f name (map g rows) at → without f name (map g rows) ≡ Front g rows at ++ Back g rows at
less_before g f name rows at o h =
    without_before f name (map g rows) at o h ∙ h.parts
    ∙ ap (λ front. front ++ h.back) (before_front f name (map g rows) at h ∙ take-map g at rows)
    ∙ ap (λ back. Front g rows at ++ back) (before_back f name (map g rows) at h ∙ sym (rest_mapped g rows at))

pub spliced_rows : {A : Type 0} (blocks first second third : List (List A)) (rows : List A) (from to : ℕ) → first ≡ take from blocks
    → Cuts rows first second → third ≡ second ++ drop to blocks → rows_in third ≡ rows_in (take from blocks) ++ (rows ++ rows_in (drop to blocks))
spliced_rows blocks first second third rows from to one two three =
    ap rows_in three ∙ rows_in-append second (drop to blocks)
    ∙ ap (λ bs. rows_in bs ++ rows_in (drop to blocks)) two.grown
    ∙ ap (λ rs. rs ++ rows_in (drop to blocks)) (rows_in-append first two.pieces ∙ ap (λ rs. rows_in first ++ rs) two.same)
    ∙ append_assoc (rows_in first) rows (rows_in (drop to blocks))
    ∙ ap (λ bs. rows_in bs ++ (rows ++ rows_in (drop to blocks))) one

pub spliced_full : {A : Type 0} (blocks first second third : List (List A)) (rows : List A) (from to : ℕ) → first ≡ take from blocks
    → Cuts rows first second → third ≡ second ++ drop to blocks → All IsFull blocks → All IsFull third
spliced_full blocks first second third rows from to one two three full =
    subst (All IsFull) (sym (three ∙ ap (λ bs. bs ++ drop to blocks) two.grown))
    (All-append IsFull (first ++ two.pieces) (drop to blocks)
    (All-append IsFull first two.pieces (subst (All IsFull) (sym one) (All-take IsFull from blocks full)) two.full)
    (All-drop IsFull to blocks full))

take_part : {A : Type 0} (blocks : List A) (from at : ℕ) → from ≤ at → take from blocks ++ take (at - from) (drop from blocks) ≡ take at blocks
take_part blocks from at le =
    let sum : from + (at - from) ≡ at = omega (arith, le) in
    ap (λ front. front ++ take (at - from) (drop from blocks)) (sym (take-take from at blocks le))
    ∙ ap (λ back. take from (take at blocks) ++ back) (sym (drop-take from (at - from) blocks) ∙ ap (λ n. drop from (take n blocks)) sum)
    ∙ take-append-drop from (take at blocks)

drop_part : {A : Type 0} (blocks : List A) (next to : ℕ) → next ≤ to → take (to - next) (drop next blocks) ++ drop to blocks ≡ drop next blocks
drop_part blocks next to le =
    let sum : next + (to - next) ≡ to = omega (arith, le) in
    ap (λ back. take (to - next) (drop next blocks) ++ back) (sym (drop-drop (to - next) next blocks ∙ ap (λ n. drop n blocks) sum))
    ∙ take-append-drop (to - next) (drop next blocks)

rows_before : {A : Type 0} (blocks : List (List A)) (from at : ℕ) → from ≤ at
    → rows_in (take from blocks) ++ rows_in (take (at - from) (drop from blocks)) ≡ rows_in (take at blocks)
rows_before blocks from at le = sym (rows_in-append (take from blocks) (take (at - from) (drop from blocks))) ∙ ap rows_in (take_part blocks from at le)

rows_after : {A : Type 0} (blocks : List (List A)) (next to : ℕ) → next ≤ to
    → rows_in (take (to - next) (drop next blocks)) ++ rows_in (drop to blocks) ≡ rows_in (drop next blocks)
rows_after blocks next to le = sym (rows_in-append (take (to - next) (drop next blocks)) (drop to blocks)) ∙ ap rows_in (drop_part blocks next to le)

-- the rows of a block that was joined with the blocks around it
pub joined_rows : {A : Type 0} (blocks : List (List A)) (from at next to : ℕ) (front back rows : List A) → from ≤ at → next ≤ to
    → drop next blocks ≡ drop (at + 1) blocks
    → rows ≡ ((rows_in (take (at - from) (drop from blocks)) ++ front) ++ back) ++ rows_in (take (to - next) (drop next blocks))
    → rows_in (take from blocks) ++ (rows ++ rows_in (drop to blocks)) ≡ rows_in (take at blocks) ++ ((front ++ back) ++ rows_in (drop (at + 1) blocks))
joined_rows {A} blocks from at next to front back rows le1 le2 same is =
    let first = rows_in (take (at - from) (drop from blocks)) in
    let last = rows_in (take (to - next) (drop next blocks)) in
    let rest = rows_in (drop to blocks) in
    let tail : last ++ rest ≡ rows_in (drop (at + 1) blocks) = rows_after blocks next to le2 ∙ ap rows_in same in
    let inner : rows ++ rest ≡ first ++ ((front ++ back) ++ rows_in (drop (at + 1) blocks)) =
    ap (λ rs. rs ++ rest) is ∙ append_assoc ((first ++ front) ++ back) last rest
    ∙ ap (λ rs. ((first ++ front) ++ back) ++ rs) tail
    ∙ ap (λ rs. rs ++ rows_in (drop (at + 1) blocks)) (append_assoc first front back)
    ∙ append_assoc first (front ++ back) (rows_in (drop (at + 1) blocks)) in
    ap (λ rs. rows_in (take from blocks) ++ rs) inner
    ∙ sym (append_assoc (rows_in (take from blocks)) first ((front ++ back) ++ rows_in (drop (at + 1) blocks)))
    ∙ ap (λ rs. rs ++ ((front ++ back) ++ rows_in (drop (at + 1) blocks))) (rows_before blocks from at le1)

pub here_old : {A : Type 0} (f : A → List ℕ) (name : List ℕ) (rows : List A) (at : ℕ) (d : A)
    → (h : IsHere f name rows at) → get_or rows at d ≡ h.old
here_old f name rows at d h =
    ap (λ rs. get_or rs at d) h.parts ∙ ap (λ n. get_or (h.front ++ h.old ∷ h.back) n d) (sym h.at)
    ∙ get_or-append_seam h.front h.old h.back d

-- some blocks, as a slice of them is seen
pub part_mapped : {A B : Type 0} (g : A → B) (blocks : List A) (from to : ℕ)
    → map g (take (to - from) (drop from blocks)) ≡ take (to - from) (drop from (map g blocks))
part_mapped g blocks from to = sym (take-map g (to - from) (drop from blocks)) ∙ ap (take (to - from)) (sym (drop-map g from blocks))

pub rows_more : {A B : Type 0} (g : B → List A) (blocks : List B) (i : ℕ) (block : B) → i < length blocks → block ≡ get_or blocks i block
    → rows_in (map g (take (i + 1) blocks)) ≡ rows_in (map g (take i blocks)) ++ g block
rows_more g blocks i block within is =
    ap (λ bs. rows_in (map g bs)) (take_more blocks i block within ∙ ap (λ b. take i blocks ++ b ∷ []) (sym is))
    ∙ ap rows_in (map-append g (take i blocks) (block ∷ [])) ∙ rows_in-append (map g (take i blocks)) (g block ∷ [])
    ∙ ap (λ rs. rows_in (map g (take i blocks)) ++ rs) (append-nil (g block))

from_after : {A : Type 0} (f : A → List ℕ) (name : List ℕ) (front back : List A) → All (IsSmaller f name) front
    → from_name f name (front ++ back) ≡ from_name f name back
from_after f name [] back all = refl
from_after f name (row ∷ front) back all =
    let e = All-head (IsSmaller f name) row front all in
    rw e (from_after f name front back (All-tail (IsSmaller f name) row front all))

from_first : {A : Type 0} (f : A → List ℕ) (name : List ℕ) (back : List A) → StartsGreater f name back → from_name f name back ≡ back
from_first f name [] greater = refl
from_first f name (row ∷ rows) greater = rw greater refl

starts_append : {A : Type 0} (f : A → List ℕ) (name : List ℕ) (xs ys : List A)
    → StartsGreater f name xs → StartsGreater f name ys → StartsGreater f name (xs ++ ys)
starts_append f name [] ys one two = two
starts_append f name (x ∷ xs) ys one two = one

from_here : {A : Type 0} (f : A → List ℕ) (name : List ℕ) (rows back : List A) (at : ℕ) → (h : IsHere f name rows at)
    → from_name f name (rows ++ back) ≡ drop at rows ++ back
from_here f name rows back at h =
    let e = h.same in
    let rest : drop at rows ≡ h.old ∷ h.back = ap (drop at) h.parts ∙ drop_at h.front (h.old ∷ h.back) at h.at in
    ap (λ rs. from_name f name (rs ++ back)) h.parts ∙ ap (from_name f name) (append_assoc h.front (h.old ∷ h.back) back)
    ∙ from_after f name h.front ((h.old ∷ h.back) ++ back) h.smaller ∙ rw e refl ∙ ap (λ rs. rs ++ back) (sym rest)

from_before : {A : Type 0} (f : A → List ℕ) (name : List ℕ) (rows back : List A) (at : ℕ)
    → StartsGreater f name back → (h : IsBefore f name rows at)
    → from_name f name (rows ++ back) ≡ drop at rows ++ back
from_before f name rows back at greater h =
    ap (λ rs. from_name f name (rs ++ back)) h.parts ∙ ap (from_name f name) (append_assoc h.front h.back back)
    ∙ from_after f name h.front (h.back ++ back) h.smaller ∙ from_first f name (h.back ++ back) (starts_append f name h.back back h.greater greater)
    ∙ ap (λ rs. rs ++ back) (before_back f name rows at h)

pub from_block : {A : Type 0} (f : A → List ℕ) (name : List ℕ) (blocks : List (List A)) (at : ℕ) → All (IsSmaller f name) (rows_in (take at blocks))
    → from_name f name (rows_in blocks) ≡ from_name f name (get_or blocks at [] ++ rows_in (drop (at + 1) blocks))
from_block f name blocks at smaller =
    ap (from_name f name) (rows_cut blocks at) ∙ from_after f name (rows_in (take at blocks)) (get_or blocks at [] ++ rows_in (drop (at + 1) blocks)) smaller

pub since_here : {A B : Type 0} (g : A → B) (f : B → List ℕ) (name : List ℕ) (rows : List A) (at : ℕ) → IsHere f name (map g rows) at
    → (rest : List B) → from_name f name (map g rows ++ rest) ≡ Back g rows at ++ rest
since_here g f name rows at h rest = from_here f name (map g rows) rest at h ∙ ap (λ rs. rs ++ rest) (sym (rest_mapped g rows at))

pub since_before : {A B : Type 0} (g : A → B) (f : B → List ℕ) (name : List ℕ) (rows : List A) (at : ℕ) → IsBefore f name (map g rows) at
    → (rest : List B) → StartsGreater f name rest → from_name f name (map g rows ++ rest) ≡ Back g rows at ++ rest
since_before g f name rows at h rest greater =
    from_before f name (map g rows) rest at greater h ∙ ap (λ rs. rs ++ rest) (sym (rest_mapped g rows at))

all_rows : {A B : Type 0} (g : B → List A) (blocks : List B) (n : ℕ)
    → length (rows_in (map g blocks)) ≡ length (rows_in (map g (take n blocks))) + length (rows_in (map g (drop n blocks)))
all_rows g blocks n =
    ap (λ bs. length (rows_in (map g bs))) (sym (take-append-drop n blocks))
    ∙ ap (λ bs. length (rows_in bs)) (map-append g (take n blocks) (drop n blocks))
    ∙ ap length (rows_in-append (map g (take n blocks)) (map g (drop n blocks)))
    ∙ length-append (rows_in (map g (take n blocks))) (rows_in (map g (drop n blocks)))

pub counted_more : {A B : Type 0} (g : B → List A) (blocks : List B) (i : ℕ) (block : B) → i < length blocks → block ≡ get_or blocks i block
    → length (rows_in (map g (take (i + 1) blocks))) ≡ length (rows_in (map g (take i blocks))) + length (g block)
counted_more g blocks i block within is =
    ap length (rows_more g blocks i block within is) ∙ length-append (rows_in (map g (take i blocks))) (g block)

pub counted_within : {A B : Type 0} (g : B → List A) (blocks : List B) (i : ℕ) (block : B) → i < length blocks → block ≡ get_or blocks i block
    → length (rows_in (map g (take i blocks))) + length (g block) ≤ length (rows_in (map g blocks))
counted_within g blocks i block within is =
    let more = counted_more g blocks i block within is in
    let all = all_rows g blocks (i + 1) in
    omega (arith, more, all)
