-- The order of paths, and where those with a key are among paths that ascend: `partitioned_before`, `partitioned_same`, `below_is`.
use Rattle.std.proofs.Common.{◌≡◌, ℕ, suc, ◌+◌, ◌<◌, ◌≤◌, true, false, List, [], ◌∷◌, ◌++◌, length, map, get_or, take, drop, refl, sym, ap, ap₂, ◌∙◌, subst, arith, ⊎_elim, Ordering, append-nil, length-take, length-drop}
use Rattle.std.specs.Prelude.{All}
use Rattle.std.specs.List.{AllWithin, AllByRecursion, enumerate_from, Contains, HoldsAt}
use Rattle.std.specs.List.Sorted.{IsNonDecreasingBy, IsPartitionPoint, IsPartitionedBy, IsStrictlySortedBy}
use Rattle.std.proofs.lemmas.List.Sorted.{searchable_from_sorted}
use Rattle.std.specs.Str.{bytes_eq}
use Rattle.std.specs.Cmp.{IsTotalOrder}
use Rattle.std.specs.Cmp.Lexicographic.{slice_cmp}
use Rattle.std.specs.FinMap.{slice_cmp-IsAntisymmetric}
use Rattle.std.specs.Ordering.{nat_cmp, is_lt, is_eq, ordering_then, ordering_index, ordering_reverse}
use Rattle.std.specs.declared.cmp.Ordering.TheVariants.{Less, Equal, Greater}
use Rattle.std.proofs.lemmas.Bool.{false≢true, true≢false, cases_lt, cond-true, cond-false}
use Rattle.std.proofs.lemmas.Cmp.{nat_list_cmp_total, lists_total, tied_itself}
use Rattle.std.proofs.lemmas.List.{get_or-take, get_or-drop, drop-drop, take-append-drop, map-append}
use Rattle.std.proofs.lemmas.List.Concat.{flat_map-append}
use Rattle.std.proofs.lemmas.List.Elements.{recursion_from_All, All-from_recursion}
use Rattle.std.proofs.lemmas.List.Kept.{AllPairs-cons}
use Rattle.std.proofs.lemmas.Map.Lookups.{exact_bytes}
use Rattle.std.proofs.lemmas.Map.Text.{is_eq-slice_cmp}
use Rattle.std.proofs.lemmas.Slice.Eq.{bytes_eq-Decides}
use Rattle.json_text.specs.Tree.{Tree}
use Rattle.event_flatten.specs.Path.{path_cmp, AreAscending}
use Rattle.event_flatten.specs.Walk.{rests, AscendsFrom, after, below, ends, is_before, begins}
use Rattle.event_flatten.specs.Leaves.{at_end}

pub path_total : IsTotalOrder path_cmp
path_total = lists_total nat_list_cmp_total

pub same_path : (a b : List (List ℕ)) → path_cmp a b ≡ Equal → a ≡ b
same_path = slice_cmp-IsAntisymmetric exact_bytes

before_first : (key : List ℕ) (a b : List (List ℕ)) → path_cmp a b ≡ Less → is_before key b ≡ true → is_before key a ≡ true
before_first key [] b less before = refl
before_first key (k ∷ a) [] less before = cc
before_first key (k ∷ a) (l ∷ b) less before = go (slice_cmp nat_cmp k l) (slice_cmp nat_cmp l key) refl refl less before
  where
    go : (o p : Ordering) → slice_cmp nat_cmp k l ≡ o → slice_cmp nat_cmp l key ≡ p → ordering_then o (path_cmp a b) ≡ Less → is_lt p ≡ true
        → is_lt (slice_cmp nat_cmp k key) ≡ true
    go Less Less e f less h = ap is_lt (nat_list_cmp_total.trans k l key e f)
    go Less Equal e f less h = absurd (false≢true h)
    go Less Greater e f less h = absurd (false≢true h)
    go Equal p e f less h = ap is_lt (nat_list_cmp_total.congr k l key e ∙ f) ∙ h
    go Greater p e f less h = cc

begins_first : (key : List ℕ) (a b : List (List ℕ)) → path_cmp a b ≡ Less → is_before key a ≡ false → begins key b ≡ true → begins key a ≡ true
begins_first key [] b less before has = absurd (true≢false before)
begins_first key (k ∷ a) [] less before has = absurd (false≢true has)
begins_first key (k ∷ a) (l ∷ b) less before has = go (slice_cmp nat_cmp k l) refl less
  where
    same : l ≡ key
    same = (bytes_eq-Decides l key).0 has

    go : (o : Ordering) → slice_cmp nat_cmp k l ≡ o → ordering_then o (path_cmp a b) ≡ Less → bytes_eq k key ≡ true
    go Less e less = absurd (true≢false (sym (ap is_lt (subst (λ x. slice_cmp nat_cmp k x ≡ Less) same e)) ∙ before))
    go Equal e less = (bytes_eq-Decides k key).1 (exact_bytes k l e ∙ same)
    go Greater e less = cc

-- what is left after one more key is in the same order
after_same : (key : List ℕ) (a b : List (List ℕ)) → path_cmp a b ≡ Less → begins key a ≡ true → begins key b ≡ true → path_cmp (drop 1 a) (drop 1 b) ≡ Less
after_same key [] b less first second = absurd (false≢true first)
after_same key (k ∷ a) [] less first second = absurd (false≢true second)
after_same key (k ∷ a) (l ∷ b) less first second =
    let same : k ≡ l = (bytes_eq-Decides k key).0 first ∙ sym ((bytes_eq-Decides l key).0 second) in
    let tied : slice_cmp nat_cmp k l ≡ Equal = subst (λ x. slice_cmp nat_cmp k x ≡ Equal) same (tied_itself nat_list_cmp_total k) in
    subst (λ o. ordering_then o (path_cmp a b) ≡ Less) tied less

not_begins : (key : List ℕ) (a : List (List ℕ)) → is_before key a ≡ true → begins key a ≡ false
not_begins key [] before = refl
not_begins key (k ∷ a) before = sym (is_eq-slice_cmp k key) ∙ go (slice_cmp nat_cmp k key) before
  where
    go : (o : Ordering) → is_lt o ≡ true → is_eq o ≡ false
    go Less h = refl
    go Equal h = absurd (false≢true h)
    go Greater h = refl

pub partitioned_before : (key : List ℕ) (depth : ℕ) (paths : List (List (List ℕ))) → AscendsFrom depth paths
    → IsPartitionedBy (λ path. is_before key (drop depth path)) paths
partitioned_before key depth paths up i j d le within h = ⊎_elim
    (λ less. before_first key (drop depth (get_or paths i d)) (drop depth (get_or paths j d)) (up i j d less within) h)
    (λ ge. let same : j ≡ i = omega arith in subst (λ k. is_before key (drop depth (get_or paths k d)) ≡ true) same h)
    (cases_lt i j)

pub partitioned_same : (key : List ℕ) (depth : ℕ) (paths : List (List (List ℕ))) → AscendsFrom depth paths
    → All (λ path. is_before key (drop depth path) ≡ false) paths → IsPartitionedBy (λ path. begins key (drop depth path)) paths
partitioned_same key depth paths up none i j d le within h = ⊎_elim
    (λ less. begins_first key (drop depth (get_or paths i d)) (drop depth (get_or paths j d)) (up i j d less within) (none i d (omega arith)) h)
    (λ ge. let same : j ≡ i = omega arith in subst (λ k. begins key (drop depth (get_or paths k d)) ≡ true) same h)
    (cases_lt i j)

pub All-take_within : {X : Type 0} (P : X → Type 0) (xs : List X) (i : ℕ) → AllWithin P xs 0 i → All P (take i xs)
All-take_within P xs i h k d within =
    let short : k < i = omega (arith, length-take i xs) in
    subst P (sym (get_or-take i xs k d short)) (h k d (omega arith) short)

pub All-drop_within : {X : Type 0} (P : X → Type 0) (xs : List X) (i : ℕ) → AllWithin P xs i (length xs) → All P (drop i xs)
All-drop_within P xs i h k d within =
    subst P (sym (get_or-drop i xs k d)) (h (i + k) d (omega arith) (omega (arith, length-drop i xs)))

-- parts of paths that ascend ascend
pub ascends-drop : (depth from : ℕ) (paths : List (List (List ℕ))) → AscendsFrom depth paths → AscendsFrom depth (drop from paths)
ascends-drop depth from paths up i j d less within =
    rw (get_or-drop from paths i d, get_or-drop from paths j d) (up (from + i) (from + j) d (omega arith) (omega (arith, length-drop from paths)))

-- after one more key, those that have it ascend
pub ascends_below : (key : List ℕ) (depth count : ℕ) (paths : List (List (List ℕ))) → AscendsFrom depth paths
    → All (λ path. begins key (drop depth path) ≡ true) (take count paths) → AscendsFrom (depth + 1) (take count paths)
ascends_below key depth count paths up has i j d less within =
    let a = get_or (take count paths) i d in
    let b = get_or (take count paths) j d in
    let short : j < count = omega (arith, length-take count paths) in
    let inside : j < length paths = omega (arith, length-take count paths) in
    let first : path_cmp (drop depth a) (drop depth b) ≡ Less =
    rw (get_or-take count paths i d (omega arith), get_or-take count paths j d short) (up i j d less inside) in
    subst (λ x. path_cmp x (drop (depth + 1) b) ≡ Less) (drop-drop 1 depth a) (subst (λ x. path_cmp (drop 1 (drop depth a)) x ≡ Less) (drop-drop 1 depth b)
    (after_same key (drop depth a) (drop depth b) first (has i d (omega arith)) (has j d within)))

-- numbers of lists that follow one another
pub enumerate_from-append : {X : Type 0} (n : ℕ) (xs ys : List X) → enumerate_from n (xs ++ ys) ≡ enumerate_from n xs ++ enumerate_from (n + length xs) ys
enumerate_from-append n [] ys = ap (λ m. enumerate_from m ys) (omega arith)
enumerate_from-append n (x ∷ xs) ys =
    ap (λ l. (n, x) ∷ l) (enumerate_from-append (n + 1) xs ys ∙ ap (λ m. enumerate_from (n + 1) xs ++ enumerate_from m ys) (omega arith))

after_no : (key : List ℕ) (n : ℕ) (path : List (List ℕ)) → begins key path ≡ false → after key n path ≡ []
after_no key n [] apart = refl
after_no key n (k ∷ path) apart = cond-false (bytes_eq k key) ((n, path) ∷ []) [] apart

after_yes : (key : List ℕ) (n : ℕ) (path : List (List ℕ)) → begins key path ≡ true → after key n path ≡ (n, drop 1 path) ∷ []
after_yes key n [] has = absurd (false≢true has)
after_yes key n (k ∷ path) has = cond-true (bytes_eq k key) ((n, path) ∷ []) [] has

below_none : (key : List ℕ) (depth n : ℕ) (paths : List (List (List ℕ))) → AllByRecursion (λ path. begins key (drop depth path) ≡ false) paths
    → below key (enumerate_from n (rests depth paths)) ≡ []
below_none key depth n [] h = refl
below_none key depth n (path ∷ paths) h = ap₂ ◌++◌ (after_no key n (drop depth path) h.0) (below_none key depth (n + 1) paths h.1)

below_all : (key : List ℕ) (depth n : ℕ) (paths : List (List (List ℕ))) → AllByRecursion (λ path. begins key (drop depth path) ≡ true) paths
    → below key (enumerate_from n (rests depth paths)) ≡ enumerate_from n (rests (depth + 1) paths)
below_all key depth n [] h = refl
below_all key depth n (path ∷ paths) h = ap₂ ◌++◌
    (after_yes key n (drop depth path) h.0 ∙ ap (λ r. (n, r) ∷ []) (drop-drop 1 depth path))
    (below_all key depth (n + 1) paths h.1)

all_not_begin : (key : List ℕ) (depth : ℕ) (paths : List (List (List ℕ))) → All (λ path. is_before key (drop depth path) ≡ true) paths
    → All (λ path. begins key (drop depth path) ≡ false) paths
all_not_begin key depth paths h k d within = not_begins key (drop depth (get_or paths k d)) (h k d within)

-- what is wanted below a key, from the parts before it, with it and after it
below_parts : (key : List ℕ) (depth n : ℕ) (before same later : List (List (List ℕ)))
    → All (λ path. is_before key (drop depth path) ≡ true) before → All (λ path. begins key (drop depth path) ≡ true) same
    → All (λ path. begins key (drop depth path) ≡ false) later
    → below key (enumerate_from n (rests depth (before ++ (same ++ later)))) ≡ enumerate_from (n + length before) (rests (depth + 1) same)
below_parts key depth n before same later first second third =
    let b = rests depth before in
    let s = rests depth same in
    let l = rests depth later in
    let parts : rests depth (before ++ (same ++ later)) ≡ b ++ (s ++ l) =
    map-append (drop depth) before (same ++ later) ∙ ap (λ x. b ++ x) (map-append (drop depth) same later) in
    let long : length b ≡ length before = Rattle.std.proofs.lemmas.List.length-map before (drop depth) in
    let numbers : enumerate_from n (b ++ (s ++ l))
    ≡ enumerate_from n b ++ (enumerate_from (n + length b) s ++ enumerate_from (n + length b + length s) l) =
    enumerate_from-append n b (s ++ l) ∙ ap (λ x. enumerate_from n b ++ x) (enumerate_from-append (n + length b) s l) in
    let one : below key (enumerate_from n b) ≡ [] = below_none key depth n before (recursion_from_All _ before (all_not_begin key depth before first)) in
    let two : below key (enumerate_from (n + length b) s) ≡ enumerate_from (n + length b) (rests (depth + 1) same) =
    below_all key depth (n + length b) same (recursion_from_All _ same second) in
    let three : below key (enumerate_from (n + length b + length s) l) ≡ [] =
    below_none key depth (n + length b + length s) later (recursion_from_All _ later third) in
    let f = λ (w : ℕ × List (List ℕ)). after key w.0 w.1 in
    ap (λ x. below key (enumerate_from n x)) parts ∙ ap (below key) numbers
    ∙ flat_map-append f (enumerate_from n b) (enumerate_from (n + length b) s ++ enumerate_from (n + length b + length s) l)
    ∙ ap (λ x. below key (enumerate_from n b) ++ x) (flat_map-append f (enumerate_from (n + length b) s) (enumerate_from (n + length b + length s) l))
    ∙ ap₂ ◌++◌ one (ap₂ ◌++◌ two three) ∙ append-nil (enumerate_from (n + length b) (rests (depth + 1) same))
    ∙ ap (λ m. enumerate_from (n + m) (rests (depth + 1) same)) long

pub below_is : (key : List ℕ) (depth n from count : ℕ) (paths : List (List (List ℕ))) → from ≤ length paths
    → All (λ path. is_before key (drop depth path) ≡ true) (take from paths)
    → All (λ path. begins key (drop depth path) ≡ true) (take count (drop from paths))
    → All (λ path. begins key (drop depth path) ≡ false) (drop count (drop from paths))
    → below key (enumerate_from n (rests depth paths)) ≡ enumerate_from (n + from) (rests (depth + 1) (take count (drop from paths)))
below_is key depth n from count paths within first second third =
    let whole : paths ≡ take from paths ++ (take count (drop from paths) ++ drop count (drop from paths)) =
    sym (ap (λ x. take from paths ++ x) (take-append-drop count (drop from paths)) ∙ take-append-drop from paths) in
    let long : length (take from paths) ≡ from = omega (arith, length-take from paths) in
    ap (λ x. below key (enumerate_from n (rests depth x))) whole
    ∙ below_parts key depth n (take from paths) (take count (drop from paths)) (drop count (drop from paths)) first second third
    ∙ ap (λ m. enumerate_from (n + m) (rests (depth + 1) (take count (drop from paths)))) long

-- if the first path that does not come before the key does not have it, none has it
pub below_nothing : (key : List ℕ) (depth n from : ℕ) (paths : List (List (List ℕ))) → from ≤ length paths → AscendsFrom depth paths
    → All (λ path. is_before key (drop depth path) ≡ true) (take from paths)
    → All (λ path. is_before key (drop depth path) ≡ false) (drop from paths)
    → ((d : List (List ℕ)) → 0 < length (drop from paths) → begins key (drop depth (get_or (drop from paths) 0 d)) ≡ false)
    → below key (enumerate_from n (rests depth paths)) ≡ []
below_nothing key depth n from paths within up first later head =
    let rest = drop from paths in
    let parted = partitioned_same key depth rest (ascends-drop depth from paths up) later in
    below_is key depth n from 0 paths within first (λ k d h. absurd (omega arith))
    (λ k d h. Rattle.std.proofs.lemmas.Bool.false_from_ne_true _ (λ has. true≢false (sym (parted 0 k d (omega arith) h has) ∙ head d (omega arith))))

ends_none : (scalar : Tree) (depth n : ℕ) (paths : List (List (List ℕ))) → AllByRecursion (λ path. drop depth path ≡ [] → ⊥) paths
    → ends scalar (enumerate_from n (rests depth paths)) ≡ []
ends_none scalar depth n [] h = refl
ends_none scalar depth n (path ∷ paths) h = ap₂ ◌++◌ (go (drop depth path) h.0) (ends_none scalar depth (n + 1) paths h.1)
  where
    go : (rest : List (List ℕ)) → (rest ≡ [] → ⊥) → map {B = ℕ × Tree} (λ leaf. (n, leaf)) (at_end rest scalar) ≡ []
    go [] more = absurd (more refl)
    go (k ∷ rest) more = refl

-- what comes after a path is not empty
goes_on : (a b : List (List ℕ)) → path_cmp a b ≡ Less → b ≡ [] → ⊥
goes_on [] [] less e = cc
goes_on [] (l ∷ b) less e = cc
goes_on (k ∷ a) [] less e = cc
goes_on (k ∷ a) (l ∷ b) less e = cc

later_go_on : (depth : ℕ) (path : List (List ℕ)) (paths : List (List (List ℕ))) → AscendsFrom depth (path ∷ paths)
    → All (λ later. drop depth later ≡ [] → ⊥) paths
later_go_on depth path paths up k d within =
    goes_on (drop depth path) (drop depth (get_or paths k d)) (up 0 (suc k) d (omega arith) (omega arith))

-- of paths that ascend only the first can have no further keys
pub ends_first : (scalar : Tree) (depth n : ℕ) (paths : List (List (List ℕ))) (path : List (List ℕ)) → AscendsFrom depth paths
    → 0 < length paths → path ≡ get_or paths 0 path → drop depth path ≡ [] → ends scalar (enumerate_from n (rests depth paths)) ≡ (n, scalar) ∷ []
ends_first scalar depth n [] path up some is done = absurd (omega arith)
ends_first scalar depth n (p ∷ paths) path up some is done =
    let here : drop depth p ≡ [] = subst (λ x. drop depth x ≡ []) is done in
    ap₂ ◌++◌ (ap (λ r. map {B = ℕ × Tree} (λ leaf. (n, leaf)) (at_end r scalar)) here)
    (ends_none scalar depth (n + 1) paths (recursion_from_All _ paths (later_go_on depth p paths up)))

pub ends_nothing : (scalar : Tree) (depth n : ℕ) (paths : List (List (List ℕ))) (path : List (List ℕ)) → AscendsFrom depth paths
    → path ≡ get_or paths 0 path → (drop depth path ≡ [] → ⊥) → ends scalar (enumerate_from n (rests depth paths)) ≡ []
ends_nothing scalar depth n [] path up is more = refl
ends_nothing scalar depth n (p ∷ paths) path up is more =
    ends_none scalar depth n (p ∷ paths) ((λ e. more (subst (λ x. drop depth x ≡ []) (sym is) e)), recursion_from_All _ paths (later_go_on depth p paths up))

pub rests_whole : (paths : List (List (List ℕ))) → rests 0 paths ≡ paths
rests_whole [] = refl
rests_whole (path ∷ paths) = ap (λ r. path ∷ r) (rests_whole paths)

pub ascending_from_strict : (paths : List (List (List ℕ))) → IsStrictlySortedBy path_cmp paths → AreAscending paths
unfolding IsStrictlySortedBy
ascending_from_strict [] h = λ i j d less within. absurd (omega arith)
ascending_from_strict (path ∷ paths) h =
    AllPairs-cons (λ a b. path_cmp a b ≡ Less) path paths (All-from_recursion (λ later. path_cmp path later ≡ Less) paths h.0) (ascending_from_strict paths h.1)

-- what a binary search for a path asks and says
pub path_rises : (keys : List (List ℕ)) (paths : List (List (List ℕ))) → AreAscending paths
    → IsNonDecreasingBy (λ path. ordering_index (path_cmp path keys)) paths
path_rises keys paths up = searchable_from_sorted path_total (λ path. path) paths keys (λ k d low high.
    ap is_lt (path_total.antisymm (get_or paths (k + 1) d) (get_or paths k d) ∙ ap ordering_reverse (up k (k + 1) d (omega arith) high)))

pub path_at : (keys : List (List ℕ)) (paths : List (List (List ℕ))) (i : ℕ) → HoldsAt (λ path. path_cmp path keys ≡ Equal) paths i
    → get_or paths i keys ≡ keys
path_at keys paths i at = same_path (get_or paths i keys) keys (at keys)

pub path_nowhere : (keys : List (List ℕ)) (paths : List (List (List ℕ))) (i : ℕ)
    → IsPartitionPoint (λ path. path_cmp path keys ≡ Less) (λ path. path_cmp path keys ≡ Greater) paths i → Contains paths keys → ⊥
path_nowhere keys paths i point (k, within, is) =
    let tied : path_cmp (get_or paths k keys) keys ≡ Equal = subst (λ x. path_cmp x keys ≡ Equal) (sym is) (tied_itself path_total keys) in
    ⊎_elim
    (λ less. let never : Less ≡ Equal = sym (point.0 k keys (omega arith) less) ∙ tied in cc)
    (λ ge. let never : Greater ≡ Equal = sym (point.1 k keys ge within) ∙ tied in cc)
    (cases_lt k i)
