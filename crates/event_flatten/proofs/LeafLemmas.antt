-- The walk finds the leaves at each path: `found_numbered`. Leaves by path are the leaves of the paths: `by_path_is`.
use Rattle.std.proofs.Common.{◌≡◌, ℕ, zero, suc, ◌+◌, ◌<◌, ◌≤◌, Bool, true, false, cond, List, [], ◌∷◌, ◌++◌, length, map, filter, get_or, refl, sym, ap, ap₂, ◌∙◌, subst, arith, inl, inr, ⊎_elim, append-nil}
use Rattle.std.specs.Prelude.{flat_map, ◌≢◌, ◌==◌}
use Rattle.std.specs.List.{AllByRecursion, enumerate_from}
use Rattle.std.specs.Str.{bytes_eq}
use Rattle.std.proofs.lemmas.Bool.{cases_Bool, cond-true, cond-false, false≢true, eqb-true, eqb-false, eq-eqb, ne_eqb, cases_order}
use Rattle.std.proofs.lemmas.Cmp.{nat_list_eq_equiv}
use Rattle.std.proofs.lemmas.List.{map-append}
use Rattle.std.proofs.lemmas.List.Elements.{filter-append}
use Rattle.std.proofs.lemmas.Slice.Eq.{bytes_eq-Decides}
use Rattle.json_text.specs.Tree.{Tree, null, truth, number, text, list, object, Items, no_items, item, Members, no_members, member}
use Rattle.json_text.specs.Compact.{IsValue, AreItems, AreMembers, LacksKey}
use Rattle.event_flatten.specs.Leaves.{at_end, leaves_at, leaves_of_items, leaves_of_members, leaves_with, leaves_of, has_number, numbered}
use Rattle.event_flatten.specs.Walk.{Wants, after, below, ends, found_in, found_in_items, found_in_members}
use Rattle.event_flatten.proofs.SortLemmas.{Rises, all_weaker}

-- what is wanted for one number
abbrev only : ℕ → Wants → Wants
only n ws = filter (λ w. w.0 == n) ws

abbrev values : List (ℕ × Tree) → List Tree
values leaves = map (λ leaf. leaf.1) leaves

-- scalars with a number
abbrev with : ℕ → List Tree → List (ℕ × Tree)
with n leaves = map (λ leaf. (n, leaf)) leaves

-- for each want some scalars with its number
abbrev parts : (ℕ × List (List ℕ) → List Tree) → Wants → List (ℕ × Tree)
parts g ws = flat_map (λ w. with w.0 (g w)) ws

values-append : (xs ys : List (ℕ × Tree)) → values (xs ++ ys) ≡ values xs ++ values ys
values-append xs ys = map-append (λ (leaf : ℕ × Tree). leaf.1) xs ys

numbered-append : (n : ℕ) (xs ys : List (ℕ × Tree)) → numbered n (xs ++ ys) ≡ numbered n xs ++ numbered n ys
numbered-append n xs ys = ap values (filter-append (has_number n) xs ys) ∙ values-append (filter (has_number n) xs) (filter (has_number n) ys)

values-with : (n : ℕ) (ls : List Tree) → values (with n ls) ≡ ls
values-with n [] = refl
values-with n (l ∷ ls) = ap (λ r. l ∷ r) (values-with n ls)

-- the first leaf has the number, or it has not
numbered_here : (n : ℕ) (leaf : ℕ × Tree) (leaves : List (ℕ × Tree)) → (leaf.0 == n) ≡ true → numbered n (leaf ∷ leaves) ≡ leaf.1 ∷ numbered n leaves
numbered_here n leaf leaves same =
    ap values (cond-true (leaf.0 == n) (leaf ∷ filter (has_number n) leaves) (filter (has_number n) leaves) same)

numbered_other : (n : ℕ) (leaf : ℕ × Tree) (leaves : List (ℕ × Tree)) → (leaf.0 == n) ≡ false → numbered n (leaf ∷ leaves) ≡ numbered n leaves
numbered_other n leaf leaves apart =
    ap values (cond-false (leaf.0 == n) (leaf ∷ filter (has_number n) leaves) (filter (has_number n) leaves) apart)

with_same : (n m : ℕ) (ls : List Tree) → (m == n) ≡ true → numbered n (with m ls) ≡ ls
with_same n m [] same = refl
with_same n m (l ∷ ls) same = numbered_here n (m, l) (with m ls) same ∙ ap (λ r. l ∷ r) (with_same n m ls same)

with_other : (n m : ℕ) (ls : List Tree) → (m == n) ≡ false → numbered n (with m ls) ≡ []
with_other n m [] apart = refl
with_other n m (l ∷ ls) apart = numbered_other n (m, l) (with m ls) apart ∙ with_other n m ls apart

only_here : (n : ℕ) (w : ℕ × List (List ℕ)) (ws : Wants) → (w.0 == n) ≡ true → only n (w ∷ ws) ≡ w ∷ only n ws
only_here n w ws same = cond-true (w.0 == n) (w ∷ only n ws) (only n ws) same

only_other : (n : ℕ) (w : ℕ × List (List ℕ)) (ws : Wants) → (w.0 == n) ≡ false → only n (w ∷ ws) ≡ only n ws
only_other n w ws apart = cond-false (w.0 == n) (w ∷ only n ws) (only n ws) apart

parts_numbered : (g : ℕ × List (List ℕ) → List Tree) (n : ℕ) (ws : Wants) → numbered n (parts g ws) ≡ values (parts g (only n ws))
parts_numbered g n [] = refl
parts_numbered g n (w ∷ ws) = elim (cases_Bool (w.0 == n)) [
  | inl same ↦ numbered-append n (with w.0 (g w)) (parts g ws)
      ∙ ap₂ ◌++◌ (with_same n w.0 (g w) same ∙ sym (values-with w.0 (g w))) (parts_numbered g n ws)
      ∙ sym (values-append (with w.0 (g w)) (parts g (only n ws))) ∙ sym (ap (λ x. values (parts g x)) (only_here n w ws same))
  | inr apart ↦ numbered-append n (with w.0 (g w)) (parts g ws)
      ∙ ap₂ ◌++◌ (with_other n w.0 (g w) apart) (parts_numbered g n ws) ∙ sym (ap (λ x. values (parts g x)) (only_other n w ws apart))
]

after_same : (n : ℕ) (key : List ℕ) (m : ℕ) (path : List (List ℕ)) → (m == n) ≡ true → only n (after key m path) ≡ after key m path
after_same n key m [] same = refl
after_same n key m (k ∷ path) same =
    elim (bytes_eq k key) as (λ b. only n (cond b ((m, path) ∷ []) []) ≡ cond b ((m, path) ∷ []) []) [ true ↦ only_here n (m, path) [] same | false ↦ refl ]

after_other : (n : ℕ) (key : List ℕ) (m : ℕ) (path : List (List ℕ)) → (m == n) ≡ false → only n (after key m path) ≡ []
after_other n key m [] apart = refl
after_other n key m (k ∷ path) apart =
    elim (bytes_eq k key) as (λ b. only n (cond b ((m, path) ∷ []) []) ≡ []) [ true ↦ only_other n (m, path) [] apart | false ↦ refl ]

below_only : (n : ℕ) (key : List ℕ) (ws : Wants) → only n (below key ws) ≡ below key (only n ws)
below_only n key [] = refl
below_only n key (w ∷ ws) = elim (cases_Bool (w.0 == n)) [
  | inl same ↦ filter-append (λ v. v.0 == n) (after key w.0 w.1) (below key ws)
      ∙ ap₂ ◌++◌ (after_same n key w.0 w.1 same) (below_only n key ws) ∙ sym (ap (below key) (only_here n w ws same))
  | inr apart ↦ filter-append (λ v. v.0 == n) (after key w.0 w.1) (below key ws)
      ∙ ap₂ ◌++◌ (after_other n key w.0 w.1 apart) (below_only n key ws) ∙ sym (ap (below key) (only_other n w ws apart))
]

-- nothing is found if nothing is wanted
mutual
  pub found_none : (t : Tree) → found_in [] t ≡ []
  found_none null = refl
  found_none (truth b) = refl
  found_none (number spelling) = refl
  found_none (text t) = refl
  found_none (list items) = items_none items
  found_none (object inside) = members_none inside

  items_none : (items : Items) → found_in_items [] items ≡ []
  items_none no_items = refl
  items_none (item t items) = ap₂ ◌++◌ (found_none t) (items_none items)

  members_none : (ms : Members) → found_in_members [] ms ≡ []
  members_none no_members = refl
  members_none (member k t ms) = ap₂ ◌++◌ (found_none t) (members_none ms)

-- what is found for a number is found if its paths alone are wanted
mutual
  found_only : (n : ℕ) (ws : Wants) (t : Tree) → numbered n (found_in ws t) ≡ values (found_in (only n ws) t)
  found_only n ws null = parts_numbered (λ w. at_end w.1 null) n ws
  found_only n ws (truth b) = parts_numbered (λ w. at_end w.1 (truth b)) n ws
  found_only n ws (number spelling) = parts_numbered (λ w. at_end w.1 (number spelling)) n ws
  found_only n ws (text t) = parts_numbered (λ w. at_end w.1 (text t)) n ws
  found_only n ws (list items) = items_only n ws items
  found_only n ws (object inside) = members_only n ws inside

  items_only : (n : ℕ) (ws : Wants) (items : Items) → numbered n (found_in_items ws items) ≡ values (found_in_items (only n ws) items)
  items_only n ws no_items = refl
  items_only n ws (item t items) =
      numbered-append n (found_in ws t) (found_in_items ws items) ∙ ap₂ ◌++◌ (found_only n ws t) (items_only n ws items)
      ∙ sym (values-append (found_in (only n ws) t) (found_in_items (only n ws) items))

  members_only : (n : ℕ) (ws : Wants) (ms : Members) → numbered n (found_in_members ws ms) ≡ values (found_in_members (only n ws) ms)
  members_only n ws no_members = refl
  members_only n ws (member k t ms) =
      numbered-append n (found_in (below k ws) t) (found_in_members ws ms)
      ∙ ap₂ ◌++◌ (found_only n (below k ws) t ∙ ap (λ x. values (found_in x t)) (below_only n k ws)) (members_only n ws ms)
      ∙ sym (values-append (found_in (below k (only n ws)) t) (found_in_members (only n ws) ms))

differ : (k key : List ℕ) → key ≢ k → bytes_eq k key ≡ false
differ k key apart = elim (cases_Bool (bytes_eq k key)) [ inl same ↦ absurd (apart (sym ((bytes_eq-Decides k key).0 same))) | inr e ↦ e ]

lacks_none : (key : List ℕ) (path : List (List ℕ)) (ms : Members) → LacksKey key ms → leaves_of_members (key ∷ path) ms ≡ []
lacks_none key path no_members lacks = refl
lacks_none key path (member k t ms) lacks =
    cond-false (bytes_eq k key) (leaves_at path t) (leaves_of_members (key ∷ path) ms) (differ k key lacks.0) ∙ lacks_none key path ms lacks.1

no_keys : (ms : Members) → leaves_of_members [] ms ≡ []
no_keys no_members = refl
no_keys (member k t ms) = refl

one_end : (n : ℕ) (path : List (List ℕ)) (t : Tree) → values (ends t ((n, path) ∷ [])) ≡ at_end path t
one_end n path t = ap values (append-nil (with n (at_end path t))) ∙ values-with n (at_end path t)

turned : (k key : List ℕ) (b : Bool) → bytes_eq k key ≡ b → bytes_eq key k ≡ b
turned k key b e = nat_list_eq_equiv.symm key k ∙ e

-- if one path is wanted, the leaves at it are found
mutual
  found_one : (n : ℕ) (path : List (List ℕ)) (t : Tree) → IsValue t → values (found_in ((n, path) ∷ []) t) ≡ leaves_at path t
  found_one n path null h = one_end n path null
  found_one n path (truth b) h = one_end n path (truth b)
  found_one n path (number spelling) h = one_end n path (number spelling)
  found_one n path (text t) h = one_end n path (text t)
  found_one n path (list items) h = items_one n path items h
  found_one n path (object inside) h = members_one n path inside h

  items_one : (n : ℕ) (path : List (List ℕ)) (items : Items) → AreItems items → values (found_in_items ((n, path) ∷ []) items) ≡ leaves_of_items path items
  items_one n path no_items h = refl
  items_one n path (item t items) h =
      values-append (found_in ((n, path) ∷ []) t) (found_in_items ((n, path) ∷ []) items) ∙ ap₂ ◌++◌ (found_one n path t h.0) (items_one n path items h.1)

  members_one : (n : ℕ) (path : List (List ℕ)) (ms : Members) → AreMembers ms → values (found_in_members ((n, path) ∷ []) ms) ≡ leaves_of_members path ms
  members_one n path no_members h = refl
  members_one n [] (member k t ms) h =
      values-append (found_in [] t) (found_in_members ((n, []) ∷ []) ms)
      ∙ ap₂ ◌++◌ (ap values (found_none t)) (members_one n [] ms h.3 ∙ no_keys ms)
  members_one n (key ∷ path) (member k t ms) h = elim (cases_Bool (bytes_eq k key)) [
    | inl same ↦
        let wanted : below k ((n, key ∷ path) ∷ []) ≡ (n, path) ∷ [] = ap (λ b. cond b ((n, path) ∷ []) [] ++ []) (turned k key true same) in
        let lacks : LacksKey key ms = subst (λ x. LacksKey x ms) ((bytes_eq-Decides k key).0 same) h.1 in
        values-append (found_in (below k ((n, key ∷ path) ∷ [])) t) (found_in_members ((n, key ∷ path) ∷ []) ms)
        ∙ ap₂ ◌++◌ (ap (λ x. values (found_in x t)) wanted ∙ found_one n path t h.2) (members_one n (key ∷ path) ms h.3 ∙ lacks_none key path ms lacks)
        ∙ append-nil (leaves_at path t) ∙ sym (cond-true (bytes_eq k key) (leaves_at path t) (leaves_of_members (key ∷ path) ms) same)
    | inr apart ↦
        let wanted : below k ((n, key ∷ path) ∷ []) ≡ [] = ap (λ b. cond b ((n, path) ∷ []) [] ++ []) (turned k key false apart) in
        values-append (found_in (below k ((n, key ∷ path) ∷ [])) t) (found_in_members ((n, key ∷ path) ∷ []) ms)
        ∙ ap₂ ◌++◌ (ap (λ x. values (found_in x t)) wanted ∙ ap values (found_none t)) (members_one n (key ∷ path) ms h.3)
        ∙ sym (cond-false (bytes_eq k key) (leaves_at path t) (leaves_of_members (key ∷ path) ms) apart)
  ]

only_before : (n m : ℕ) (paths : List (List (List ℕ))) → n < m → only n (enumerate_from m paths) ≡ []
only_before n m [] less = refl
only_before n m (path ∷ paths) less =
    only_other n (m, path) (enumerate_from (m + 1) paths) (ne_eqb m n (λ e. omega arith)) ∙ only_before n (m + 1) paths (omega arith)

only_past : (n m : ℕ) (paths : List (List (List ℕ))) → m + length paths ≤ n → only n (enumerate_from m paths) ≡ []
only_past n m [] past = refl
only_past n m (path ∷ paths) past =
    only_other n (m, path) (enumerate_from (m + 1) paths) (ne_eqb m n (λ e. omega arith)) ∙ only_past n (m + 1) paths (omega arith)

only_at : (n m i : ℕ) (paths : List (List (List ℕ))) (d : List (List ℕ)) → n ≡ m + i → i < length paths
    → only n (enumerate_from m paths) ≡ (n, get_or paths i d) ∷ []
only_at n m i [] d is within = absurd (omega arith)
only_at n m zero (path ∷ paths) d is within =
    let same : m ≡ n = omega arith in
    only_here n (m, path) (enumerate_from (m + 1) paths) (eq-eqb m n same)
    ∙ ap₂ (λ x r. (x, path) ∷ r) same (only_before n (m + 1) paths (omega arith))
only_at n m (suc i) (path ∷ paths) d is within =
    only_other n (m, path) (enumerate_from (m + 1) paths) (ne_eqb m n (λ e. omega arith)) ∙ only_at n (m + 1) i paths d (omega arith) (omega arith)

-- the leaves found at the path with a number
pub found_numbered : (paths : List (List (List ℕ))) (t : Tree) (n : ℕ) (d : List (List ℕ)) → IsValue t → n < length paths
    → numbered n (found_in (enumerate_from 0 paths) t) ≡ leaves_at (get_or paths n d) t
found_numbered paths t n d value within =
    found_only n (enumerate_from 0 paths) t ∙ ap (λ x. values (found_in x t)) (only_at n 0 n paths d (omega arith) within)
    ∙ found_one n (get_or paths n d) t value

both_numbered : (paths : List (List (List ℕ))) (t : Tree) (n : ℕ) → IsValue t
    → numbered n (found_in (enumerate_from 0 paths) t) ≡ numbered n (leaves_of paths t)
both_numbered paths t n value = ⊎_elim
    (λ within. found_numbered paths t n [] value within ∙ sym (
    parts_numbered (λ w. leaves_at w.1 t) n (enumerate_from 0 paths)
    ∙ ap (λ x. values (flat_map (leaves_with t) x)) (only_at n 0 n paths [] (omega arith) within)
    ∙ ap values (append-nil (with n (leaves_at (get_or paths n []) t))) ∙ values-with n (leaves_at (get_or paths n []) t)))
    (λ past.
    let none : only n (enumerate_from 0 paths) ≡ [] = only_past n 0 paths (omega arith) in
    found_only n (enumerate_from 0 paths) t ∙ ap (λ x. values (found_in x t)) none ∙ ap values (found_none t)
    ∙ sym (parts_numbered (λ w. leaves_at w.1 t) n (enumerate_from 0 paths) ∙ ap (λ x. values (flat_map (leaves_with t) x)) none))
    (Rattle.std.proofs.lemmas.Bool.cases_lt n (length paths))

abbrev pub number_of : ℕ × Tree → ℕ
number_of leaf = leaf.0

-- leaves with one number before leaves with greater ones rise
rises_with : (m : ℕ) (ls : List Tree) (rest : List (ℕ × Tree)) → AllByRecursion (λ leaf. m ≤ leaf.0) rest → Rises number_of rest
    → AllByRecursion (λ leaf. m ≤ leaf.0) (with m ls ++ rest) × Rises number_of (with m ls ++ rest)
rises_with m [] rest all up = (all, up)
rises_with m (l ∷ ls) rest all up = let h = rises_with m ls rest all up in ((omega arith, h.0), (h.0, h.1))

rises_leaves : (t : Tree) (m : ℕ) (paths : List (List (List ℕ)))
    → AllByRecursion (λ leaf. m ≤ leaf.0) (flat_map (leaves_with t) (enumerate_from m paths)) × Rises number_of (flat_map (leaves_with t) (enumerate_from m paths))
rises_leaves t m [] = (tt, tt)
rises_leaves t m (path ∷ paths) =
    let h = rises_leaves t (m + 1) paths in
    rises_with m (leaves_at path t) (flat_map (leaves_with t) (enumerate_from (m + 1) paths))
    (all_weaker (λ leaf. m + 1 ≤ leaf.0) (λ leaf. m ≤ leaf.0) (λ leaf le. omega arith) _ h.0) h.1

none_numbered : (n : ℕ) (leaves : List (ℕ × Tree)) → AllByRecursion (λ leaf. n < leaf.0) leaves → numbered n leaves ≡ []
none_numbered n [] all = refl
none_numbered n (leaf ∷ leaves) all =
    numbered_other n leaf leaves (ne_eqb leaf.0 n (λ e. omega (arith, all.0))) ∙ none_numbered n leaves all.1

less_first : (x y : ℕ × Tree) (xs ys : List (ℕ × Tree)) → Rises number_of (y ∷ ys) → x.0 < y.0 → numbered x.0 (x ∷ xs) ≡ numbered x.0 (y ∷ ys) → ⊥
less_first x y xs ys up less e =
    let first = numbered_here x.0 x xs (eq-eqb x.0 x.0 refl) in
    let second : numbered x.0 (y ∷ ys) ≡ [] =
    none_numbered x.0 (y ∷ ys) (less, all_weaker (λ leaf. y.0 ≤ leaf.0) (λ leaf. x.0 < leaf.0) (λ leaf le. omega (arith, le, less)) ys up.0) in
    let never : x.1 ∷ numbered x.0 xs ≡ [] = sym first ∙ e ∙ second in cc

-- lists that rise by number are equal if they have the same leaves of each number
pub same_by_number : (xs ys : List (ℕ × Tree)) → Rises number_of xs → Rises number_of ys → ((n : ℕ) → numbered n xs ≡ numbered n ys) → xs ≡ ys
same_by_number [] [] first second h = refl
same_by_number [] (y ∷ ys) first second h =
    let e : [] ≡ y.1 ∷ numbered y.0 ys = h y.0 ∙ numbered_here y.0 y ys (eq-eqb y.0 y.0 refl) in cc
same_by_number (x ∷ xs) [] first second h =
    let e : x.1 ∷ numbered x.0 xs ≡ [] = sym (numbered_here x.0 x xs (eq-eqb x.0 x.0 refl)) ∙ h x.0 in cc
same_by_number (x ∷ xs) (y ∷ ys) first second h = ⊎_elim
    (λ same.
    let here : x.1 ∷ numbered x.0 xs ≡ y.1 ∷ numbered x.0 ys =
    sym (numbered_here x.0 x xs (eq-eqb x.0 x.0 refl)) ∙ h x.0 ∙ numbered_here x.0 y ys (eq-eqb y.0 x.0 (sym same)) in
    let value : x.1 ≡ y.1 = cc in
    let rest : numbered x.0 xs ≡ numbered x.0 ys = cc in
    ap₂ (λ a r. a ∷ r) (ap₂ (λ a b. (a, b)) same value) (same_by_number xs ys first.1 second.1 (λ n. elim (cases_Bool (x.0 == n)) [
      | inl e ↦ subst (λ k. numbered k xs ≡ numbered k ys) (eqb-true x.0 n e) rest
      | inr e ↦ sym (numbered_other n x xs e) ∙ h n ∙ numbered_other n y ys (subst (λ k. (k == n) ≡ false) same e)
    ])))
    (λ apart. ⊎_elim (λ less. absurd (less_first x y xs ys second less (h x.0))) (λ less. absurd (less_first y x ys xs first less (sym (h y.0)))) apart)
    (cases_order x.0 y.0)

-- leaves that rise by number, of which those of each number are the ones found, are the leaves of the paths
pub by_path_is : (paths : List (List (List ℕ))) (t : Tree) (leaves : List (ℕ × Tree)) → IsValue t → Rises number_of leaves
    → ((n : ℕ) → numbered n leaves ≡ numbered n (found_in (enumerate_from 0 paths) t)) → leaves ≡ leaves_of paths t
by_path_is paths t leaves value up h =
    same_by_number leaves (leaves_of paths t) up (rises_leaves t 0 paths).1 (λ n. h n ∙ both_numbered paths t n value)
