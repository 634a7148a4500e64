-- The tree over the ranges: what its nodes enclose, which leaves are under a node, and what a walk
-- adds. `adds_hits` is what the walk from the root means for the list that was given.
use Rattle.std.proofs.Common.{◌≡◌, ◌≢◌, ℕ, zero, suc, ◌+◌, ◌-◌, ◌*◌, ◌/◌, ◌%◌, ◌<◌, ◌≤◌, Bool, true, false, List, length, get_or, refl, sym}
use Rattle.std.proofs.Common.{◌∙◌, arith, ⊎_elim, ◌⊎◌, inl, inr}
use Rattle.std.specs.Prelude.{ℤ, ◌≤ℤ◌, IsTrue, nat_lt}
use Rattle.std.proofs.Math.ListN.{set}
use Rattle.std.proofs.lemmas.Bool.{cases_eq}
use Rattle.std.proofs.lemmas.Bool.Decides.{nat_tests}
use Rattle.std.proofs.lemmas.Int.{ints}
use Rattle.std.proofs.lemmas.List.{get_or-set_same, get_or-set_other, length-set, get_or_default}
use Rattle.std.proofs.lemmas.List.Sorted.{Contains-permutation, IsPermutation-sym}
use Rattle.std.specs.List.{Any, Contains}
use Rattle.std.specs.List.Sorted.{IsPermutation}
use Rattle.numeric_keys.specs.Ranges.{Hits, AddsHits}
use Rattle.numeric_keys.specs.RangeTree.{no_range, no_span, span_of, node_span, Encloses, EnclosesFrom, IsTree, IsUnder, here, left, right, HitUnder, AddsUnder}
use Rattle.numeric_keys.specs.declared.ranges.Span.{Span}

-- ---- spans

Encloses-refl : (s : Span) → Encloses s s
Encloses-refl s = record { low = omega (arith, ints); high = omega (arith, ints) }

Encloses-trans : (a b c : Span) → Encloses a b → Encloses b c → Encloses a c
Encloses-trans a b c p q =
    record { low = omega (arith, ints, p.low, q.low); high = omega (arith, ints, p.high, q.high) }

node_span-set_other : (ranges : List (ℤ × ℤ × ℕ)) (spans : List Span) (i j : ℕ) (s : Span) →
    j ≢ i → node_span ranges (set spans i s) j ≡ node_span ranges spans j
node_span-set_other ranges spans i j s other = rw (get_or-set_other spans i j s no_span other) refl

node_span-set_same : (ranges : List (ℤ × ℤ × ℕ)) (spans : List Span) (i : ℕ) (s : Span) →
    i < length ranges → i < length spans → node_span ranges (set spans i s) i ≡ s
node_span-set_same ranges spans i s within inside =
    let inner : nat_lt i (length ranges) ≡ true = grind (arith, nat_tests) in
    rw (inner, get_or-set_same spans i s no_span inside) refl

-- a node more has its span
pub enclosed_more : (ranges : List (ℤ × ℤ × ℕ)) (spans : List Span) (i : ℕ) (s : Span) → 1 ≤ i →
    i < length ranges → length spans ≡ length ranges →
    EnclosesFrom ranges spans (i + 1) → Encloses s (node_span ranges spans (2 * i)) →
    Encloses s (node_span ranges spans (2 * i + 1)) →
    EnclosesFrom ranges (set spans i s) i
enclosed_more ranges spans i s root within nodes later first second node from inner =
    ⊎_elim this_node other_node (cases_eq node i)
  where
    this_node : node ≡ i →
        Encloses (node_span ranges (set spans i s) node)
        (node_span ranges (set spans i s) (2 * node)) ×
        Encloses (node_span ranges (set spans i s) node)
        (node_span ranges (set spans i s) (2 * node + 1))
    this_node e =
        rw (
          e,
          node_span-set_same ranges spans i s within (omega arith),
          node_span-set_other ranges spans i (2 * i) s (omega arith),
          node_span-set_other ranges spans i (2 * i + 1) s (omega arith),
        )
        (first, second)

    other_node : node ≢ i →
        Encloses (node_span ranges (set spans i s) node)
        (node_span ranges (set spans i s) (2 * node)) ×
        Encloses (node_span ranges (set spans i s) node)
        (node_span ranges (set spans i s) (2 * node + 1))
    other_node other =
        rw (
          node_span-set_other ranges spans i node s other,
          node_span-set_other ranges spans i (2 * node) s (omega arith),
          node_span-set_other ranges spans i (2 * node + 1) s (omega arith),
        )
        (later node (omega arith) inner)

-- ---- what lies under a node

under_le : {node below : ℕ} → IsUnder node below → node ≤ below
under_le here = omega arith
under_le (left u) = omega (arith, under_le u)
under_le (right u) = omega (arith, under_le u)

under_child : {node below : ℕ} (child : ℕ) → IsUnder node below → (child ≡ 2 * below) ⊎
    (child ≡ 2 * below + 1) → IsUnder node child
under_child child here e = ⊎_elim (λ even. left (rw even here)) (λ odd. right (rw odd here)) e
under_child child (left u) e = left (under_child child u e)
under_child child (right u) e = right (under_child child u e)

under_root : (fuel node : ℕ) → 1 ≤ node → node ≤ fuel → IsUnder 1 node
under_root zero node some within = absurd (omega arith)
under_root (suc fuel) node some within =
    ⊎_elim (λ e. rw e here)
    (λ other. under_child node
    (under_root fuel (node / 2) (half other some) (below other some within)) (parity node))
    (cases_eq node 1)
  where
    half : {node : ℕ} → node ≢ 1 → 1 ≤ node → 1 ≤ node / 2
    half other some = omega arith

    below : {node fuel : ℕ} → node ≢ 1 → 1 ≤ node → node ≤ suc fuel → node / 2 ≤ fuel
    below other some within = omega arith

    parity : (node : ℕ) → (node ≡ 2 * (node / 2)) ⊎ (node ≡ 2 * (node / 2) + 1)
    parity node = ⊎_elim (λ even. inl (omega arith)) (λ odd. inr (omega arith))
        (cases_eq (node % 2) 0)

-- only a leaf itself lies under it
leaf_alone : {node below : ℕ} (n : ℕ) → n ≤ node → below < 2 * n → IsUnder node below → below ≡ node
leaf_alone n leaf within here = refl
leaf_alone n leaf within (left u) = absurd (omega (arith, under_le u))
leaf_alone n leaf within (right u) = absurd (omega (arith, under_le u))

encloses_under : {node below : ℕ} (ranges : List (ℤ × ℤ × ℕ)) (spans : List Span) →
    IsTree ranges spans → 1 ≤ node → below < 2 * length ranges → IsUnder node below →
    Encloses (node_span ranges spans node) (node_span ranges spans below)
encloses_under {node} ranges spans tree root within here =
    Encloses-refl (node_span ranges spans node)
encloses_under {node} {below} ranges spans tree root within (left u) =
    Encloses-trans (node_span ranges spans node) (node_span ranges spans (2 * node))
    (node_span ranges spans below)
    (tree.enclosed node root (omega (arith, under_le u))).0
    (encloses_under ranges spans tree (omega arith) within u)
encloses_under {node} {below} ranges spans tree root within (right u) =
    Encloses-trans (node_span ranges spans node) (node_span ranges spans (2 * node + 1))
    (node_span ranges spans below)
    (tree.enclosed node root (omega (arith, under_le u))).1
    (encloses_under ranges spans tree (omega arith) within u)

leaf_span : (ranges : List (ℤ × ℤ × ℕ)) (spans : List Span) (place : ℕ) →
    node_span ranges spans (length ranges + place) ≡ span_of (get_or ranges place no_range)
leaf_span ranges spans place =
    let leaf : nat_lt (length ranges + place) (length ranges) ≡ false = grind (arith, nat_tests) in
    let back : length ranges + place - length ranges ≡ place = omega arith in
    rw (leaf, back) refl

-- if a leaf under the node is hit, the value is in the node's span
hit_in_span : (ranges : List (ℤ × ℤ × ℕ)) (spans : List Span) (node : ℕ) (value : ℤ) (mark : ℕ) →
    IsTree ranges spans → 1 ≤ node →
    HitUnder ranges node value mark → ((node_span ranges spans node).least ≤ℤ value) ×
    (value ≤ℤ (node_span ranges spans node).greatest)
hit_in_span ranges spans node value mark tree root h =
    let encloses : Encloses (node_span ranges spans node)
    (span_of (get_or ranges h.place no_range)) =
    rw (leaf_span ranges spans h.place) at
    (encloses_under ranges spans tree root (omega (arith, h.within)) h.under) in
    (omega (arith, ints, encloses.low, h.hit), omega (arith, ints, encloses.high, h.hit))

-- the same at an inner node, by the span that is stored for it
pub hit_in_inner_span : (ranges : List (ℤ × ℤ × ℕ)) (spans : List Span) (node : ℕ) (value : ℤ)
    (mark : ℕ) → IsTree ranges spans → 1 ≤ node → node < length ranges →
    HitUnder ranges node value mark → ((get_or spans node no_span).least ≤ℤ value) ×
    (value ≤ℤ (get_or spans node no_span).greatest)
hit_in_inner_span ranges spans node value mark tree root within h =
    let inner : nat_lt node (length ranges) ≡ true = grind (arith, nat_tests) in
    let stored : node_span ranges spans node ≡ get_or spans node no_span = rw inner refl in
    rw stored at (hit_in_span ranges spans node value mark tree root h)

-- ---- what a walk adds

pub adds_none : (ranges : List (ℤ × ℤ × ℕ)) (node : ℕ) (value : ℤ) (marks : List Bool) →
    ((mark : ℕ) → HitUnder ranges node value mark → ⊥) → AddsUnder ranges node value marks marks
adds_none ranges node value marks none = record {
  same_places = refl;
  marked = λ place. (
    λ before. inl before,
    λ either. ⊎_elim (λ before. before) (λ h. absurd (none place h)) either,
  );
}

-- at an inner node, what its two children add
pub adds_both : (ranges : List (ℤ × ℤ × ℕ)) (node : ℕ) (value : ℤ) (old mid new : List Bool) →
    node < length ranges →
    AddsUnder ranges (2 * node) value old mid → AddsUnder ranges (2 * node + 1) value mid new →
    AddsUnder ranges node value old new
adds_both ranges node value old mid new inner first second = record {
  same_places = second.same_places ∙ first.same_places;
  marked = λ place. (there place, back place);
}
  where
    there : (place : ℕ) → IsTrue (get_or new place false) → IsTrue (get_or old place false) ⊎
        HitUnder ranges node value place
    there place after = ⊎_elim
        (λ between. ⊎_elim (λ before. inl before)
        (λ h. inr (record {
          place = h.place;
          within = h.within;
          under = left h.under;
          hit =
              h.hit;
        })) ((first.marked place).0 between))
        (λ h. inr (record {
          place = h.place;
          within = h.within;
          under = right h.under;
          hit =
              h.hit;
        }))
        ((second.marked place).0 after)

    back : (place : ℕ) → IsTrue (get_or old place false) ⊎ HitUnder ranges node value place →
        IsTrue (get_or new place false)
    back place either = ⊎_elim
        (λ before. (second.marked place).1 (inl ((first.marked place).1 (inl before))))
        (λ h. from_leaf place h (length ranges + h.place) refl h.under)
        either
      where
        from_leaf : (place : ℕ) (h : HitUnder ranges node value place) (leaf : ℕ) →
            leaf ≡ length ranges + h.place → IsUnder node leaf → IsTrue (get_or new place false)
        from_leaf place h leaf e here = absurd (omega arith)
        from_leaf place h leaf e (left u) =
            (second.marked place).1
            (inl ((first.marked place).1
            (inr (record {
              place = h.place;
              within = h.within;
              under = rw e at u;
              hit =
                  h.hit;
            }))))
        from_leaf place h leaf e (right u) =
            (second.marked place).1
            (inr (record {
              place = h.place;
              within = h.within;
              under = rw e at u;
              hit =
                  h.hit;
            }))

-- only the leaf's own range is hit under it
hit_of_leaf : (ranges : List (ℤ × ℤ × ℕ)) (node : ℕ) (value : ℤ) (mark : ℕ) →
    length ranges ≤ node → HitUnder ranges node value mark →
    Hits value mark (get_or ranges (node - length ranges) no_range)
hit_of_leaf ranges node value mark leaf h =
    let same : length ranges + h.place ≡ node =
    leaf_alone (length ranges) leaf (omega (arith, h.within)) h.under in
    let place : node - length ranges ≡ h.place = omega arith in
    rw place h.hit

pub leaf_missed : (ranges : List (ℤ × ℤ × ℕ)) (node : ℕ) (value : ℤ) (marks : List Bool) →
    length ranges ≤ node →
    (((get_or ranges (node - length ranges) no_range).0 ≤ℤ value) ×
    (value ≤ℤ (get_or ranges (node - length ranges) no_range).1) → ⊥) →
    AddsUnder ranges node value marks marks
leaf_missed ranges node value marks leaf missed =
    adds_none ranges node value marks (λ mark h. let hit =
    hit_of_leaf ranges node value mark leaf h in missed (hit.1, hit.2))

pub leaf_hit : (ranges : List (ℤ × ℤ × ℕ)) (node : ℕ) (value : ℤ) (marks : List Bool) (range : ℤ ×
    ℤ × ℕ) → length ranges ≤ node → node < 2 * length ranges →
    range ≡ get_or ranges (node - length ranges) no_range → range.2 < length marks →
    range.0 ≤ℤ value → value ≤ℤ range.1 →
    AddsUnder ranges node value marks (set marks range.2 true)
leaf_hit ranges node value marks range leaf within is room low high = record {
  same_places = length-set marks range.2 true;
  marked = λ place. (there place, back place);
}
  where
    there : (place : ℕ) → IsTrue (get_or (set marks range.2 true) place false) →
        IsTrue (get_or marks place false) ⊎ HitUnder ranges node value place
    there place after = ⊎_elim
        (λ same. inr (record {
          place = node - length ranges;
          within = omega arith;
          under = let sum : length ranges + (node - length ranges) ≡ node = omega arith in
              rw sum here;
          hit = rw (← is) (sym same, low, high);
        }))
        (λ other. inl (rw (get_or-set_other marks range.2 place true false other) at after))
        (cases_eq place range.2)

    back : (place : ℕ) → IsTrue (get_or marks place false) ⊎ HitUnder ranges node value place →
        IsTrue (get_or (set marks range.2 true) place false)
    back place either = ⊎_elim
        (λ same. rw same (get_or-set_same marks range.2 true false room))
        (λ other. ⊎_elim
        (λ before. rw (get_or-set_other marks range.2 place true false other) before)
        (λ h. absurd (other (sym (rw (← is) at (hit_of_leaf ranges node value place leaf h)).0)))
        either)
        (cases_eq place range.2)

-- ---- the list that was given

any_permuted : {X : Type 0} (P : X → Type 0) (xs ys : List X) → IsPermutation xs ys → Any P xs →
    Any P ys
any_permuted P xs ys permutation some =
    let x = some.1 in
    let contains : Contains ys x =
    Contains-permutation xs ys x permutation (some.0, some.2, some.3) in
    (contains.0, x, contains.1, contains.2, some.4)

any_from_tree : (ranges : List (ℤ × ℤ × ℕ)) (value : ℤ) (mark : ℕ) → HitUnder ranges 1 value mark →
    Any (Hits value mark) ranges
any_from_tree ranges value mark h = (
  h.place,
  get_or ranges h.place no_range,
  h.within,
  get_or_default ranges h.place _ no_range h.within,
  h.hit,
)

tree_from_any : (ranges : List (ℤ × ℤ × ℕ)) (value : ℤ) (mark : ℕ) → Any (Hits value mark) ranges →
    HitUnder ranges 1 value mark
tree_from_any ranges value mark some = record {
  place = some.0;
  within = some.2;
  under = under_root (length ranges + some.0) (length ranges + some.0) (omega (arith, some.2))
      (omega arith);
  hit = rw (get_or_default ranges some.0 no_range some.1 some.2, some.3) some.4;
}

pub adds_hits : (given ranges : List (ℤ × ℤ × ℕ)) (value : ℤ) (old new : List Bool) →
    IsPermutation given ranges → AddsUnder ranges 1 value old new → AddsHits given value old new
adds_hits given ranges value old new permutation adds = record {
  same_places = adds.same_places;
  marked = λ place. (there place, back place);
}
  where
    there : (place : ℕ) → IsTrue (get_or new place false) → IsTrue (get_or old place false) ⊎
        Any (Hits value place) given
    there place after = ⊎_elim (λ before. inl before)
        (λ h. inr (any_permuted (Hits value place) ranges given
        (IsPermutation-sym given ranges permutation) (any_from_tree ranges value place h)))
        ((adds.marked place).0 after)

    back : (place : ℕ) → IsTrue (get_or old place false) ⊎ Any (Hits value place) given →
        IsTrue (get_or new place false)
    back place either = (adds.marked place).1 (⊎_elim (λ before. inl before)
        (λ some. inr (tree_from_any ranges value place
        (any_permuted (Hits value place) given ranges permutation some))) either)

pub adds_no_hits : (given ranges : List (ℤ × ℤ × ℕ)) (value : ℤ) (marks : List Bool) →
    IsPermutation given ranges → length ranges ≡ 0 → AddsHits given value marks marks
adds_no_hits given ranges value marks permutation empty =
    adds_hits given ranges value marks marks permutation
    (adds_none ranges 1 value marks (λ mark h. absurd (omega (arith, h.within))))
