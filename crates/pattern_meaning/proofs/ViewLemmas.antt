-- Views of values that are no lists: each member's value has its own views (`member_seen`, `member_given`), and views that satisfy the members
-- one by one make a view that satisfies them all (`node_joined`). Every value with a view has one: `view_there`, `views_there`.
use Rattle.std.proofs.Common.{◌≡◌, ◌≢◌, ℕ, Bool, true, false, ◌||◌, List, [], Option, Some, None, ◌⊎◌, inl, inr, refl, sym, ap, ◌∙◌, subst}
use Rattle.std.proofs.Common.{unwrap_or}
use Rattle.std.specs.Str.{bytes_eq}
use Rattle.std.proofs.lemmas.Bool.{cases_Bool, cond-true, cond-false}
use Rattle.std.proofs.lemmas.Slice.Eq.{bytes_eq-Decides}
use Rattle.json_text.specs.Tree.{Tree, null, truth, number, text, list, object, Items, no_items, item, Members, no_members, member}
use Rattle.json_text.specs.Compact.{AreMembers, LacksKey}
use Rattle.json_text.specs.Access.{member_in}
use Rattle.pattern_meaning.specs.View.{has_view, some_has_view, IsView, IsViewOfItem, AreViews, leaf_at}
use Rattle.pattern_meaning.specs.Meets.{nothing, value_at, IsNoList, IsNode, with_view, seen_member, OnSome}

pub or_parts : (a b : Bool) → (a || b) ≡ true → (a ≡ true) ⊎ (b ≡ true)
or_parts true b h = inl refl
or_parts false b h = inr h

pub differ : (a b : List ℕ) → a ≢ b → bytes_eq a b ≡ false
differ a b apart = elim (cases_Bool (bytes_eq a b)) [
  | inl e ↦ absurd (apart ((bytes_eq-Decides a b).0 e))
  | inr e ↦ e
]

pub apart_keys : (a b : List ℕ) → bytes_eq a b ≡ false → a ≢ b
apart_keys a b h e = let same : bytes_eq a b ≡ true = (bytes_eq-Decides a b).1 e in cc

pub or_none : (a b : Bool) → (a || b) ≡ false → (a ≡ false) × (b ≡ false)
or_none true b h = cc
or_none false b h = (refl, h)

one_there : (k : List ℕ) (t : Tree) (ms : Members) → (has_view t ≡ true → (v : Tree) × IsView t v) → ((seen : Members) × AreViews ms seen)
    → (seen : Members) × AreViews (member k t ms) seen
one_there k t ms view rest = elim (cases_Bool (has_view t)) [
  | inl there ↦ let r = view there in (member k r.0 rest.0, inl (r.0, rest.0, refl, r.1, rest.1))
  | inr none ↦ (rest.0, inr (none, rest.1))
]

mutual
  pub view_there : (t : Tree) → has_view t ≡ true → (v : Tree) × IsView t v
  view_there null h = (null, refl)
  view_there (truth b) h = (truth b, refl)
  view_there (number spelling) h = (number spelling, refl)
  view_there (text t) h = (text t, refl)
  view_there (list items) h = item_there items h
  view_there (object ms) h = let s = views_there ms in (object s.0, (s.0, refl, s.1))

  item_there : (items : Items) → some_has_view items ≡ true → (v : Tree) × IsViewOfItem items v
  item_there no_items h = cc
  item_there (item t items) h = elim (or_parts (has_view t) (some_has_view items) h) [
    | inl here ↦ let r = view_there t here in (r.0, inl r.1)
    | inr more ↦ let r = item_there items more in (r.0, inr r.1)
  ]

  pub views_there : (ms : Members) → (seen : Members) × AreViews ms seen
  views_there no_members = (no_members, refl)
  views_there (member k t ms) = one_there k t ms (view_there t) (views_there ms)

mutual
  no_view : (t v : Tree) → has_view t ≡ false → IsView t v → ⊥
  no_view null v h view = cc
  no_view (truth b) v h view = cc
  no_view (number spelling) v h view = cc
  no_view (text t) v h view = cc
  no_view (list items) v h view = no_item_view items v h view
  no_view (object ms) v h view = cc

  no_item_view : (items : Items) (v : Tree) → some_has_view items ≡ false → IsViewOfItem items v → ⊥
  no_item_view no_items v h view = view
  no_item_view (item t items) v h view = elim view [
    | inl here ↦ no_view t v (or_none (has_view t) (some_has_view items) h).0 here
    | inr more ↦ no_item_view items v (or_none (has_view t) (some_has_view items) h).1 more
  ]

pub leaf_same : (t v : Tree) → IsNoList t → IsView t v → leaf_at [] v ≡ leaf_at [] t
leaf_same null v is view = ap (leaf_at []) view
leaf_same (truth b) v is view = ap (leaf_at []) view
leaf_same (number spelling) v is view = ap (leaf_at []) view
leaf_same (text t) v is view = ap (leaf_at []) view
leaf_same (list items) v is view = absurd is
leaf_same (object ms) v is view = ap (leaf_at []) view.1

-- what a view shows of a member: a view of its value, or nothing
abbrev pub IsSeen : Option Tree → Tree → Type 0
IsSeen None x = x ≡ nothing
IsSeen (Some t) x = IsView t x

abbrev value_in : List ℕ → Members → Tree
value_in key seen = unwrap_or (member_in key seen) nothing

-- a key that no member has, no view of them has
lacks_seen : (k : List ℕ) (ms seen : Members) → LacksKey k ms → AreViews ms seen → member_in k seen ≡ None
lacks_seen k no_members seen lacks views = ap (member_in k) views
lacks_seen k (member other t ms) seen lacks views = elim views [
  | inl r ↦ ap (member_in k) r.2 ∙ cond-false (bytes_eq other k) (Some r.0) (member_in k r.1) (differ other k (λ e. lacks.0 (sym e)))
      ∙ lacks_seen k ms r.1 lacks.1 r.4
  | inr r ↦ lacks_seen k ms seen lacks.1 r.1
]

-- the value of a member with the key, in a list of members that begins with it or with another
first_value : (key k : List ℕ) (v : Tree) (rest : Members) → bytes_eq k key ≡ true → value_in key (member k v rest) ≡ v
first_value key k v rest same = ap (λ o. unwrap_or o nothing) (cond-true (bytes_eq k key) (Some v) (member_in key rest) same)

later_value : (key k : List ℕ) (v : Tree) (rest : Members) → bytes_eq k key ≡ false → value_in key (member k v rest) ≡ value_in key rest
later_value key k v rest other = ap (λ o. unwrap_or o nothing) (cond-false (bytes_eq k key) (Some v) (member_in key rest) other)

with_key : (key k : List ℕ) (t : Tree) (ms : Members) → bytes_eq k key ≡ true → with_view (member_in key (member k t ms)) ≡ with_view (Some t)
with_key key k t ms same = ap with_view (cond-true (bytes_eq k key) (Some t) (member_in key ms) same)

without_key : (key k : List ℕ) (t : Tree) (ms : Members) → bytes_eq k key ≡ false
    → with_view (member_in key (member k t ms)) ≡ with_view (member_in key ms)
without_key key k t ms other = ap with_view (cond-false (bytes_eq k key) (Some t) (member_in key ms) other)

viewed : (t v : Tree) → IsView t v → with_view (Some t) ≡ Some t
viewed t v view = elim (cases_Bool (has_view t)) [
  | inl there ↦ cond-true (has_view t) (Some t) None there
  | inr none ↦ absurd (no_view t v none view)
]

unviewed : (t : Tree) → has_view t ≡ false → with_view (Some t) ≡ None
unviewed t none = cond-false (has_view t) (Some t) None none

members_seen : (key : List ℕ) (ms seen : Members) → AreMembers ms → AreViews ms seen → IsSeen (with_view (member_in key ms)) (value_in key seen)
members_seen key no_members seen is views = ap (value_in key) views
members_seen key (member k t ms) seen is views = elim (cases_Bool (bytes_eq k key)) [
  | inl same ↦ subst (λ o. IsSeen o (value_in key seen)) (sym (with_key key k t ms same)) (elim views [
    | inl r ↦ subst (λ o. IsSeen o (value_in key seen)) (sym (viewed t r.0 r.3))
        (subst (IsView t) (sym (ap (value_in key) r.2 ∙ first_value key k r.0 r.1 same)) r.3)
    | inr r ↦ subst (λ o. IsSeen o (value_in key seen)) (sym (unviewed t r.0))
        (ap (λ o. unwrap_or o nothing) (lacks_seen key ms seen (subst (λ x. LacksKey x ms) ((bytes_eq-Decides k key).0 same) is.1) r.1))
  ])
  | inr other ↦ subst (λ o. IsSeen o (value_in key seen)) (sym (without_key key k t ms other)) (elim views [
    | inl r ↦ subst (IsSeen (with_view (member_in key ms))) (sym (ap (value_in key) r.2 ∙ later_value key k r.0 r.1 other))
        (members_seen key ms r.1 is.3 r.4)
    | inr r ↦ members_seen key ms seen is.3 r.1
  ])
]

-- views of members, one of which shows the value wanted
abbrev Shows : List ℕ → Members → Tree → Type 0
Shows key ms w = (seen : Members) × AreViews ms seen × (value_in key seen ≡ w)

first_given : (key k : List ℕ) (t : Tree) (ms : Members) (w : Tree) → bytes_eq k key ≡ true → LacksKey key ms
    → IsSeen (with_view (Some t)) w → Shows key (member k t ms) w
first_given key k t ms w same lacks h = elim (cases_Bool (has_view t)) [
  | inl there ↦
      let rest = views_there ms in
      let view = subst (λ o. IsSeen o w) (cond-true (has_view t) (Some t) None there) h in
      (member k w rest.0, inl (w, rest.0, refl, view, rest.1), first_value key k w rest.0 same)
  | inr none ↦
      let rest = views_there ms in
      let is : w ≡ nothing = subst (λ o. IsSeen o w) (unviewed t none) h in
      (rest.0, inr (none, rest.1), ap (λ o. unwrap_or o nothing) (lacks_seen key ms rest.0 lacks rest.1) ∙ sym is)
]

members_given : (key : List ℕ) (ms : Members) (w : Tree) → AreMembers ms → IsSeen (with_view (member_in key ms)) w → Shows key ms w
members_given key no_members w is h = (no_members, refl, sym h)
members_given key (member k t ms) w is h = elim (cases_Bool (bytes_eq k key)) [
  | inl same ↦ first_given key k t ms w same (subst (λ x. LacksKey x ms) ((bytes_eq-Decides k key).0 same) is.1)
      (subst (λ o. IsSeen o w) (with_key key k t ms same) h)
  | inr other ↦
      let rest = members_given key ms w is.3 (subst (λ o. IsSeen o w) (without_key key k t ms other) h) in
      elim (cases_Bool (has_view t)) [
        | inl there ↦ let v = view_there t there in (member k v.0 rest.0, inl (v.0, rest.0, refl, v.1, rest.1), later_value key k v.0 rest.0 other ∙ rest.2)
        | inr none ↦ (rest.0, inr (none, rest.1), rest.2)
      ]
]

-- of each key some views satisfy what is asked of its value: then some views satisfy all
abbrev Joins : Members → (List ℕ → Tree → Type 0) → Type 0
Joins ms asked = (seen : Members) × AreViews ms seen × ((q : List ℕ) → asked q (value_in q seen))

abbrev Parts : Members → (List ℕ → Tree → Type 0) → Type 0
Parts ms asked = (q : List ℕ) → (seen : Members) × AreViews ms seen × asked q (value_in q seen)

-- nothing is asked of the key any more
abbrev Others : List ℕ → (List ℕ → Tree → Type 0) → List ℕ → Tree → Type 0
Others k asked q x = (bytes_eq k q ≡ true) ⊎ asked q x

-- the rest of the views of a list of members, for all keys but the first
rest_parts : (k : List ℕ) (t : Tree) (ms : Members) (asked : List ℕ → Tree → Type 0) → Parts (member k t ms) asked → Parts ms (Others k asked)
rest_parts k t ms asked h q = elim (cases_Bool (bytes_eq k q)) [
  | inl same ↦ let rest = views_there ms in (rest.0, rest.1, inl same)
  | inr other ↦ let r = h q in elim r.1 [
    | inl s ↦ (s.1, s.4, inr (subst (asked q) (ap (value_in q) s.2 ∙ later_value q k s.0 s.1 other) r.2))
    | inr s ↦ (r.0, s.1, inr r.2)
  ]
]

first_joined : (k : List ℕ) (t v : Tree) (ms : Members) (asked : List ℕ → Tree → Type 0) → IsView t v → asked k v
    → Joins ms (Others k asked) → Joins (member k t ms) asked
first_joined k t v ms asked view here rest = (member k v rest.0, inl (v, rest.0, refl, view, rest.1), each)
  where
    each : (q : List ℕ) → asked q (value_in q (member k v rest.0))
    each q = elim (cases_Bool (bytes_eq k q)) [
      | inl same ↦ subst (asked q) (sym (first_value q k v rest.0 same)) (subst (λ x. asked x v) ((bytes_eq-Decides k q).0 same) here)
      | inr other ↦ subst (asked q) (sym (later_value q k v rest.0 other)) (elim (rest.2 q) [
        | inl same ↦ cc
        | inr is ↦ is
      ])
    ]

members_joined : (ms : Members) (asked : List ℕ → Tree → Type 0) → Parts ms asked → Joins ms asked
members_joined no_members asked h = (no_members, refl, λ q. subst (λ s. asked q (value_in q s)) (h q).1 (h q).2)
members_joined (member k t ms) asked h = let r = h k in elim r.1 [
  | inl s ↦ first_joined k t s.0 ms asked s.3
      (subst (asked k) (ap (value_in k) s.2 ∙ first_value k k s.0 s.1 ((bytes_eq-Decides k k).1 refl)) r.2)
      (members_joined ms (Others k asked) (rest_parts k t ms asked h))
  | inr s ↦ let rest = members_joined ms asked (λ q. elim (h q).1 [
    | inl u ↦ absurd (no_view t u.0 s.0 u.3)
    | inr u ↦ ((h q).0, u.1, (h q).2)
  ]) in (rest.0, inr (s.0, rest.1), rest.2)
]

-- the same of a value that is no list

pub member_seen : (key : List ℕ) (t v : Tree) → IsNode t → IsView t v → IsSeen (seen_member key t) (value_at key v)
member_seen key null v is view = ap (value_at key) view
member_seen key (truth b) v is view = ap (value_at key) view
member_seen key (number spelling) v is view = ap (value_at key) view
member_seen key (text t) v is view = ap (value_at key) view
member_seen key (list items) v is view = absurd is.1
member_seen key (object ms) v is view =
    subst (λ x. IsSeen (with_view (member_in key ms)) (value_at key x)) (sym view.1) (members_seen key ms view.0 is.0 view.2)

pub member_given : (key : List ℕ) (t w : Tree) → IsNode t → IsSeen (seen_member key t) w → OnSome t (λ v. value_at key v ≡ w)
member_given key null w is h = (null, refl, sym h)
member_given key (truth b) w is h = (truth b, refl, sym h)
member_given key (number spelling) w is h = (number spelling, refl, sym h)
member_given key (text t) w is h = (text t, refl, sym h)
member_given key (list items) w is h = absurd is.1
member_given key (object ms) w is h = let r = members_given key ms w is.0 h in (object r.0, (r.0, refl, r.1), r.2)

pub node_view : (t : Tree) → IsNoList t → (v : Tree) × IsView t v
node_view null is = (null, refl)
node_view (truth b) is = (truth b, refl)
node_view (number spelling) is = (number spelling, refl)
node_view (text t) is = (text t, refl)
node_view (list items) is = absurd is
node_view (object ms) is = let s = views_there ms in (object s.0, (s.0, refl, s.1))

pub node_joined : (t : Tree) (asked : List ℕ → Tree → Type 0) → IsNoList t → ((q : List ℕ) → OnSome t (λ v. asked q (value_at q v)))
    → OnSome t (λ v. (q : List ℕ) → asked q (value_at q v))
node_joined null asked is h = (null, refl, λ q. subst (λ v. asked q (value_at q v)) (h q).1 (h q).2)
node_joined (truth b) asked is h = (truth b, refl, λ q. subst (λ v. asked q (value_at q v)) (h q).1 (h q).2)
node_joined (number n) asked is h = (number n, refl, λ q. subst (λ v. asked q (value_at q v)) (h q).1 (h q).2)
node_joined (text t) asked is h = (text t, refl, λ q. subst (λ v. asked q (value_at q v)) (h q).1 (h q).2)
node_joined (list items) asked is h = absurd is
node_joined (object ms) asked is h =
    let r = members_joined ms asked (λ q. ((h q).1.0, (h q).1.2, subst (λ v. asked q (value_at q v)) (h q).1.1 (h q).2)) in
    (object r.0, (r.0, refl, r.1), r.2)
