-- Whether some view has a leaf at a path, as the recursion decides it: `absent_decides`.
use Rattle.std.proofs.Common.{◌≡◌, ◌↔◌, ℕ, Bool, true, false, not, List, [], ◌∷◌, Some, None, inl, inr, refl, sym, ap, ◌∙◌, subst}
use Rattle.std.specs.Str.{bytes_eq}
use Rattle.std.proofs.lemmas.Bool.{cases_Bool, cond-true, cond-false}
use Rattle.std.proofs.lemmas.Slice.Eq.{bytes_eq-Decides}
use Rattle.json_text.specs.Tree.{Tree, null, truth, number, text, list, object, Items, no_items, item, Members, no_members, member}
use Rattle.json_text.specs.Compact.{IsValue, AreItems, AreMembers, LacksKey}
use Rattle.pattern_meaning.specs.View.{has_view, IsView, IsViewOfItem, AreViews, leaf_at, leaf_in}
use Rattle.pattern_meaning.specs.Holds.{IsAbsent}
use Rattle.pattern_meaning.specs.Meets.{has_leaf, some_has_leaf, first_has_leaf, absent_in}
use Rattle.pattern_meaning.proofs.ViewLemmas.{or_parts, or_none, differ, view_there, views_there}

-- a key that no member has, no view of them has
pub lacks_leaf : (k : List ℕ) (path : List (List ℕ)) (ms seen : Members) → LacksKey k ms → AreViews ms seen → leaf_in k path seen ≡ None
lacks_leaf k path no_members seen lacks views = ap (leaf_in k path) views
lacks_leaf k path (member other t ms) seen lacks views = elim views [
  | inl r ↦ ap (leaf_in k path) r.2 ∙ cond-false (bytes_eq other k) (leaf_at path r.0) (leaf_in k path r.1) (differ other k (λ e. lacks.0 (sym e)))
      ∙ lacks_leaf k path ms r.1 lacks.1 r.4
  | inr r ↦ lacks_leaf k path ms seen lacks.1 r.1
]

first_none : (k other : List ℕ) (path : List (List ℕ)) (t : Tree) (ms seen : Members) → LacksKey other ms
    → (has_leaf path t ≡ false → (v : Tree) → IsView t v → leaf_at path v ≡ None)
    → (first_has_leaf k path ms ≡ false → (rest : Members) → AreViews ms rest → leaf_in k path rest ≡ None)
    → first_has_leaf k path (member other t ms) ≡ false → AreViews (member other t ms) seen → leaf_in k path seen ≡ None
first_none k other path t ms seen lacks here later none views = elim (cases_Bool (bytes_eq other k)) [
  | inl same ↦ elim views [
    | inl r ↦ ap (leaf_in k path) r.2 ∙ cond-true (bytes_eq other k) (leaf_at path r.0) (leaf_in k path r.1) same
        ∙ here (sym (cond-true (bytes_eq other k) (has_leaf path t) (first_has_leaf k path ms) same) ∙ none) r.0 r.3
    | inr r ↦ lacks_leaf k path ms seen (subst (λ x. LacksKey x ms) ((bytes_eq-Decides other k).0 same) lacks) r.1
  ]
  | inr apart ↦
      let more = sym (cond-false (bytes_eq other k) (has_leaf path t) (first_has_leaf k path ms) apart) ∙ none in
      elim views [
        | inl r ↦ ap (leaf_in k path) r.2 ∙ cond-false (bytes_eq other k) (leaf_at path r.0) (leaf_in k path r.1) apart ∙ later more r.1 r.4
        | inr r ↦ later more seen r.1
      ]
]

mutual
  no_leaf_seen : (t v : Tree) (path : List (List ℕ)) → IsValue t → has_leaf path t ≡ false → IsView t v → leaf_at path v ≡ None
  no_leaf_seen null v [] is none view = cc
  no_leaf_seen (truth b) v [] is none view = cc
  no_leaf_seen (number n) v [] is none view = cc
  no_leaf_seen (text s) v [] is none view = cc
  no_leaf_seen null v (k ∷ path) is none view = ap (leaf_at (k ∷ path)) view
  no_leaf_seen (truth b) v (k ∷ path) is none view = ap (leaf_at (k ∷ path)) view
  no_leaf_seen (number n) v (k ∷ path) is none view = ap (leaf_at (k ∷ path)) view
  no_leaf_seen (text s) v (k ∷ path) is none view = ap (leaf_at (k ∷ path)) view
  no_leaf_seen (list items) v [] is none view = no_item_leaf items v [] is none view
  no_leaf_seen (list items) v (k ∷ path) is none view = no_item_leaf items v (k ∷ path) is none view
  no_leaf_seen (object ms) v [] is none view = ap (leaf_at []) view.1
  no_leaf_seen (object ms) v (k ∷ path) is none view = ap (leaf_at (k ∷ path)) view.1 ∙ no_member_leaf ms view.0 k path is none view.2

  no_item_leaf : (items : Items) (v : Tree) (path : List (List ℕ)) → AreItems items → some_has_leaf path items ≡ false → IsViewOfItem items v
      → leaf_at path v ≡ None
  no_item_leaf no_items v path is none view = absurd view
  no_item_leaf (item t items) v path is none view = elim view [
    | inl here ↦ no_leaf_seen t v path is.0 (or_none (has_leaf path t) (some_has_leaf path items) none).0 here
    | inr more ↦ no_item_leaf items v path is.1 (or_none (has_leaf path t) (some_has_leaf path items) none).1 more
  ]

  no_member_leaf : (ms seen : Members) (k : List ℕ) (path : List (List ℕ)) → AreMembers ms → first_has_leaf k path ms ≡ false → AreViews ms seen
      → leaf_in k path seen ≡ None
  no_member_leaf no_members seen k path is none views = ap (leaf_in k path) views
  no_member_leaf (member other t ms) seen k path is none views =
      first_none k other path t ms seen is.1 (λ h v view. no_leaf_seen t v path is.2 h view) (λ h rest more. no_member_leaf ms rest k path is.3 h more) none views

-- some leaf of some view
abbrev Leaf : Tree → List (List ℕ) → Type 0
Leaf t path = (v : Tree) × IsView t v × (leaf : Tree) × (leaf_at path v ≡ Some leaf)

abbrev LeafIn : Members → List ℕ → List (List ℕ) → Type 0
LeafIn ms k path = (seen : Members) × AreViews ms seen × (leaf : Tree) × (leaf_in k path seen ≡ Some leaf)

first_leaf : (k other : List ℕ) (path : List (List ℕ)) (t : Tree) (ms : Members) → (has_leaf path t ≡ true → Leaf t path)
    → (first_has_leaf k path ms ≡ true → LeafIn ms k path) → first_has_leaf k path (member other t ms) ≡ true → LeafIn (member other t ms) k path
first_leaf k other path t ms here later some = elim (cases_Bool (bytes_eq other k)) [
  | inl same ↦
      let r = here (sym (cond-true (bytes_eq other k) (has_leaf path t) (first_has_leaf k path ms) same) ∙ some) in
      let rest = views_there ms in (
        member other r.0 rest.0,
        inl (r.0, rest.0, refl, r.1, rest.1),
        r.2,
        cond-true (bytes_eq other k) (leaf_at path r.0) (leaf_in k path rest.0) same ∙ r.3,
      )
  | inr apart ↦
      let r = later (sym (cond-false (bytes_eq other k) (has_leaf path t) (first_has_leaf k path ms) apart) ∙ some) in
      elim (cases_Bool (has_view t)) [
        | inl there ↦
            let v = view_there t there in
            (member other v.0 r.0, inl (v.0, r.0, refl, v.1, r.1), r.2, cond-false (bytes_eq other k) (leaf_at path v.0) (leaf_in k path r.0) apart ∙ r.3)
        | inr none ↦ (r.0, inr (none, r.1), r.2, r.3)
      ]
]

mutual
  leaf_found : (t : Tree) (path : List (List ℕ)) → has_leaf path t ≡ true → Leaf t path
  leaf_found null [] h = (null, refl, null, refl)
  leaf_found (truth b) [] h = (truth b, refl, truth b, refl)
  leaf_found (number n) [] h = (number n, refl, number n, refl)
  leaf_found (text s) [] h = (text s, refl, text s, refl)
  leaf_found null (k ∷ path) h = cc
  leaf_found (truth b) (k ∷ path) h = cc
  leaf_found (number n) (k ∷ path) h = cc
  leaf_found (text s) (k ∷ path) h = cc
  leaf_found (list items) [] h = item_leaf items [] h
  leaf_found (list items) (k ∷ path) h = item_leaf items (k ∷ path) h
  leaf_found (object ms) [] h = cc
  leaf_found (object ms) (k ∷ path) h = let r = member_leaf ms k path h in (object r.0, (r.0, refl, r.1), r.2, r.3)

  item_leaf : (items : Items) (path : List (List ℕ)) → some_has_leaf path items ≡ true
      → (v : Tree) × IsViewOfItem items v × (leaf : Tree) × (leaf_at path v ≡ Some leaf)
  item_leaf no_items path h = cc
  item_leaf (item t items) path h = elim (or_parts (has_leaf path t) (some_has_leaf path items) h) [
    | inl here ↦ let r = leaf_found t path here in (r.0, inl r.1, r.2, r.3)
    | inr more ↦ let r = item_leaf items path more in (r.0, inr r.1, r.2, r.3)
  ]

  member_leaf : (ms : Members) (k : List ℕ) (path : List (List ℕ)) → first_has_leaf k path ms ≡ true → LeafIn ms k path
  member_leaf no_members k path h = cc
  member_leaf (member other t ms) k path h = first_leaf k other path t ms (leaf_found t path) (member_leaf ms k path) h

pub is_false : (b : Bool) → not b ≡ true → b ≡ false
is_false true h = cc
is_false false h = refl

pub absent_decides : (event : Tree) (path : List (List ℕ)) → IsValue event → (absent_in event path ≡ true) ↔ IsAbsent event path
absent_decides event path is = (λ h v view. no_leaf_seen event v path is (is_false (has_leaf path event) h) view, there)
  where
    there : IsAbsent event path → absent_in event path ≡ true
    there h = elim (cases_Bool (has_leaf path event)) [
      | inl some ↦ let r = leaf_found event path some in let e : None ≡ Some r.2 = sym (h r.0 r.1) ∙ r.3 in cc
      | inr none ↦ ap not none
    ]
