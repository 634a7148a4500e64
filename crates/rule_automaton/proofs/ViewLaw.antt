-- The leaves at a path are those of the views: `view_found`, `view_of`.
use Rattle.std.proofs.Common.{◌≡◌, ℕ, zero, suc, List, [], ◌∷◌, Some, None, inl, inr, refl, sym, ap, ◌∙◌, subst, arith}
use Rattle.std.specs.Prelude.{Contains}
use Rattle.std.specs.Str.{bytes_eq}
use Rattle.std.proofs.lemmas.Bool.{cases_Bool, cond-true, cond-false}
use Rattle.std.proofs.lemmas.List.Elements.{Contains-append_left, Contains-append_right, Contains-append_cases}
use Rattle.std.proofs.lemmas.Slice.Eq.{bytes_eq-Decides}
use Rattle.json_text.specs.Tree.{Tree, null, truth, number, text, list, object, Items, no_items, item, Members, no_members, member}
use Rattle.json_text.specs.Compact.{IsValue, AreItems, AreMembers, LacksKey}
use Rattle.pattern_meaning.specs.View.{has_view, IsView, IsViewOfItem, AreViews, leaf_at, leaf_in}
use Rattle.pattern_meaning.proofs.ViewLemmas.{view_there, views_there}
use Rattle.pattern_meaning.proofs.AbsentLemmas.{lacks_leaf}
use Rattle.event_flatten.specs.Leaves.{leaves_at, leaves_of_items, leaves_of_members}

alone : (t leaf : Tree) → Some t ≡ Some leaf → Contains (t ∷ []) leaf
alone t leaf e = let same : t ≡ leaf = cc in (0, omega arith, same)

of_one : (t leaf : Tree) → Contains (t ∷ []) leaf → t ≡ leaf
of_one t leaf (zero, within, same) = same
of_one t leaf (suc k, within, same) = absurd (omega arith)

of_none : (leaf : Tree) → Contains [] leaf → ⊥
of_none leaf (k, within, same) = omega arith

mutual
  pub view_found : (t v leaf : Tree) (path : List (List ℕ)) → IsValue t → IsView t v → leaf_at path v ≡ Some leaf → Contains (leaves_at path t) leaf
  view_found null v leaf [] is view e = alone null leaf (sym (ap (leaf_at []) view) ∙ e)
  view_found null v leaf (k ∷ path) is view e = let never : None ≡ Some leaf = sym (ap (leaf_at (k ∷ path)) view) ∙ e in cc
  view_found (truth b) v leaf [] is view e = alone (truth b) leaf (sym (ap (leaf_at []) view) ∙ e)
  view_found (truth b) v leaf (k ∷ path) is view e = let never : None ≡ Some leaf = sym (ap (leaf_at (k ∷ path)) view) ∙ e in cc
  view_found (number n) v leaf [] is view e = alone (number n) leaf (sym (ap (leaf_at []) view) ∙ e)
  view_found (number n) v leaf (k ∷ path) is view e = let never : None ≡ Some leaf = sym (ap (leaf_at (k ∷ path)) view) ∙ e in cc
  view_found (text s) v leaf [] is view e = alone (text s) leaf (sym (ap (leaf_at []) view) ∙ e)
  view_found (text s) v leaf (k ∷ path) is view e = let never : None ≡ Some leaf = sym (ap (leaf_at (k ∷ path)) view) ∙ e in cc
  view_found (list items) v leaf path is view e = item_found items v leaf path is view e
  view_found (object ms) v leaf [] is view e = let never : None ≡ Some leaf = sym (ap (leaf_at []) view.1) ∙ e in cc
  view_found (object ms) v leaf (k ∷ path) is view e = member_found ms view.0 leaf k path is view.2 (sym (ap (leaf_at (k ∷ path)) view.1) ∙ e)

  item_found : (items : Items) (v leaf : Tree) (path : List (List ℕ)) → AreItems items → IsViewOfItem items v → leaf_at path v ≡ Some leaf
      → Contains (leaves_of_items path items) leaf
  item_found no_items v leaf path is view e = absurd view
  item_found (item t items) v leaf path is view e = elim view [
    | inl here ↦ Contains-append_left (leaves_at path t) (leaves_of_items path items) leaf (view_found t v leaf path is.0 here e)
    | inr more ↦ Contains-append_right (leaves_at path t) (leaves_of_items path items) leaf (item_found items v leaf path is.1 more e)
  ]

  member_found : (ms seen : Members) (leaf : Tree) (k : List ℕ) (path : List (List ℕ)) → AreMembers ms → AreViews ms seen → leaf_in k path seen ≡ Some leaf
      → Contains (leaves_of_members (k ∷ path) ms) leaf
  member_found no_members seen leaf k path is views e = let never : None ≡ Some leaf = sym (ap (leaf_in k path) views) ∙ e in cc
  member_found (member other t ms) seen leaf k path is views e = elim (cases_Bool (bytes_eq other k)) [
    | inl same ↦ subst (λ l. Contains l leaf) (sym (cond-true (bytes_eq other k) (leaves_at path t) (leaves_of_members (k ∷ path) ms) same)) (elim views [
      | inl r ↦ view_found t r.0 leaf path is.2 r.3 (sym (ap (leaf_in k path) r.2 ∙ cond-true (bytes_eq other k) (leaf_at path r.0) (leaf_in k path r.1) same) ∙ e)
      | inr r ↦
          let gone = lacks_leaf k path ms seen (subst (λ x. LacksKey x ms) ((bytes_eq-Decides other k).0 same) is.1) r.1 in
          let never : None ≡ Some leaf = sym gone ∙ e in cc
    ])
    | inr apart ↦ subst (λ l. Contains l leaf) (sym (cond-false (bytes_eq other k) (leaves_at path t) (leaves_of_members (k ∷ path) ms) apart)) (elim views [
      | inl r ↦ member_found ms r.1 leaf k path is.3 r.4
          (sym (ap (leaf_in k path) r.2 ∙ cond-false (bytes_eq other k) (leaf_at path r.0) (leaf_in k path r.1) apart) ∙ e)
      | inr r ↦ member_found ms seen leaf k path is.3 r.1 e
    ])
  ]

abbrev Seen : Tree → Tree → List (List ℕ) → Type 0
Seen t leaf path = (v : Tree) × IsView t v × (leaf_at path v ≡ Some leaf)

mutual
  pub view_of : (t leaf : Tree) (path : List (List ℕ)) → Contains (leaves_at path t) leaf → Seen t leaf path
  view_of null leaf [] h = (null, refl, ap Some (of_one null leaf h))
  view_of null leaf (k ∷ path) h = absurd (of_none leaf h)
  view_of (truth b) leaf [] h = (truth b, refl, ap Some (of_one (truth b) leaf h))
  view_of (truth b) leaf (k ∷ path) h = absurd (of_none leaf h)
  view_of (number n) leaf [] h = (number n, refl, ap Some (of_one (number n) leaf h))
  view_of (number n) leaf (k ∷ path) h = absurd (of_none leaf h)
  view_of (text s) leaf [] h = (text s, refl, ap Some (of_one (text s) leaf h))
  view_of (text s) leaf (k ∷ path) h = absurd (of_none leaf h)
  view_of (list items) leaf path h = item_view items leaf path h
  view_of (object no_members) leaf [] h = absurd (of_none leaf h)
  view_of (object (member k t ms)) leaf [] h = absurd (of_none leaf h)
  view_of (object ms) leaf (k ∷ path) h = let r = member_view ms leaf k path h in (object r.0, (r.0, refl, r.1), r.2)

  item_view : (items : Items) (leaf : Tree) (path : List (List ℕ)) → Contains (leaves_of_items path items) leaf
      → (v : Tree) × IsViewOfItem items v × (leaf_at path v ≡ Some leaf)
  item_view no_items leaf path h = absurd (of_none leaf h)
  item_view (item t items) leaf path h = elim (Contains-append_cases (leaves_at path t) (leaves_of_items path items) leaf h) [
    | inl here ↦ let r = view_of t leaf path here in (r.0, inl r.1, r.2)
    | inr more ↦ let r = item_view items leaf path more in (r.0, inr r.1, r.2)
  ]

  member_view : (ms : Members) (leaf : Tree) (k : List ℕ) (path : List (List ℕ)) → Contains (leaves_of_members (k ∷ path) ms) leaf
      → (seen : Members) × AreViews ms seen × (leaf_in k path seen ≡ Some leaf)
  member_view no_members leaf k path h = absurd (of_none leaf h)
  member_view (member other t ms) leaf k path h = elim (cases_Bool (bytes_eq other k)) [
    | inl same ↦
        let r = view_of t leaf path (subst (λ l. Contains l leaf) (cond-true (bytes_eq other k) (leaves_at path t) (leaves_of_members (k ∷ path) ms) same) h) in
        let rest = views_there ms in (
          member other r.0 rest.0,
          inl (r.0, rest.0, refl, r.1, rest.1),
          cond-true (bytes_eq other k) (leaf_at path r.0) (leaf_in k path rest.0) same ∙ r.2,
        )
    | inr apart ↦
        let r = member_view ms leaf k path
        (subst (λ l. Contains l leaf) (cond-false (bytes_eq other k) (leaves_at path t) (leaves_of_members (k ∷ path) ms) apart) h) in
        elim (cases_Bool (has_view t)) [
          | inl there ↦
              let v = view_there t there in
              (member other v.0 r.0, inl (v.0, r.0, refl, v.1, r.1), cond-false (bytes_eq other k) (leaf_at path v.0) (leaf_in k path r.0) apart ∙ r.2)
          | inr none ↦ (r.0, inr (none, r.1), r.2)
        ]
  ]
