-- Views of a JSON value: in each list one member is chosen, so that no list is left. This is the project's own reading of the Amazon
-- EventBridge User Guide, where a pattern is compared with each member of a list.
use Rattle.std.specs.Prelude.{◌≡◌, ℕ, Bool, true, false, ◌||◌, ◌⊎◌, IsFalse, List, [], ◌∷◌, Option, Some, None, if◌then◌else◌}
use Rattle.std.specs.Str.{bytes_eq}
use Rattle.json_text.specs.Tree.{Tree, null, truth, number, text, list, object, Items, no_items, item, Members, no_members, member}

-- A value has a view unless it is a list of which no member has one. `[]` and `[[],[]]` have none.
-- Shown by: tables pattern_meaning.rows: a_missing_leaf_is_missing_in_all_views.
abbrev mutual
  pub has_view : Tree → Bool
  has_view null = true
  has_view (truth b) = true
  has_view (number spelling) = true
  has_view (text t) = true
  has_view (list items) = some_has_view items
  has_view (object _) = true

  pub some_has_view : Items → Bool
  some_has_view no_items = false
  some_has_view (item t items) = has_view t || some_has_view items

-- IsView e v: v is a view of the value e. In each list one member is chosen, so that no list is left. In an object each member's value
-- becomes a view of it, and a member without a view is left out. The views of `{"a":[1,[2,3]],"b":[]}` are `{"a":1}`, `{"a":2}` and
-- `{"a":3}` (this project's own reading of the Amazon EventBridge User Guide).
-- Shown by: tables pattern_meaning.rows: two_fields_need_one_member_of_a_list.
abbrev mutual
  pub IsView : Tree → Tree → Type 0
  IsView null v = v ≡ null
  IsView (truth b) v = v ≡ truth b
  IsView (number spelling) v = v ≡ number spelling
  IsView (text t) v = v ≡ text t
  IsView (list items) v = IsViewOfItem items v
  IsView (object members) v = (seen : Members) × (v ≡ object seen) × AreViews members seen

  pub IsViewOfItem : Items → Tree → Type 0
  IsViewOfItem no_items v = ⊥
  IsViewOfItem (item t items) v = IsView t v ⊎ IsViewOfItem items v

  pub AreViews : Members → Members → Type 0
  AreViews no_members seen = seen ≡ no_members
  AreViews (member key t members) seen =
      ((v : Tree) × (rest : Members) × (seen ≡ member key v rest) × IsView t v × AreViews members rest)
      ⊎ (IsFalse (has_view t) × AreViews members seen)

-- The scalar of a view at a path of keys, if there is one. Of two members with one key the first counts.
-- Shown by: tables pattern_meaning.rows: a_scalar_is_compared_by_its_spelling.
abbrev mutual
  pub leaf_at : List (List ℕ) → Tree → Option Tree
  leaf_at [] null = Some null
  leaf_at [] (truth b) = Some (truth b)
  leaf_at [] (number spelling) = Some (number spelling)
  leaf_at [] (text t) = Some (text t)
  leaf_at [] (list _) = None
  leaf_at [] (object _) = None
  leaf_at (key ∷ path) null = None
  leaf_at (key ∷ path) (truth b) = None
  leaf_at (key ∷ path) (number spelling) = None
  leaf_at (key ∷ path) (text t) = None
  leaf_at (key ∷ path) (list _) = None
  leaf_at (key ∷ path) (object members) = leaf_in key path members

  pub leaf_in : List ℕ → List (List ℕ) → Members → Option Tree
  leaf_in key path no_members = None
  leaf_in key path (member k t members) = if bytes_eq k key then leaf_at path t else leaf_in key path members
