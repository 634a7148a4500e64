-- For private clauses alone: whether a value has a view that satisfies what is wanted of it.
use Rattle.std.specs.Prelude.{◌≡◌, ◌↔◌, ℕ, suc, ◌+◌, ◌*◌, Bool, IsTrue, true, false, ◌&&◌, ◌||◌, not, List, [], ◌∷◌, ◌++◌, ◌⊎◌, Option, Some, None, unwrap_or, if◌then◌else◌}
use Rattle.std.specs.List.{list_any}
use Rattle.std.specs.Str.{bytes_eq}
use Rattle.json_text.specs.Tree.{Tree, null, truth, number, text, list, object, Items, no_items, item, Members, no_members, member}
use Rattle.json_text.specs.Access.{member_of}
use Rattle.pattern_meaning.specs.Pattern.{Test, missing, Pattern, pattern, Fields, no_fields, field, Field, tests, below, Branches, no_branches, branch}
use Rattle.json_text.specs.Compact.{IsValue}
use Rattle.pattern_meaning.specs.View.{has_view, IsView, leaf_at}
use Rattle.pattern_meaning.specs.Holds.{IsMet, IsAbsent}

-- a value without leaves, which also represents a missing member
abbrev pub nothing : Tree
nothing = object no_members

-- the value of the first member with the key
abbrev pub value_at : List ℕ → Tree → Tree
value_at key t = unwrap_or (member_of key t) nothing

-- whether some view of a value has a leaf at a path
abbrev mutual
  pub has_leaf : List (List ℕ) → Tree → Bool
  has_leaf [] null = true
  has_leaf [] (truth b) = true
  has_leaf [] (number spelling) = true
  has_leaf [] (text t) = true
  has_leaf (key ∷ path) null = false
  has_leaf (key ∷ path) (truth b) = false
  has_leaf (key ∷ path) (number spelling) = false
  has_leaf (key ∷ path) (text t) = false
  has_leaf path (list items) = some_has_leaf path items
  has_leaf [] (object inside) = false
  has_leaf (key ∷ path) (object inside) = first_has_leaf key path inside

  pub some_has_leaf : List (List ℕ) → Items → Bool
  some_has_leaf path no_items = false
  some_has_leaf path (item t items) = has_leaf path t || some_has_leaf path items

  pub first_has_leaf : List ℕ → List (List ℕ) → Members → Bool
  first_has_leaf key path no_members = false
  first_has_leaf key path (member k t members) = if bytes_eq k key then has_leaf path t else first_has_leaf key path members

-- no view of the event has a leaf at the path
abbrev pub absent_in : Tree → List (List ℕ) → Bool
absent_in event path = not (has_leaf path event)

-- two paths have the same keys
abbrev pub same_path : List (List ℕ) → List (List ℕ) → Bool
same_path [] [] = true
same_path [] (k ∷ b) = false
same_path (k ∷ a) [] = false
same_path (k ∷ a) (j ∷ b) = bytes_eq k j && same_path a b

-- the path is one of the list
abbrev pub known_in : List (List (List ℕ)) → List (List ℕ) → Bool
known_in [] path = false
known_in (k ∷ ks) path = same_path k path || known_in ks path

-- `exists: false` is among the tests
abbrev pub is_missing : Test → Bool
is_missing missing = true
is_missing _ = false

abbrev pub has_missing : List Test → Bool
has_missing ts = list_any is_missing ts

-- the paths of the fields that have `exists: false`
abbrev mutual
  pub pattern_paths : Pattern → List (List ℕ) → List (List (List ℕ))
  pattern_paths (pattern fs bs) at = fields_paths fs at ++ branches_paths bs at

  pub fields_paths : Fields → List (List ℕ) → List (List (List ℕ))
  fields_paths no_fields at = []
  fields_paths (field key f fs) at = field_paths f (at ++ key ∷ []) ++ fields_paths fs at

  pub field_paths : Field → List (List ℕ) → List (List (List ℕ))
  field_paths (tests ts) at = if has_missing ts then at ∷ [] else []
  field_paths (below p) at = pattern_paths p at

  pub branches_paths : Branches → List (List ℕ) → List (List (List ℕ))
  branches_paths no_branches at = []
  branches_paths (branch p bs) at = pattern_paths p at ++ branches_paths bs at

-- of the pattern's paths of `exists: false` each absent one is known, or still to be looked at
abbrev pub IsCovered : Tree → Pattern → List (List (List ℕ)) → List (List (List ℕ)) → Type 0
IsCovered event p known todo =
    (path : List (List ℕ)) → known_in (pattern_paths p []) path ≡ true → IsAbsent event path → (known_in (known ++ todo) path ≡ true)

-- a value that is no list, with distinct keys
abbrev pub IsNoList : Tree → Type 0
IsNoList null = Unit {0}
IsNoList (truth b) = Unit {0}
IsNoList (number spelling) = Unit {0}
IsNoList (text t) = Unit {0}
IsNoList (list items) = ⊥
IsNoList (object inside) = Unit {0}

abbrev pub IsNode : Tree → Type 0
IsNode t = IsValue t × IsNoList t

-- a value that has a view
abbrev pub with_view : Option Tree → Option Tree
with_view None = None
with_view (Some t) = if has_view t then Some t else None

-- the value of the first member with the key, if it has a view
abbrev pub seen_member : List ℕ → Tree → Option Tree
seen_member key t = with_view (member_of key t)

-- A test holds of a view of the value at a path; `absent` says of which paths `exists: false` holds.
abbrev pub TestMet : (List (List ℕ) → Bool) → List (List ℕ) → Tree → Test → Type 0
TestMet absent at v t = ((leaf : Tree) × (leaf_at [] v ≡ Some leaf) × IsMet t leaf) ⊎ ((t ≡ missing) × (absent at ≡ true))

-- the fact holds of one in the list
abbrev pub SomeMetOf : {X : Type 0} → (X → Type 0) → List X → Type 0
SomeMetOf holds [] = ⊥
SomeMetOf holds (x ∷ xs) = holds x ⊎ SomeMetOf holds xs

-- a pattern holds of a view of the value at a path
abbrev mutual
  pub PatternMet : (List (List ℕ) → Bool) → List (List ℕ) → Pattern → Tree → Type 0
  PatternMet absent at (pattern fs bs) v = FieldsMet absent at fs v × BranchesMet absent at bs v

  pub FieldsMet : (List (List ℕ) → Bool) → List (List ℕ) → Fields → Tree → Type 0
  FieldsMet absent at no_fields v = Unit {0}
  FieldsMet absent at (field key f fs) v = FieldMet absent (at ++ key ∷ []) f (value_at key v) × FieldsMet absent at fs v

  pub FieldMet : (List (List ℕ) → Bool) → List (List ℕ) → Field → Tree → Type 0
  FieldMet absent at (tests ts) v = SomeMetOf (TestMet absent at v) ts
  FieldMet absent at (below p) v = PatternMet absent at p v

  pub BranchesMet : (List (List ℕ) → Bool) → List (List ℕ) → Branches → Tree → Type 0
  BranchesMet absent at no_branches v = Unit {0}
  BranchesMet absent at (branch p bs) v = PatternMet absent at p v ⊎ SomeMet absent at bs v

  pub SomeMet : (List (List ℕ) → Bool) → List (List ℕ) → Branches → Tree → Type 0
  SomeMet absent at no_branches v = ⊥
  SomeMet absent at (branch p bs) v = PatternMet absent at p v ⊎ SomeMet absent at bs v

-- what is wanted: fields, each with its key
abbrev pub Wants : Type 0
Wants = List (List ℕ × Field)

-- something is wanted with the key
abbrev pub has_key : List ℕ → Wants → Bool
has_key key ws = list_any (λ w. bytes_eq w.0 key) ws

-- the fields with the key are met by a view of the value at the path
abbrev pub WithKeyMet : (List (List ℕ) → Bool) → List (List ℕ) → List ℕ → Wants → Tree → Type 0
WithKeyMet absent at key [] v = Unit {0}
WithKeyMet absent at key (w ∷ ws) v = (w.0 ≡ key → FieldMet absent at w.1 v) × WithKeyMet absent at key ws v

-- all fields are met, each by the member with its key
abbrev pub AllMet : (List (List ℕ) → Bool) → List (List ℕ) → Wants → Tree → Type 0
AllMet absent at [] v = Unit {0}
AllMet absent at (w ∷ ws) v = FieldMet absent (at ++ w.0 ∷ []) w.1 (value_at w.0 v) × AllMet absent at ws v

-- some view of the value satisfies
abbrev pub OnSome : Tree → (Tree → Type 0) → Type 0
OnSome t holds = (v : Tree) × IsView t v × holds v

-- an answer is right whichever paths are absent, and wherever the value is
abbrev pub Decides : Bool → ((List (List ℕ) → Bool) → List (List ℕ) → Type 0) → Type 0
Decides met fact = (absent : List (List ℕ) → Bool) (at : List (List ℕ)) → IsTrue met ↔ fact absent at

-- the value is its only view
abbrev pub HasOneView : Tree → Type 0
HasOneView t = (v : Tree) → IsView t v → v ≡ t

-- for each key of the second list, the fields of the first with this key are met on some view
abbrev pub EachKeyMet : (List (List ℕ) → Bool) → List (List ℕ) → Tree → Wants → Wants → Type 0
EachKeyMet absent at t all [] = Unit {0}
EachKeyMet absent at t all (w ∷ ws) =
    OnSome t (λ v. WithKeyMet absent (at ++ w.0 ∷ []) w.0 all (value_at w.0 v)) × EachKeyMet absent at t all ws

-- how much there is to do for what is wanted
abbrev mutual
  pub pattern_weight : Pattern → ℕ
  pattern_weight (pattern fs bs) = suc (fields_weight fs + branches_weight bs)

  pub fields_weight : Fields → ℕ
  fields_weight no_fields = 0
  fields_weight (field key f fs) = suc (field_weight f) + fields_weight fs

  pub field_weight : Field → ℕ
  field_weight (tests ts) = 0
  field_weight (below p) = 5 * pattern_weight p

  pub branches_weight : Branches → ℕ
  branches_weight no_branches = 0
  branches_weight (branch p bs) = pattern_weight p + branches_weight bs

abbrev pub wants_weight : Wants → ℕ
wants_weight [] = 0
wants_weight (w ∷ ws) = suc (field_weight w.1) + wants_weight ws

-- how many values there are in a value
abbrev mutual
  pub size_of : Tree → ℕ
  size_of null = 1
  size_of (truth b) = 1
  size_of (number spelling) = 1
  size_of (text t) = 1
  size_of (list items) = suc (items_size items)
  size_of (object inside) = suc (members_size inside)

  pub items_size : Items → ℕ
  items_size no_items = 0
  items_size (item t items) = size_of t + items_size items

  pub members_size : Members → ℕ
  members_size no_members = 0
  members_size (member k t members) = size_of t + members_size members
