-- Access to a JSON value: the value of a member, the values of a list, whether the value is an object or a string, and the bytes of a
-- string.
use Rattle.std.specs.Prelude.{ℕ, Bool, true, false, List, [], ◌∷◌, Option, Some, None, if◌then◌else◌, IsTrue}
use Rattle.std.specs.Str.{bytes_eq}
use Rattle.json_text.specs.Tree.{Tree, null, truth, number, text, list, object, Items, no_items, item, Members, no_members, member}

-- The value of the first member with this key.
-- Shown by: text_tests test_json_text.rt: members_are_found_and_added.
abbrev pub member_in : List ℕ → Members → Option Tree
member_in key no_members = None
member_in key (member name t members) = if bytes_eq name key then Some t else member_in key members

-- The value of the first member with this key, if the value is an object and has one.
-- Shown by: text_tests test_json_text.rt: members_are_found_and_added.
abbrev pub member_of : List ℕ → Tree → Option Tree
member_of key (object inside) = member_in key inside
member_of key null = None
member_of key (truth b) = None
member_of key (number spelling) = None
member_of key (text t) = None
member_of key (list items) = None

-- The value is an object.
-- Shown by: text_tests test_json_text.rt: members_are_found_and_added.
abbrev pub is_object : Tree → Bool
is_object (object inside) = true
is_object null = false
is_object (truth b) = false
is_object (number spelling) = false
is_object (text t) = false
is_object (list items) = false

-- The value passes `is_object`.
-- Shown by: text_tests test_json_text.rt: members_are_found_and_added.
abbrev pub IsObject : Tree → Type 0
IsObject tree = IsTrue (is_object tree)

-- The value is a string.
-- Shown by: tables api_members.rows: a_value_is_valid.
abbrev pub is_text : Tree → Bool
is_text (text t) = true
is_text null = false
is_text (truth b) = false
is_text (number spelling) = false
is_text (list items) = false
is_text (object inside) = false

-- The value is a string with this property.
-- Shown by: tables api_members.rows: a_value_is_valid.
abbrev pub IsTextThat : (List ℕ → Type 0) → Tree → Type 0
IsTextThat P (text t) = P t
IsTextThat P null = ⊥
IsTextThat P (truth b) = ⊥
IsTextThat P (number spelling) = ⊥
IsTextThat P (list items) = ⊥
IsTextThat P (object inside) = ⊥

-- The values of a list, in order.
-- Shown by: tables api_members.rows: a_value_is_valid.
abbrev pub trees_in : Items → List Tree
trees_in no_items = []
trees_in (item t items) = t ∷ trees_in items

-- The bytes of a string; none for any other value.
-- Shown by: text_tests test_json_text.rt: members_are_found_and_added.
abbrev pub text_in : Tree → Option (List ℕ)
text_in (text t) = Some t
text_in null = None
text_in (truth b) = None
text_in (number spelling) = None
text_in (list items) = None
text_in (object inside) = None
