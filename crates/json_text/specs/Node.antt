-- The members of a JSON text as they are in it: all of them, also those with a repeated key. Each key has its place, which is
-- the number of bytes before its opening quotation mark. And the value that they represent.
use Rattle.std.specs.Prelude.{ℕ, suc, max, Bool, List, [], ◌∷◌, Option, Some, None, if◌then◌else◌}
use Rattle.std.specs.List.{list_any}
use Rattle.std.specs.Str.{bytes_eq}
use Rattle.json_text.specs.Tree.{Tree, null, truth, number, text, list, object, items_of, members_of}

-- A JSON value as a text writes it, repeated keys included. Each key has its place: the number of bytes before its quotation mark.
-- Shown by: text_tests test_json_text.rt: the_first_repeated_key_is_reported.
mutual
  pub data Node : Type 0 where
    null_node : Node
    truth_node : Bool → Node
    number_node : List ℕ → Node
    text_node : List ℕ → Node
    list_node : Nodes → Node
    object_node : Fields → Node

  pub data Nodes : Type 0 where
    no_nodes : Nodes
    node : Node → Nodes → Nodes

  pub data Fields : Type 0 where
    no_fields : Fields
    field : ℕ → List ℕ → Node → Fields → Fields

-- A member with this key gets the value in its place. If there is none, it is added at the end.
abbrev pub with_member : List ℕ → Tree → List (List ℕ × Tree) → List (List ℕ × Tree)
with_member key tree [] = (key, tree) ∷ []
with_member key tree (m ∷ ms) = if bytes_eq key m.0 then (m.0, tree) ∷ ms else m ∷ with_member key tree ms

-- The value of a node. Of a repeated key the first place and the last value count: `{"a":1, "b":2,"a":3}` is `{"a":3,"b":2}`. This
-- project's own rule: RFC 8259, section 4, leaves it open.
-- Shown by: text_tests test_json_text.rt: values_are_written_compactly.
abbrev mutual
  pub value_of : Node → Tree
  value_of null_node = null
  value_of (truth_node b) = truth b
  value_of (number_node spelling) = number spelling
  value_of (text_node t) = text t
  value_of (list_node ns) = list (items_of (values_of ns))
  value_of (object_node fs) = object (members_of (members_after [] fs))

  pub values_of : Nodes → List Tree
  values_of no_nodes = []
  values_of (node n ns) = value_of n ∷ values_of ns

  pub members_after : List (List ℕ × Tree) → Fields → List (List ℕ × Tree)
  members_after ms no_fields = ms
  members_after ms (field place key n fs) = members_after (with_member key (value_of n) ms) fs

-- How deep lists and objects are nested in a node.
-- Shown by: text_tests test_json_text.rt: a_hundred_levels_are_read_and_one_more_is_not.
abbrev mutual
  pub levels_of : Node → ℕ
  levels_of null_node = 0
  levels_of (truth_node b) = 0
  levels_of (number_node spelling) = 0
  levels_of (text_node t) = 0
  levels_of (list_node ns) = suc (levels_of_nodes ns)
  levels_of (object_node fs) = suc (levels_of_fields fs)

  pub levels_of_nodes : Nodes → ℕ
  levels_of_nodes no_nodes = 0
  levels_of_nodes (node n ns) = max (levels_of n) (levels_of_nodes ns)

  pub levels_of_fields : Fields → ℕ
  levels_of_fields no_fields = 0
  levels_of_fields (field place key n fs) = max (levels_of n) (levels_of_fields fs)

abbrev pub first_of : Option ℕ → Option ℕ → Option ℕ
first_of None other = other
first_of (Some at) other = Some at

-- The place of the first key, in the order of the text, that an earlier member of its object has too. In `{"a":{"b":1,"b":2},"a":3}` it is
-- 12.
-- Shown by: text_tests test_json_text.rt: the_first_repeated_key_is_reported.
abbrev mutual
  pub first_repeat : Node → Option ℕ
  first_repeat null_node = None
  first_repeat (truth_node b) = None
  first_repeat (number_node spelling) = None
  first_repeat (text_node t) = None
  first_repeat (list_node ns) = first_repeat_in ns
  first_repeat (object_node fs) = first_repeat_after [] fs

  pub first_repeat_in : Nodes → Option ℕ
  first_repeat_in no_nodes = None
  first_repeat_in (node n ns) = first_of (first_repeat n) (first_repeat_in ns)

  -- of members with members of these keys before them
  pub first_repeat_after : List (List ℕ) → Fields → Option ℕ
  first_repeat_after keys no_fields = None
  first_repeat_after keys (field place key n fs) =
      first_of (if list_any (bytes_eq key) keys then Some place else None) (first_of (first_repeat n) (first_repeat_after (key ∷ keys) fs))
