-- A JSON value (RFC 8259, section 3), which is what contracts see of a `Json`.
use Rattle.std.specs.Prelude.{ℕ, Bool, List, [], ◌∷◌}

-- A JSON value: null, a truth value, a number by its spelling, a text in UTF-8, a list, or an object's members in order.
-- Shown by: text_tests test_json_text.rt: values_are_written_compactly.
mutual
  pub data Tree : Type 0 where
    null : Tree
    truth : Bool → Tree
    number : List ℕ → Tree
    text : List ℕ → Tree
    list : Items → Tree
    object : Members → Tree

  pub data Items : Type 0 where
    no_items : Items
    item : Tree → Items → Items

  -- The members of a JSON object: keys with values, in order.
  -- Shown by: text_tests test_json_text.rt: values_are_written_compactly.
  pub data Members : Type 0 where
    no_members : Members
    member : List ℕ → Tree → Members → Members

-- A list of values as the items of a JSON list.
-- Shown by: text_tests test_json_text.rt: values_are_written_compactly.
abbrev pub items_of : List Tree → Items
items_of [] = no_items
items_of (t ∷ ts) = item t (items_of ts)

-- A list of keys with values as the members of a JSON object.
-- Shown by: text_tests test_json_text.rt: values_are_written_compactly.
abbrev pub members_of : List (List ℕ × Tree) → Members
members_of [] = no_members
members_of (m ∷ ms) = member m.0 m.1 (members_of ms)
