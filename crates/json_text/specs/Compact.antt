-- The one text that a value is written as: no spaces, and in strings the fewest escapes that RFC 8259, section 7, allows.
use Rattle.std.specs.Prelude.{◌≢◌, ℕ, suc, max, ◌+◌, ◌/◌, ◌%◌, true, false, List, [], ◌∷◌, ◌++◌, ◌==◌, nat_lt, if◌then◌else◌, flat_map, codes}
use Rattle.std.specs.Str.{IsUtf8}
use Rattle.json_text.specs.Number.{IsNumber}
use Rattle.json_text.specs.Tree.{Tree, null, truth, number, text, list, object, Items, no_items, item, Members, no_members, member}

-- a hexadecimal digit in lower case
abbrev pub lower_hex : ℕ → ℕ
lower_hex n = if nat_lt n 10 then 48 + n else 87 + n

-- what a byte of a string is written as: `"`, `\` and what is below a space are escaped, by two characters if there is such an escape
abbrev pub escape : ℕ → List ℕ
escape b =
    if b == 34 then 92 ∷ 34 ∷ [] else
    if b == 92 then 92 ∷ 92 ∷ [] else
    if b == 8 then 92 ∷ 98 ∷ [] else
    if b == 12 then 92 ∷ 102 ∷ [] else
    if b == 10 then 92 ∷ 110 ∷ [] else
    if b == 13 then 92 ∷ 114 ∷ [] else
    if b == 9 then 92 ∷ 116 ∷ [] else
    if nat_lt b 32 then 92 ∷ 117 ∷ 48 ∷ 48 ∷ lower_hex (b / 16) ∷ lower_hex (b % 16) ∷ [] else b ∷ []

abbrev pub quoted : List ℕ → List ℕ
quoted bytes = 34 ∷ (flat_map escape bytes ++ 34 ∷ [])

-- The one text that a value is written as: no spaces; in texts `"`, `\` and bytes below a space are escaped, by two characters if there is
-- such an escape, and else as `\u00xx` in lower case.
-- Shown by: text_tests test_json_text.rt: values_are_written_compactly.
abbrev mutual
  pub compact_text : Tree → List ℕ
  compact_text null = codes "null"
  compact_text (truth true) = codes "true"
  compact_text (truth false) = codes "false"
  compact_text (number spelling) = spelling
  compact_text (text t) = quoted t
  compact_text (list items) = 91 ∷ (items_text items ++ 93 ∷ [])
  compact_text (object members) = 123 ∷ (members_text members ++ 125 ∷ [])

  pub items_text : Items → List ℕ
  items_text no_items = []
  items_text (item t items) = compact_text t ++ more_items_text items

  pub more_items_text : Items → List ℕ
  more_items_text no_items = []
  more_items_text (item t items) = 44 ∷ (compact_text t ++ more_items_text items)

  pub members_text : Members → List ℕ
  members_text no_members = []
  members_text (member key t members) = quoted key ++ 58 ∷ (compact_text t ++ more_members_text members)

  pub more_members_text : Members → List ℕ
  more_members_text no_members = []
  more_members_text (member key t members) = 44 ∷ (quoted key ++ 58 ∷ (compact_text t ++ more_members_text members))

-- no member has the key
abbrev pub LacksKey : List ℕ → Members → Type 0
LacksKey key no_members = Unit {0}
LacksKey key (member k t members) = (key ≢ k) × LacksKey key members

-- Numbers are spelled as in RFC 8259, texts and keys are UTF-8, and the keys of each object are distinct.
-- Shown by: text_tests test_json_text.rt: values_are_written_compactly.
abbrev mutual
  pub IsValue : Tree → Type 0
  IsValue null = Unit {0}
  IsValue (truth b) = Unit {0}
  IsValue (number spelling) = IsNumber spelling
  IsValue (text t) = IsUtf8 t
  IsValue (list items) = AreItems items
  IsValue (object members) = AreMembers members

  pub AreItems : Items → Type 0
  AreItems no_items = Unit {0}
  AreItems (item t items) = IsValue t × AreItems items

  pub AreMembers : Members → Type 0
  AreMembers no_members = Unit {0}
  AreMembers (member key t members) = IsUtf8 key × LacksKey key members × IsValue t × AreMembers members

-- How deep lists and objects are nested in a value. A node may have more levels than its value: `{"a":[[]],"a":1}` has 3 and 1.
-- Shown by: text_tests test_json_text.rt: a_hundred_levels_are_read_and_one_more_is_not.
abbrev mutual
  pub tree_levels : Tree → ℕ
  tree_levels null = 0
  tree_levels (truth b) = 0
  tree_levels (number spelling) = 0
  tree_levels (text t) = 0
  tree_levels (list items) = suc (items_levels items)
  tree_levels (object members) = suc (members_levels members)

  pub items_levels : Items → ℕ
  items_levels no_items = 0
  items_levels (item t items) = max (tree_levels t) (items_levels items)

  pub members_levels : Members → ℕ
  members_levels no_members = 0
  members_levels (member key t members) = max (tree_levels t) (members_levels members)
