-- A template with its names replaced, and the text that a target gets.
use Rattle.std.specs.Prelude.{ℕ, List, [], ◌∷◌, flat_map, Option, Some, None, unwrap_or}
use Rattle.json_text.specs.Tree.{Tree, null, truth, number, text, list, object, items_of, members_of}
use Rattle.json_text.specs.Node.{with_member}
use Rattle.json_text.specs.Access.{text_in}
use Rattle.json_text.specs.Compact.{compact_text}
use Rattle.input_transform.specs.Names.{Scene, value_in}
use Rattle.input_transform.specs.Template.{Part, byte, put, Content, null_content, truth_content, number_content, text_content, name_content, list_content, object_content, Contents, no_contents, content, Entries, no_entries, entry}

-- What a name becomes in a string: a string's characters, any other value's compact text, nothing if it is missing.
-- Shown by: text_tests test_input_transform.rt: filled_texts; tables input_transform.rows: each_kind_of_value_is_put_in.
abbrev pub inside_text : Option Tree → List ℕ
inside_text None = []
inside_text (Some tree) = unwrap_or (text_in tree) (compact_text tree)

abbrev pub part_text : Scene → Part → List ℕ
part_text scene (byte b) = b ∷ []
part_text scene (put source) = inside_text (value_in scene source)

-- The tree of a template with its names replaced. In the place of a value a name becomes its value, or `""` if it is missing. Of a repeated
-- key the first place and the last value count. What was put in is not searched again.
-- Shown by: text_tests test_input_transform.rt: filled_texts; tables input_transform.rows: a_template_is_filled, an_order_is_filled_in.
abbrev mutual
  pub filled : Scene → Content → Tree
  filled scene null_content = null
  filled scene (truth_content b) = truth b
  filled scene (number_content spelling) = number spelling
  filled scene (text_content parts) = text (flat_map (part_text scene) parts)
  filled scene (name_content source) = unwrap_or (value_in scene source) (text [])
  filled scene (list_content cs) = list (items_of (filled_all scene cs))
  filled scene (object_content es) = object (members_of (filled_after scene [] es))

  pub filled_all : Scene → Contents → List Tree
  filled_all scene no_contents = []
  filled_all scene (content c cs) = filled scene c ∷ filled_all scene cs

  pub filled_after : Scene → List (List ℕ × Tree) → Entries → List (List ℕ × Tree)
  filled_after scene before no_entries = before
  filled_after scene before (entry key c es) = filled_after scene (with_member key (filled scene c) before) es
