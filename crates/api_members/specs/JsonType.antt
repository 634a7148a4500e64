-- JSON types that members have to have.
use Rattle.std.specs.Prelude.{Bool, true, false, ◌&&◌, Option, Some, None}
use Rattle.std.specs.List.{list_all}
use Rattle.json_text.specs.Tree.{Tree, number, text, list, object, Members, no_members, member}
use Rattle.json_text.specs.Access.{is_text, trees_in}
use Rattle.api_members.specs.declared.json_type.JsonType.{JsonType}
use Rattle.api_members.specs.declared.json_type.JsonType.TheVariants as is

-- each value of the object passes
abbrev pub each_value : (Tree → Bool) → Members → Bool
each_value test no_members = true
each_value test (member key t members) = test t && each_value test members

-- The value has this JSON type: text, number, number or text, list of texts, object of texts.
-- Shown by: tables api_wire.rows: entries_have_their_json_types.
abbrev pub has_type : JsonType → Tree → Bool
has_type is.Text tree = is_text tree
has_type is.Number (number spelling) = true
has_type is.NumberOrText (number spelling) = true
has_type is.NumberOrText (text t) = true
has_type is.Texts (list items) = list_all is_text (trees_in items)
has_type is.TextMap (object members) = each_value is_text members
has_type _ _ = false

-- nothing is given, or it passes
abbrev pub may_pass : {X : Type 0} → (X → Bool) → Option X → Bool
may_pass test None = true
may_pass test (Some x) = test x

-- something is given, and it passes
abbrev pub must_pass : {X : Type 0} → (X → Bool) → Option X → Bool
must_pass test None = false
must_pass test (Some x) = test x

-- nothing is given, or a value of this type
abbrev pub may_be : JsonType → Option Tree → Bool
may_be type value = may_pass (has_type type) value

-- a value of this type is given
abbrev pub must_be : JsonType → Option Tree → Bool
must_be type value = must_pass (has_type type) value
