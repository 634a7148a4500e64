-- The entries of a PutEvents: the JSON types of their members, and what is read of them. Faults of an entry come after that.
use Rattle.std.specs.Prelude.{ℕ, Bool, ◌&&◌, List, [], ◌∷◌, map}
use Rattle.json_text.specs.Tree.{Tree, text, Members}
use Rattle.event_shape.specs.Entry.{Entry}
use Rattle.api_replies.specs.declared.member.Member.TheVariants.{Source, DetailType, Detail, EventBusName, Resources, Time}
use Rattle.api_members.specs.declared.json_type.JsonType.TheVariants as is
use Rattle.api_members.specs.Given.{given, text_given, values_in, object_in, members_in}
use Rattle.api_members.specs.JsonType.{must_pass, may_be}

-- the members of an entry that are given have their JSON types
abbrev pub are_entry_members : Members → Bool
are_entry_members ms = may_be is.Text (given Source ms) && may_be is.Text (given DetailType ms) && may_be is.Text (given Detail ms)
    && may_be is.Text (given EventBusName ms) && may_be is.Texts (given Resources ms) && may_be is.NumberOrText (given Time ms)

-- An object whose members have the JSON types of an entry.
-- Shown by: tables api_wire.rows: entries_have_their_json_types.
abbrev pub is_entry : Tree → Bool
is_entry tree = must_pass are_entry_members (object_in tree)

-- The texts of a list, in order; a value that is no text is left out.
-- Shown by: tables api_wire.rows: a_call_on_a_rule_has_what_the_message_gives.
abbrev pub texts_of : List Tree → List (List ℕ)
texts_of [] = []
texts_of (text t ∷ values) = t ∷ texts_of values
texts_of (_ ∷ values) = texts_of values

-- The entry with these members, as they are given.
-- Shown by: tables api_wire.rows: a_request_has_what_the_message_gives.
abbrev pub entry_with : Members → Entry
entry_with ms = record {
  time = given Time ms;
  source = text_given Source ms;
  resources = texts_of (values_in Resources ms);
  detail_type = text_given DetailType ms;
  detail = text_given Detail ms;
  bus = text_given EventBusName ms;
}

-- The entries that the values of a list are, in order.
-- Shown by: tables api_wire.rows: a_request_has_what_the_message_gives.
abbrev pub entries_of : List Tree → List Entry
entries_of values = map (λ tree. entry_with (members_in tree)) values
