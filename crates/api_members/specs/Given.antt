-- The members that are given. Null counts as absent, members that no call names are ignored. If two members have one key, the first
-- counts.
use Rattle.std.specs.Prelude.{ℕ, List, [], Option, Some, None, option_and_then, unwrap_or}
use Rattle.json_text.specs.Tree.{Tree, null, list, object, Members, no_members}
use Rattle.json_text.specs.Access.{member_in, text_in, trees_in}
use Rattle.api_replies.specs.Name.{member_name}
use Rattle.api_replies.specs.declared.member.Member.{Member}

-- the value itself; null counts as absent
abbrev pub unless_null : Tree → Option Tree
unless_null null = None
unless_null t = Some t

-- The value of the first member with this key; null counts as absent.
-- Shown by: a_null_member_counts.edit.
abbrev pub value_at : List ℕ → Members → Option Tree
value_at key members = option_and_then unless_null (member_in key members)

-- The `value_at` of the key of a member of the API (`member_name`).
-- Shown by: a_null_member_counts.edit.
abbrev pub given : Member → Members → Option Tree
given m members = value_at (member_name m) members

-- The member's text, if it is given as a text.
-- Shown by: tables api_wire.rows: a_request_has_what_the_message_gives.
abbrev pub text_given : Member → Members → Option (List ℕ)
text_given m members = option_and_then text_in (given m members)

-- The member's text, empty if no text is given.
-- Shown by: tables api_wire.rows: a_request_has_what_the_message_gives.
abbrev pub text_of : Member → Members → List ℕ
text_of m members = unwrap_or (text_given m members) []

-- the members of an object
abbrev pub object_in : Tree → Option Members
object_in (object members) = Some members
object_in _ = None

-- the values of a list
abbrev pub list_in : Tree → Option (List Tree)
list_in (list items) = Some (trees_in items)
list_in _ = None

-- The values of a member's list; none if no list is given.
-- Shown by: tables api_wire.rows: a_request_has_what_the_message_gives.
abbrev pub values_in : Member → Members → List Tree
values_in m members = unwrap_or (option_and_then list_in (given m members)) []

-- The members of an object; none if the value is no object.
-- Shown by: tables api_wire.rows: a_request_has_what_the_message_gives.
abbrev pub members_in : Tree → Members
members_in tree = unwrap_or (object_in tree) no_members
