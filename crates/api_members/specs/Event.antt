-- The text of an event that a pattern is tested on.
use Rattle.std.specs.Prelude.{◌≡◌, ℕ, Bool, ◌&&◌, List, codes, is_some, IsTrue}
use Rattle.json_text.specs.Tree.{Tree, Members}
use Rattle.json_text.specs.Node.{Node, value_of}
use Rattle.json_text.specs.Grammar.{IsText}
use Rattle.json_text.specs.Access.{member_in}
use Rattle.api_members.specs.Given.{object_in}
use Rattle.api_members.specs.JsonType.{must_pass}

-- there is a member with this key; here null counts as there
abbrev pub has_member : Members → List ℕ → Bool
has_member ms key = is_some (member_in key ms)

-- there is a member with each of these seven keys
abbrev pub are_event_members : Members → Bool
are_event_members ms = has_member ms (codes "id") && has_member ms (codes "account") && has_member ms (codes "source")
    && has_member ms (codes "time") && has_member ms (codes "region") && has_member ms (codes "resources") && has_member ms (codes "detail-type")

-- An object with the members `id`, `account`, `source`, `time`, `region`, `resources` and `detail-type`, whatever their values; null counts
-- as there. `version` and `detail` may be absent.
-- Shown by: an_event_without_an_id_is_read.edit.
abbrev pub is_event : Tree → Bool
is_event tree = must_pass are_event_members (object_in tree)

-- The text is JSON within 100 levels, of this event. A repeated key keeps its last value.
-- Shown by: tables api_wire.rows: a_pattern_is_refused_before_its_event.
abbrev pub IsEventGiven : List ℕ → Tree → Type 0
IsEventGiven t event = (node : Node) × IsText 100 t node × (value_of node ≡ event) × IsTrue (is_event event)

-- the text is that of some event
abbrev pub GivesEvent : List ℕ → Type 0
GivesEvent t = (event : Tree) × IsEventGiven t event
