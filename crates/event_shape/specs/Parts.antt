-- For private clauses only: the members of an event's text, put together and taken apart.
use Rattle.std.specs.Prelude.{◌≡◌, ◌≤◌, ℕ, List, [], ◌∷◌, map, codes}
use Rattle.std.specs.Str.{IsUtf8}
use Rattle.json_text.specs.Tree.{Tree, text, list, items_of}
use Rattle.json_text.specs.View.{tree_of, trees_of, pairs_of}
use Rattle.json_text.specs.Compact.{IsValue, AreItems, tree_levels}
use Rattle.json_text.specs.declared.value.Json.{Json}
use Rattle.event_shape.specs.declared.parts.Parts.{Parts}
use Rattle.event_shape.specs.declared.front.Front.{Front}
use Rattle.event_shape.specs.Names.{region}
use Rattle.event_shape.specs.Id.{event_id}
use Rattle.event_shape.specs.Event.{Event}

-- the members before the detail
abbrev pub front_members : Front → List (List ℕ × Tree)
front_members f =
    (codes "version", text (codes "0"))
    ∷ (codes "id", text f.id)
    ∷ (codes "detail-type", text f.detail_type)
    ∷ (codes "source", text f.source)
    ∷ (codes "account", text f.account)
    ∷ (codes "time", text f.time)
    ∷ (codes "region", text region)
    ∷ (codes "resources", list (items_of (trees_of f.resources.items)))
    ∷ []

-- the values of members, without their keys
abbrev pub values_in : List (List ℕ × Json) → List Tree
values_in members = map (λ m. m.1) (pairs_of members)

-- the values begin with these parts, in the order of an event's members; `version` and `region` are some texts
abbrev pub BeginsWith : List Tree → Parts → Type 0
BeginsWith values p = (version region : List ℕ) × (rest : List Tree)
    × (values ≡ text version ∷ text p.id ∷ text p.detail_type ∷ text p.source ∷ text p.account ∷ text p.time ∷ text region
    ∷ list (items_of (trees_of p.resources.items)) ∷ tree_of p.detail ∷ rest)

-- each part is the event's
pub record ArePartsOf (p : Parts) (e : Event) : Type 0 where
  pub id : p.id ≡ event_id e.number
  pub detail_type : p.detail_type ≡ e.detail_type
  pub source : p.source ≡ e.source
  pub account : p.account ≡ e.account
  pub time : p.time ≡ e.time
  pub resources : trees_of p.resources.items ≡ map text e.resources
  pub detail : tree_of p.detail ≡ e.detail

-- the parts come from a JSON value of at most 100 levels
pub record AreValid (p : Parts) : Type 0 where
  pub detail_type : IsUtf8 p.detail_type
  pub source : IsUtf8 p.source
  pub account : IsUtf8 p.account
  pub resources : AreItems (items_of (trees_of p.resources.items))
  pub detail : IsValue (tree_of p.detail)
  pub detail_levels : tree_levels (tree_of p.detail) ≤ 99
