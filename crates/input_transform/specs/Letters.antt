-- For private clauses alone: how a template's text is rewritten so that json_text reads it. Each string gets an `S` in front of its text,
-- and each name becomes a string of an `N` and the name. A text is a list of tokens: what is rewritten, and the bytes between.
use Rattle.std.specs.Prelude.{◌≡◌, ◌≢◌, ℕ, zero, suc, Bool, true, false, not, ◌==◌, List, [], ◌∷◌, ◌++◌, Some, unwrap_or, flat_map, if◌then◌else◌, drop, map}
use Rattle.std.specs.Option.{option_and_then}
use Rattle.json_text.specs.Grammar.{is_space}
use Rattle.json_text.specs.Compact.{escape}
use Rattle.json_text.specs.Tree.{Tree, null, truth, number, text, list, object, Items, no_items, item, Members, no_members, member}
use Rattle.input_transform.specs.declared.path.Step.{Step}
use Rattle.input_transform.specs.declared.piece.Known.{Known}
use Rattle.input_transform.specs.declared.piece.Pieces.{Pieces}
use Rattle.input_transform.specs.Names.{Scene, Source, Paths, source_named, value_in}
use Rattle.json_text.specs.Node.{Node, null_node, truth_node, number_node, text_node, list_node, object_node, Nodes, no_nodes, node, Fields, no_fields, field}
use Rattle.input_transform.specs.Template.{parts_after, Content, null_content, truth_content, number_content, text_content, name_content, list_content, object_content, Contents, no_contents, content, Entries, no_entries, entry}
use Rattle.input_transform.specs.Filled.{part_text}
use Rattle.input_transform.specs.Stored.{known_value, pieces_text}

-- A byte outside strings and names; what is between the quotation marks of a string; a name.
pub data Token : Type 0 where
  plain : ℕ → Token
  string : List ℕ → Token
  name : List ℕ → Token

-- the bytes have no quotation mark without a backslash before it, and no backslash at the end; after a backslash if `escaped`
abbrev pub is_inside : Bool → List ℕ → Bool
is_inside escaped [] = not escaped
is_inside true (b ∷ bs) = is_inside false bs
is_inside false (b ∷ bs) = if b == 34 then false else is_inside (b == 92) bs

-- white space, and then a colon
abbrev pub colon_next : List ℕ → Bool
colon_next [] = false
colon_next (b ∷ bs) = if is_space b then colon_next bs else b == 58

abbrev pub token_given : Token → List ℕ
token_given (plain b) = b ∷ []
token_given (string inside) = 34 ∷ (inside ++ 34 ∷ [])
token_given (name n) = 60 ∷ (n ++ 62 ∷ [])

abbrev pub token_letters : Token → List ℕ
token_letters (plain b) = b ∷ []
token_letters (string inside) = 34 ∷ 83 ∷ (inside ++ 34 ∷ [])
token_letters (name n) = 34 ∷ 78 ∷ (n ++ 34 ∷ [])

-- a token before these bytes; a name is known, and no key
abbrev pub IsToken : Paths → Token → List ℕ → Type 0
IsToken paths (plain b) after = (b ≢ 34) × (b ≢ 60)
IsToken paths (string inside) after = is_inside false inside ≡ true
IsToken paths (name n) after = (source : Source) × (source_named paths n ≡ Some source) × (colon_next after ≡ false)

-- the bytes are a token and then these
abbrev pub BeginsToken : Paths → List ℕ → Token → List ℕ → Type 0
BeginsToken paths bytes t after = (bytes ≡ token_given t ++ after) × IsToken paths t after

abbrev pub given : List Token → List ℕ
given [] = []
given (t ∷ ts) = token_given t ++ given ts

abbrev pub letters : List Token → List ℕ
letters [] = []
letters (t ∷ ts) = token_letters t ++ letters ts

abbrev pub AreTokens : Paths → List Token → Type 0
AreTokens paths [] = Unit {0}
AreTokens paths (t ∷ ts) = IsToken paths t (given ts) × AreTokens paths ts

-- the paths without their keys
abbrev pub steps_of : Paths → List (List Step)
steps_of = map (λ p. p.1)

-- a stored name has the values of what a name stands for
abbrev pub StandsFor : List (List Step) → Known → Source → Type 0
StandsFor paths known source = (scene : Scene) → known_value scene paths known ≡ value_in scene source

-- the value of a name, or the empty text
abbrev pub named_value : Paths → Scene → List ℕ → Tree
named_value paths scene n = unwrap_or (option_and_then (value_in scene) (source_named paths n)) (text [])

-- a string's text with its letter, as it is filled
abbrev pub filled_string : Paths → Scene → List ℕ → Tree
filled_string paths scene [] = text []
filled_string paths scene (letter ∷ t) =
    if letter == 78 then named_value paths scene t else text (flat_map (part_text scene) (parts_after paths 0 t))

-- a rewritten value, as it is filled
abbrev mutual
  pub filled_back : Paths → Scene → Tree → Tree
  filled_back paths scene null = null
  filled_back paths scene (truth b) = truth b
  filled_back paths scene (number spelling) = number spelling
  filled_back paths scene (text t) = filled_string paths scene t
  filled_back paths scene (list items) = list (items_back paths scene items)
  filled_back paths scene (object inside) = object (members_back paths scene inside)

  pub items_back : Paths → Scene → Items → Items
  items_back paths scene no_items = no_items
  items_back paths scene (item t items) = item (filled_back paths scene t) (items_back paths scene items)

  pub members_back : Paths → Scene → Members → Members
  members_back paths scene no_members = no_members
  members_back paths scene (member key t inside) = member (drop 1 key) (filled_back paths scene t) (members_back paths scene inside)

-- the text of pieces that are still written
abbrev pub shown : Scene → List (List Step) → Pieces → List ℕ
shown scene paths p = pieces_text scene paths p.done.items ++ p.run

-- A node of the rewritten text, and what the template gives: strings have an `S` before their text, names are strings of an `N` and the name.
abbrev mutual
  pub Lettered : Paths → Node → Content → Type 0
  Lettered paths n null_content = n ≡ null_node
  Lettered paths n (truth_content b) = n ≡ truth_node b
  Lettered paths n (number_content spelling) = n ≡ number_node spelling
  Lettered paths n (text_content parts) = (t : List ℕ) × (n ≡ text_node (83 ∷ t)) × (parts ≡ parts_after paths 0 t)
  Lettered paths n (name_content source) = (m : List ℕ) × (n ≡ text_node (78 ∷ m)) × (source_named paths m ≡ Some source)
  Lettered paths n (list_content cs) = (ns : Nodes) × (n ≡ list_node ns) × LetteredAll paths ns cs
  Lettered paths n (object_content es) = (fs : Fields) × (n ≡ object_node fs) × LetteredEntries paths fs es

  pub LetteredAll : Paths → Nodes → Contents → Type 0
  LetteredAll paths ns no_contents = ns ≡ no_nodes
  LetteredAll paths ns (content c cs) = (m : Node) × (ms : Nodes) × (ns ≡ node m ms) × Lettered paths m c × LetteredAll paths ms cs

  pub LetteredEntries : Paths → Fields → Entries → Type 0
  LetteredEntries paths fs no_entries = fs ≡ no_fields
  LetteredEntries paths fs (entry key c es) = (place : ℕ) × (n : Node) × (gs : Fields) × (fs ≡ field place (83 ∷ key) n gs) × Lettered paths n c
      × LetteredEntries paths gs es

-- a string's text as it is written in a string, with its names replaced
abbrev pub inside_of : Paths → Scene → List ℕ → List ℕ
inside_of paths scene t = flat_map escape (flat_map (part_text scene) (parts_after paths 0 t))

-- a comma before each element but the first
abbrev pub comma_of : ℕ → List ℕ
comma_of zero = []
comma_of (suc i) = 44 ∷ []
