-- JSON texts (RFC 8259, sections 2 to 5): bytes, the number of bytes before them, and the node that they spell.
use Rattle.std.specs.Prelude.{◌≡◌, ◌≤◌, ℕ, ◌+◌, true, false, List, [], ◌∷◌, ◌++◌, ◌||◌, ◌==◌, Bool, length, codes}
use Rattle.json_text.specs.Number.{IsNumber}
use Rattle.json_text.specs.Characters.{SpellsString}
use Rattle.json_text.specs.Node.{Node, null_node, truth_node, number_node, text_node, list_node, object_node, Nodes, no_nodes, node, Fields, no_fields, field, levels_of}

-- ws, one byte of it
abbrev pub is_space : ℕ → Bool
is_space b = (b == 32) || ((b == 9) || ((b == 10) || (b == 13)))

-- ws
abbrev pub IsSpace : List ℕ → Type 0
IsSpace [] = Unit {0}
IsSpace (b ∷ bs) = (is_space b ≡ true) × IsSpace bs

-- ws, bytes for which P holds, ws
abbrev pub Padded : (ℕ → List ℕ → Type 0) → ℕ → List ℕ → Type 0
Padded P at bytes = (before inside after : List ℕ) × (bytes ≡ before ++ (inside ++ after)) × IsSpace before × P (at + length before) inside × IsSpace after

-- the member's key with its colon, and bytes for which P holds
abbrev pub SpellsField : (ℕ → List ℕ → Type 0) → ℕ → List ℕ → ℕ → List ℕ → Type 0
SpellsField P at bytes place key = (before name gap rest : List ℕ) × (bytes ≡ before ++ (name ++ (gap ++ 58 ∷ rest)))
    × IsSpace before × (place ≡ at + length before) × SpellsString name key × IsSpace gap
    × P (at + length before + length name + length gap + 1) rest

abbrev mutual
  -- The grammar of RFC 8259, sections 2 to 5, one case a production: white space around each value and key and in empty brackets, commas
  -- between, a colon after each key.
  -- Shown by: text_tests test_json_text.rt: outside_cases_go_as_marked.
  pub SpellsValue : ℕ → List ℕ → Node → Type 0
  SpellsValue at bytes null_node = bytes ≡ codes "null"
  SpellsValue at bytes (truth_node true) = bytes ≡ codes "true"
  SpellsValue at bytes (truth_node false) = bytes ≡ codes "false"
  SpellsValue at bytes (number_node spelling) = (bytes ≡ spelling) × IsNumber spelling
  SpellsValue at bytes (text_node t) = SpellsString bytes t
  SpellsValue at bytes (list_node ns) = (inside : List ℕ) × (bytes ≡ 91 ∷ (inside ++ 93 ∷ [])) × SpellsItems (at + 1) inside ns
  SpellsValue at bytes (object_node fs) = (inside : List ℕ) × (bytes ≡ 123 ∷ (inside ++ 125 ∷ [])) × SpellsMembers (at + 1) inside fs

  -- [ value *( value-separator value ) ]
  pub SpellsItems : ℕ → List ℕ → Nodes → Type 0
  SpellsItems at bytes no_nodes = IsSpace bytes
  SpellsItems at bytes (node n ns) = (first rest : List ℕ) × (bytes ≡ first ++ rest)
      × Padded (λ place inside. SpellsValue place inside n) at first × SpellsMoreItems (at + length first) rest ns

  -- *( value-separator value )
  pub SpellsMoreItems : ℕ → List ℕ → Nodes → Type 0
  SpellsMoreItems at bytes no_nodes = bytes ≡ []
  SpellsMoreItems at bytes (node n ns) = (first rest : List ℕ) × (bytes ≡ 44 ∷ (first ++ rest))
      × Padded (λ place inside. SpellsValue place inside n) (at + 1) first × SpellsMoreItems (at + 1 + length first) rest ns

  -- [ member *( value-separator member ) ]
  pub SpellsMembers : ℕ → List ℕ → Fields → Type 0
  SpellsMembers at bytes no_fields = IsSpace bytes
  SpellsMembers at bytes (field place key n fs) = (first rest : List ℕ) × (bytes ≡ first ++ rest)
      × SpellsField (Padded (λ there inside. SpellsValue there inside n)) at first place key × SpellsMoreMembers (at + length first) rest fs

  -- *( value-separator member )
  pub SpellsMoreMembers : ℕ → List ℕ → Fields → Type 0
  SpellsMoreMembers at bytes no_fields = bytes ≡ []
  SpellsMoreMembers at bytes (field place key n fs) = (first rest : List ℕ) × (bytes ≡ 44 ∷ (first ++ rest))
      × SpellsField (Padded (λ there inside. SpellsValue there inside n)) (at + 1) first place key × SpellsMoreMembers (at + 1 + length first) rest fs

-- A value with white space around it: JSON-text = ws value ws (RFC 8259, section 2).
-- Shown by: text_tests test_json_text.rt: outside_cases_go_as_marked.
abbrev pub SpellsText : List ℕ → Node → Type 0
SpellsText bytes n = Padded (λ place inside. SpellsValue place inside n) 0 bytes

-- The text spells this node (RFC 8259), within this number of levels.
-- Shown by: text_tests test_json_text.rt: a_hundred_levels_are_read_and_one_more_is_not.
pub record IsText (levels : ℕ) (bytes : List ℕ) (n : Node) : Type 0 where
  pub spelled : SpellsText bytes n
  pub within : levels_of n ≤ levels
