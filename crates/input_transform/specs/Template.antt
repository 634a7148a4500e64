-- Templates: the grammar of RFC 8259 (as json_text has it) with one more case of a value, a name in angle brackets.
use Rattle.std.specs.Prelude.{◌≡◌, ◌≤◌, ℕ, zero, suc, max, Bool, true, false, ◌==◌, List, [], ◌∷◌, ◌++◌, length, Option, Some, None, codes, if◌then◌else◌}
use Rattle.std.specs.Option.{option_and_then, option_map}
use Rattle.json_text.specs.Number.{IsNumber}
use Rattle.json_text.specs.Characters.{SpellsString}
use Rattle.json_text.specs.Grammar.{IsSpace}
use Rattle.input_transform.specs.Names.{Source, Paths, is_name_byte, source_named}

-- A part of a string: a byte, or a name.
-- Shown by: text_tests test_input_transform.rt: filled_texts.
pub data Part : Type 0 where
  byte : ℕ → Part
  put : Source → Part

-- A JSON tree with names: in the place of a value, and in a string. Members are as they are written, also those with a repeated key.
-- Shown by: text_tests test_input_transform.rt: filled_texts.
mutual
  pub data Content : Type 0 where
    null_content : Content
    truth_content : Bool → Content
    number_content : List ℕ → Content
    text_content : List Part → Content
    name_content : Source → Content
    list_content : Contents → Content
    object_content : Entries → Content

  pub data Contents : Type 0 where
    no_contents : Contents
    content : Content → Contents → Contents

  pub data Entries : Type 0 where
    no_entries : Entries
    entry : List ℕ → Content → Entries → Entries

-- the bytes before the first `>`, if there is one and they may all be in a name
abbrev pub before_mark : List ℕ → Option (List ℕ)
before_mark [] = None
before_mark (b ∷ bs) =
    if b == 62 then Some [] else (if is_name_byte b then option_map (λ name. b ∷ name) (before_mark bs) else None)

-- the name whose `<` comes right before these bytes: the text up to the next `>`, if that is exactly a name; and its length
abbrev pub name_before : Paths → List ℕ → Option (Source × ℕ)
name_before paths bytes =
    option_and_then (λ name. option_map (λ source. (source, length name)) (source_named paths name)) (before_mark bytes)

-- the name in the place of its `<`, or `<` itself
abbrev pub part_of : Option (Source × ℕ) → Part
part_of None = byte 60
part_of (Some (source, n)) = put source

-- how many bytes after a `<` belong to the name: its own and `>`
abbrev pub taken_by : Option (Source × ℕ) → ℕ
taken_by None = 0
taken_by (Some (source, n)) = suc n

-- The parts of a string's text after some bytes, which belong to a name before it. Names are found from left to right, and a `<` that
-- begins none is itself.
-- Shown by: text_tests test_input_transform.rt: filled_texts.
abbrev pub parts_after : Paths → ℕ → List ℕ → List Part
parts_after paths taken [] = []
parts_after paths (suc taken) (b ∷ bs) = parts_after paths taken bs
parts_after paths zero (b ∷ bs) =
    if b == 60 then part_of (name_before paths bs) ∷ parts_after paths (taken_by (name_before paths bs)) bs
    else byte b ∷ parts_after paths 0 bs

-- ws, bytes for which P holds, ws
abbrev pub Around : (List ℕ → Type 0) → List ℕ → Type 0
Around P bytes = (before inside after : List ℕ) × (bytes ≡ before ++ (inside ++ after)) × IsSpace before × P inside × IsSpace after

-- a member's key with its colon, and bytes for which P holds
abbrev pub Keyed : (List ℕ → Type 0) → List ℕ → List ℕ → Type 0
Keyed P bytes key = (before name gap rest : List ℕ) × (bytes ≡ before ++ (name ++ (gap ++ 58 ∷ rest)))
    × IsSpace before × SpellsString name key × IsSpace gap × P rest

abbrev mutual
  -- The grammar of RFC 8259, sections 2 to 5, one case a production, and `<name>` as a value. Keys are literal.
  -- Shown by: text_tests test_input_transform.rt: templates.
  pub SpellsContent : Paths → List ℕ → Content → Type 0
  SpellsContent paths bytes null_content = bytes ≡ codes "null"
  SpellsContent paths bytes (truth_content true) = bytes ≡ codes "true"
  SpellsContent paths bytes (truth_content false) = bytes ≡ codes "false"
  SpellsContent paths bytes (number_content spelling) = (bytes ≡ spelling) × IsNumber spelling
  SpellsContent paths bytes (text_content parts) = (text : List ℕ) × SpellsString bytes text × (parts ≡ parts_after paths 0 text)
  SpellsContent paths bytes (name_content source) = (name : List ℕ) × (bytes ≡ 60 ∷ (name ++ 62 ∷ [])) × (source_named paths name ≡ Some source)
  SpellsContent paths bytes (list_content cs) = (inside : List ℕ) × (bytes ≡ 91 ∷ (inside ++ 93 ∷ [])) × SpellsContents paths inside cs
  SpellsContent paths bytes (object_content es) = (inside : List ℕ) × (bytes ≡ 123 ∷ (inside ++ 125 ∷ [])) × SpellsEntries paths inside es

  -- [ value *( value-separator value ) ]
  pub SpellsContents : Paths → List ℕ → Contents → Type 0
  SpellsContents paths bytes no_contents = IsSpace bytes
  SpellsContents paths bytes (content c cs) = (first rest : List ℕ) × (bytes ≡ first ++ rest)
      × Around (λ inside. SpellsContent paths inside c) first × SpellsMoreContents paths rest cs

  -- *( value-separator value )
  pub SpellsMoreContents : Paths → List ℕ → Contents → Type 0
  SpellsMoreContents paths bytes no_contents = bytes ≡ []
  SpellsMoreContents paths bytes (content c cs) = (first rest : List ℕ) × (bytes ≡ 44 ∷ (first ++ rest))
      × Around (λ inside. SpellsContent paths inside c) first × SpellsMoreContents paths rest cs

  -- [ member *( value-separator member ) ]
  pub SpellsEntries : Paths → List ℕ → Entries → Type 0
  SpellsEntries paths bytes no_entries = IsSpace bytes
  SpellsEntries paths bytes (entry key c es) = (first rest : List ℕ) × (bytes ≡ first ++ rest)
      × Keyed (Around (λ inside. SpellsContent paths inside c)) first key × SpellsMoreEntries paths rest es

  -- *( value-separator member )
  pub SpellsMoreEntries : Paths → List ℕ → Entries → Type 0
  SpellsMoreEntries paths bytes no_entries = bytes ≡ []
  SpellsMoreEntries paths bytes (entry key c es) = (first rest : List ℕ) × (bytes ≡ 44 ∷ (first ++ rest))
      × Keyed (Around (λ inside. SpellsContent paths inside c)) first key × SpellsMoreEntries paths rest es

-- How deep lists and objects are nested.
-- Shown by: text_tests test_input_transform.rt: templates.
abbrev mutual
  pub content_levels : Content → ℕ
  content_levels null_content = 0
  content_levels (truth_content b) = 0
  content_levels (number_content spelling) = 0
  content_levels (text_content parts) = 0
  content_levels (name_content source) = 0
  content_levels (list_content cs) = suc (contents_levels cs)
  content_levels (object_content es) = suc (entries_levels es)

  pub contents_levels : Contents → ℕ
  contents_levels no_contents = 0
  contents_levels (content c cs) = max (content_levels c) (contents_levels cs)

  pub entries_levels : Entries → ℕ
  entries_levels no_entries = 0
  entries_levels (entry key c es) = max (content_levels c) (entries_levels es)

-- The text is a template that gives this tree: one value with white space around it, at most 100 levels.
-- Shown by: text_tests test_input_transform.rt: templates; tables input_transform.rows: texts_are_templates_or_none.
pub record IsTemplate (paths : Paths) (bytes : List ℕ) (c : Content) : Type 0 where
  pub spelled : Around (λ inside. SpellsContent paths inside c) bytes
  pub within : content_levels c ≤ 100
