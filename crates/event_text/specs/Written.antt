-- For private clauses only: what the bytes begin with, written as compact text has it, and what is left of them.
use Rattle.std.specs.Prelude.{◌≡◌, ◌≤◌, ◌+◌, ◌*◌, ◌%◌, ◌==◌, ℕ, false, List, [], ◌∷◌, ◌++◌, flat_map, None, IsTrue}
use Rattle.std.specs.List.{list_any}
use Rattle.std.specs.Str.{IsUtf8}
use Rattle.json_text.specs.Tree.{Tree, items_of, members_of}
use Rattle.json_text.specs.Compact.{compact_text, items_text, members_text, escape, quoted, IsValue, AreItems, AreMembers, tree_levels, items_levels, members_levels}
use Rattle.event_shape.specs.Event.{Event, IsEvent, event_tree}
use Rattle.event_shape.specs.Names.{is_account}

-- bytes with a property
pub record Begins (P : List ℕ → Type 0) (bytes rest : List ℕ) : Type 0 where
  pub front : List ℕ
  pub has : P front
  pub written : bytes ≡ front ++ rest

-- the characters of a text
pub record BeginsText (t bytes rest : List ℕ) : Type 0 where
  pub utf8 : IsUtf8 t
  pub written : bytes ≡ flat_map escape t ++ rest

-- the value, within the levels
pub record BeginsValue (levels : ℕ) (tree : Tree) (bytes rest : List ℕ) : Type 0 where
  pub value : IsValue tree
  pub within : tree_levels tree ≤ levels
  pub written : bytes ≡ compact_text tree ++ rest

-- these values, with commas between
pub record BeginsItems (levels : ℕ) (ts : List Tree) (bytes rest : List ℕ) : Type 0 where
  pub items : AreItems (items_of ts)
  pub within : items_levels (items_of ts) ≤ levels
  pub written : bytes ≡ items_text (items_of ts) ++ rest

-- the hash of bytes after others with this hash
abbrev pub hash_from : ℕ → List ℕ → ℕ
hash_from hash [] = hash
hash_from hash (b ∷ bs) = hash_from ((hash * 16777619 + b) % 4294967296) bs

-- the hash of a key, as it is written with its last quotation mark
abbrev pub hash_of : List ℕ → ℕ
hash_of key = hash_from 0 (flat_map escape key ++ 34 ∷ [])

-- a key after its first quotation mark, with its hash, and its colon
pub record BeginsKey (hash : ℕ) (bytes rest : List ℕ) : Type 0 where
  pub key : List ℕ
  pub utf8 : IsUtf8 key
  pub hashed : hash ≡ hash_of key
  pub written : bytes ≡ flat_map escape key ++ 34 ∷ 58 ∷ rest

-- a member whose key has another hash than those before
pub record BeginsMember (levels : ℕ) (old new : List ℕ) (bytes rest : List ℕ) : Type 0 where
  pub key : List ℕ
  pub tree : Tree
  pub utf8 : IsUtf8 key
  pub value : IsValue tree
  pub within : tree_levels tree ≤ levels
  pub other : list_any (λ h. h == hash_of key) old ≡ false
  pub hashed : new ≡ old ++ hash_of key ∷ []
  pub written : bytes ≡ quoted key ++ 58 ∷ (compact_text tree ++ rest)

-- these members, with commas between
pub record BeginsMembers (levels : ℕ) (ms : List (List ℕ × Tree)) (bytes rest : List ℕ) : Type 0 where
  pub members : AreMembers (members_of ms)
  pub within : members_levels (members_of ms) ≤ levels
  pub written : bytes ≡ members_text (members_of ms) ++ rest

-- the text of an event with a number and an account
pub record BeginsEvent (bytes rest : List ℕ) : Type 0 where
  pub event : Event
  pub is_event : IsEvent event
  pub number : 1 ≤ event.number
  pub account : IsTrue (is_account event.account)
  pub written : bytes ≡ compact_text (event_tree event None) ++ rest
