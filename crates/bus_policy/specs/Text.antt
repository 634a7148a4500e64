-- Which texts spell policies, and the first fault of any other.
use Rattle.std.specs.Prelude.{◌≡◌, ◌≤◌, ◌<◌, ◌⊎◌, ℕ, List, length, Some, None}
use Rattle.json_text.specs.Tree.{Tree}
use Rattle.json_text.specs.Node.{Node, value_of, first_repeat}
use Rattle.json_text.specs.Grammar.{IsText}
use Rattle.json_text.specs.Faults.{FailsAt, OpensTooMany}
use Rattle.bus_policy.specs.declared.fault.PolicyCause.{PolicyCause}
use Rattle.bus_policy.specs.declared.fault.PolicyCause.TheVariants.{TooLong, NotJson, TooDeep, KeyTwice, NotObject, BadVersion, BadSid}
use Rattle.bus_policy.specs.declared.fault.PolicyCause.TheVariants.{BadEffect, BadPrincipal, BadAction, BadResource, BadCondition}
use Rattle.bus_policy.specs.declared.fault.PolicyCause.TheVariants.{UnknownMember}
use Rattle.bus_policy.specs.Grammar.{IsPolicy, fault_of}
use Rattle.bus_policy.specs.Stored.{stored_of}

-- The text is JSON within 100 levels (this project's own limit), no object has a key twice, and this is its value.
-- Shown by: tables bus_policy.rows: at_most_100_levels_are_read.
pub record Spells (bytes : List ℕ) (value : Tree) : Type 0 where
  pub node : Node
  pub spelled : IsText 100 bytes node
  pub once : first_repeat node ≡ None
  pub stands_for : value_of node ≡ value

-- The text, of at most 10,240 bytes (an EventBridge quota), spells this value, as it was given, which is a policy.
-- Shown by: tables bus_policy.rows: at_most_10240_bytes_are_read_and_more_may_be_stored.
pub record SpellsPolicy (bytes : List ℕ) (value : Tree) : Type 0 where
  pub short : length bytes ≤ 10240
  pub spelled : Spells bytes value
  pub is_policy : IsPolicy value

-- The text is a policy, and this is its stored form.
-- Shown by: tables bus_policy.rows: version_and_statements_are_stored_and_read_back.
pub record IsPolicyText (bytes : List ℕ) (policy : Tree) : Type 0 where
  pub value : Tree
  pub spelled : SpellsPolicy bytes value
  pub is_stored : policy ≡ stored_of value

-- no JSON within 100 levels, up to some byte, at which a level too many is opened or not
abbrev pub IsNoJson : List ℕ → Type 0
IsNoJson bytes = (at : ℕ) × FailsAt 100 bytes at × (¬ OpensTooMany 100 bytes at)

abbrev pub IsTooDeep : List ℕ → Type 0
IsTooDeep bytes = (at : ℕ) × FailsAt 100 bytes at × OpensTooMany 100 bytes at

-- JSON within 100 levels, and an object has a key twice
abbrev pub HasKeyTwice : List ℕ → Type 0
HasKeyTwice bytes = (node : Node) × (at : ℕ) × IsText 100 bytes node × (first_repeat node ≡ Some at)

-- the faults of the text itself, each if those before it are absent
abbrev pub IsSpellingFault : List ℕ → PolicyCause → Type 0
IsSpellingFault bytes TooLong = 10240 < length bytes
IsSpellingFault bytes NotJson = (length bytes ≤ 10240) × IsNoJson bytes
IsSpellingFault bytes TooDeep = (length bytes ≤ 10240) × IsTooDeep bytes
IsSpellingFault bytes KeyTwice = (length bytes ≤ 10240) × HasKeyTwice bytes
IsSpellingFault bytes NotObject = ⊥
IsSpellingFault bytes BadVersion = ⊥
IsSpellingFault bytes BadSid = ⊥
IsSpellingFault bytes BadEffect = ⊥
IsSpellingFault bytes BadPrincipal = ⊥
IsSpellingFault bytes BadAction = ⊥
IsSpellingFault bytes BadResource = ⊥
IsSpellingFault bytes BadCondition = ⊥
IsSpellingFault bytes UnknownMember = ⊥

-- the text spells a value that has the fault
abbrev pub HasValueFault : List ℕ → PolicyCause → ℕ → Type 0
HasValueFault bytes cause place = (length bytes ≤ 10240) × ((value : Tree) × Spells bytes value × (fault_of value ≡ Some (cause, place)))

-- The first fault of a text that is no policy: its length, its JSON, a key twice, or the first fault of its value. The text's own faults
-- have the place 0.
-- Shown by: tables bus_policy.rows: the_first_fault_is_reported_at_its_place.
abbrev pub IsTextFault : List ℕ → PolicyCause → ℕ → Type 0
IsTextFault bytes cause place = (IsSpellingFault bytes cause × (place ≡ 0)) ⊎ HasValueFault bytes cause place
