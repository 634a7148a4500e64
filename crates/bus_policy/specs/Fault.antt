-- What the code's faults say.
use Rattle.std.specs.Prelude.{◌≡◌, ℕ, List, Some}
use Rattle.json_text.specs.Tree.{Tree}
use Rattle.json_text.specs.declared.fault.JsonFault.{JsonFault}
use Rattle.json_text.specs.declared.fault.JsonFault.TheVariants as json
use Rattle.bus_policy.specs.declared.fault.PolicyCause.TheVariants.{NotJson, TooDeep, KeyTwice}
use Rattle.bus_policy.specs.declared.fault.PolicyFault.{PolicyFault}
use Rattle.bus_policy.specs.declared.fault.PolicyFault.TheVariants.{Bad, NoMemory}
use Rattle.bus_policy.specs.Grammar.{fault_of}
use Rattle.bus_policy.specs.Text.{IsTextFault}

-- The code's fault is the first fault of the text, at its place, or out of memory.
-- Shown by: tables bus_policy.rows: the_first_fault_is_reported_at_its_place.
abbrev pub IsFirstFaultOrMemory : List ℕ → PolicyFault → Type 0
IsFirstFaultOrMemory bytes (Bad cause place) = IsTextFault bytes cause place
IsFirstFaultOrMemory bytes NoMemory = Unit {0}

-- the value's first fault, or out of memory (no public clause names this)
abbrev pub IsValueFault : Tree → PolicyFault → Type 0
IsValueFault value (Bad cause place) = fault_of value ≡ Some (cause, place)
IsValueFault value NoMemory = Unit {0}

-- what a fault of the JSON is for the policy (no public clause names this)
abbrev pub IsPolicyFaultOf : JsonFault → PolicyFault → Type 0
IsPolicyFaultOf (json.NotJson at) e = e ≡ Bad NotJson 0
IsPolicyFaultOf (json.TooDeep at) e = e ≡ Bad TooDeep 0
IsPolicyFaultOf (json.KeyTwice at) e = e ≡ Bad KeyTwice 0
IsPolicyFaultOf json.NoMemory e = e ≡ NoMemory
