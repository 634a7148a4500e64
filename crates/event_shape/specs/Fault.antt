-- The faults that an entry has by itself, in the order in which they are reported.
use Rattle.std.specs.Prelude.{◌≡◌, ◌==◌, ℕ, Bool, true, false, not, is_some, IsTrue, nat_eq, List, [], ◌∷◌, length, Option, Some, None, codes}
use Rattle.std.specs.List.{starts_with}
use Rattle.json_text.specs.Tree.{Tree}
use Rattle.json_text.specs.Node.{Node, value_of}
use Rattle.json_text.specs.Grammar.{IsText}
use Rattle.json_text.specs.Access.{IsObject}
use Rattle.event_shape.specs.declared.entry.EntryFault.{EntryFault}
use Rattle.event_shape.specs.declared.entry.EntryFault.TheVariants.{Source, DetailType, Detail, Time, Bus, Malformed, NotAuthorized}
use Rattle.event_shape.specs.declared.entry.CheckFault.{CheckFault}
use Rattle.event_shape.specs.declared.entry.CheckFault.TheVariants.{Entry, NoMemory}
use Rattle.event_shape.specs.Names.{bus_of_entry}
use Rattle.event_shape.specs.Time.{IsTime}
use Rattle.json_text.specs.Checks.{Check, else_fault}
use Rattle.event_shape.specs.Entry as entry

-- given and not empty
abbrev pub has_text : Option (List ℕ) → Bool
has_text None = false
has_text (Some t) = not (length t == 0)

-- no Time is given, or it gives a moment
abbrev pub GivesMoment : Option Tree → Type 0
GivesMoment None = Unit {0}
GivesMoment (Some tree) = (moment : ℕ) × IsTime tree moment

-- The text spells this JSON object within 99 levels: in the event the object is one level deeper.
-- Shown by: event_tests test_event_shape.rt: a_detail_has_at_most_99_levels.
abbrev pub IsDetail : List ℕ → Tree → Type 0
IsDetail bytes tree = (n : Node) × IsText 99 bytes n × (tree ≡ value_of n) × IsObject tree

-- no detail is given, or it is such an object
abbrev pub GivesDetail : Option (List ℕ) → Type 0
GivesDetail None = Unit {0}
GivesDetail (Some bytes) = (tree : Tree) × IsDetail bytes tree

-- sources that begin with `aws.` are reserved for the cloud's own events
abbrev pub is_reserved : List ℕ → Bool
is_reserved source = starts_with nat_eq source (codes "aws.")

-- no source is given, or it is not reserved
abbrev pub is_free : Option (List ℕ) → Bool
is_free None = true
is_free (Some source) = not (is_reserved source)

-- The conditions on an entry, in the order in which their faults are reported: a source and a detail type that are not empty; a detail; a
-- time that gives a moment, and a bus's name or ARN, if they are given; a detail that is a JSON object; a source that does not begin with
-- `aws.`. The source `aws` has no fault.
-- Shown by: event_tests test_event_shape.rt: the_first_fault_is_reported, faults_have_their_order.
abbrev pub entry_checks : entry.Entry → List (Check EntryFault)
entry_checks e =
    else_fault (IsTrue (has_text e.source)) Source
    ∷ else_fault (IsTrue (has_text e.detail_type)) DetailType
    ∷ else_fault (IsTrue (is_some e.detail)) Detail
    ∷ else_fault (GivesMoment e.time) Time
    ∷ else_fault (IsTrue (is_some (bus_of_entry e.bus))) Bus
    ∷ else_fault (GivesDetail e.detail) Malformed
    ∷ else_fault (IsTrue (is_free e.source)) NotAuthorized
    ∷ []

-- The number of conditions that are checked without memory: those before the detail is read.
-- Shown by: proofs alone.
abbrev pub without_memory : ℕ
without_memory = 5

-- out of memory, or the entry has this fault and its condition holds (no public clause names this)
abbrev pub IsMemoryOr : CheckFault → EntryFault → Type 0 → Type 0
IsMemoryOr NoMemory fault condition = Unit {0}
IsMemoryOr (Entry f) fault condition = (f ≡ fault) × condition
