-- For private clauses alone: what the reader keeps, beside a state of `Reading`.
use Rattle.std.specs.Prelude.{◌≡◌, ℕ, ◌+◌, ◌<◌, true, false, List, [], ◌∷◌, length, drop, map, reverse, Option, Some, None, Result, Ok, Err, if◌then◌else◌}
use Rattle.std.specs.List.{list_any}
use Rattle.std.specs.Str.{bytes_eq}
use Rattle.json_text.specs.Tree.{Tree}
use Rattle.json_text.specs.View.{tree_of, trees_of, pairs_of}
use Rattle.json_text.specs.Node.{Node, value_of, members_after, with_member, first_of, first_repeat, first_repeat_in, first_repeat_after}
use Rattle.json_text.specs.Objects.{with_value}
use Rattle.json_text.specs.Grammar.{is_space}
use Rattle.json_text.specs.Reading.{Member, Waiting, in_list, in_object, nodes_of, fields_of, State, value, first_item, after_item, first_key, next_key, after_member, whole, Fault, unexpected, too_deep, read_from, step, digits, word, NumberPart, between}
use Rattle.json_text.specs.Scan.{scan_string}
use Rattle.json_text.specs.declared.value.Json.{Json}
use Rattle.json_text.specs.declared.fault.JsonFault.{JsonFault}
use Rattle.json_text.specs.declared.fault.JsonFault.TheVariants.{NotJson, TooDeep, KeyTwice, NoMemory}
use Rattle.json_text.specs.declared.state.Kept.{Kept}
use Rattle.json_text.specs.declared.state.Kept.TheVariants.{List as kept_list, Object as kept_object}
use Rattle.json_text.specs.declared.state.Place.{Place}
use Rattle.json_text.specs.declared.state.Next.{Next}
use Rattle.json_text.specs.declared.state.Next.TheVariants.{Value, FirstItem, AfterItem, FirstKey, NextKey, AfterMember, End}

-- the keys of members after other keys, the last one first
abbrev pub keys_after : List (List ℕ) → List Member → List (List ℕ)
keys_after keys [] = keys
keys_after keys (m ∷ ms) = keys_after (m.key ∷ keys) ms

-- the place of a key that members before it have too
abbrev pub repeat_at : List (List ℕ) → ℕ → List ℕ → Option ℕ
repeat_at keys place key = if list_any (bytes_eq key) keys then Some place else None

-- the first repeated key of what waits, the outermost of it first in the text
abbrev pub repeat_in : Waiting → Option ℕ
repeat_in (in_list ns) = first_repeat_in (nodes_of ns)
repeat_in (in_object ms place key) = first_of (first_repeat_after [] (fields_of ms)) (repeat_at (keys_after [] ms) place key)

abbrev pub repeat_of : List Waiting → Option ℕ
repeat_of [] = None
repeat_of (w ∷ outer) = first_of (repeat_of outer) (repeat_in w)

-- the code's list or object that is open has the values so far of the state's
abbrev pub Keeps : Kept → Waiting → Type 0
Keeps (kept_list items) (in_list ns) = trees_of items.items ≡ map value_of ns
Keeps (kept_list items) (in_object ms place key) = ⊥
Keeps (kept_object o) (in_list ns) = ⊥
Keeps (kept_object o) (in_object ms place key) =
    (t : Tree) → with_value o.slot t (pairs_of o.object.value.members.items) ≡ with_member key t (members_after [] (fields_of ms))

-- the innermost first
abbrev pub KeepsAll : List Kept → List Waiting → Type 0
KeepsAll [] [] = Unit {0}
KeepsAll [] (w ∷ ws) = ⊥
KeepsAll (k ∷ ks) [] = ⊥
KeepsAll (k ∷ ks) (w ∷ ws) = Keeps k w × KeepsAll ks ws

-- the members so far
abbrev pub HoldsMembers : List (List ℕ × Json) → List Member → Type 0
HoldsMembers members ms = pairs_of members ≡ members_after [] (fields_of ms)

-- What comes next, the open lists and objects (the innermost last) and the first repeated key are those of the state.
abbrev pub IsState : Next → List Kept → Option ℕ → State → Type 0
IsState Value waiting repeat s = (outer : List Waiting) × (s ≡ value outer) × KeepsAll (reverse waiting) outer × (repeat ≡ repeat_of outer)
IsState FirstItem waiting repeat s = (outer : List Waiting) × (s ≡ first_item outer) × KeepsAll (reverse waiting) outer × (repeat ≡ repeat_of outer)
IsState (AfterItem items) waiting repeat s = (ns : List Node) × (outer : List Waiting) × (s ≡ after_item ns outer) × KeepsAll (reverse waiting) outer
    × (repeat ≡ first_of (repeat_of outer) (first_repeat_in (nodes_of ns))) × (trees_of items.items ≡ map value_of ns)
IsState FirstKey waiting repeat s = (outer : List Waiting) × (s ≡ first_key outer) × KeepsAll (reverse waiting) outer × (repeat ≡ repeat_of outer)
IsState (NextKey object) waiting repeat s = (ms : List Member) × (outer : List Waiting) × (s ≡ next_key ms outer) × KeepsAll (reverse waiting) outer
    × (repeat ≡ first_of (repeat_of outer) (first_repeat_after [] (fields_of ms))) × HoldsMembers object.value.members.items ms
IsState (AfterMember object) waiting repeat s = (ms : List Member) × (outer : List Waiting) × (s ≡ after_member ms outer) × KeepsAll (reverse waiting) outer
    × (repeat ≡ first_of (repeat_of outer) (first_repeat_after [] (fields_of ms))) × HoldsMembers object.value.members.items ms
IsState (End json) waiting repeat s = (n : Node) × (s ≡ whole n) × (tree_of json ≡ value_of n) × (repeat ≡ first_repeat n)

-- Bytes give this fault.
abbrev pub FailsSo : Result Node Fault → JsonFault → Type 0
FailsSo gives (NotJson at) = gives ≡ Err (record { why = unexpected; at = at })
FailsSo gives (TooDeep at) = gives ≡ Err (record { why = too_deep; at = at })
FailsSo gives (KeyTwice at) = ⊥
FailsSo gives NoMemory = Unit {0}

-- what a text gives from a place on
abbrev pub read_at : ℕ → Place → State → Result Node Fault
read_at levels place s = read_from levels place.at s place.rest.now

-- A turn goes on from the state at the place to a later place, with what comes, is open and is repeated then; or it returns the fault.
abbrev pub Goes : ℕ → State → Place → Result (Next × Place) JsonFault → List Kept → Option ℕ → Type 0
Goes levels s place (Ok r) waiting repeat = (other : State) × IsState r.0 waiting repeat other
    × (read_at levels place s ≡ read_at levels r.1 other) × (length r.1.rest.now < length place.rest.now)
Goes levels s place (Err e) waiting repeat = FailsSo (read_at levels place s) e

-- the first byte, if there is one, is no white space
abbrev pub StartsWithNoSpace : List ℕ → Type 0
StartsWithNoSpace [] = Unit {0}
StartsWithNoSpace (b ∷ bs) = is_space b ≡ false

abbrev pub StartsWith : ℕ → List ℕ → Type 0
StartsWith c [] = ⊥
StartsWith c (b ∷ bs) = b ≡ c

-- white space changes nothing
abbrev pub SkipsSpace : ℕ → State → Type 0
SkipsSpace levels s = (at b : ℕ) → is_space b ≡ true → step levels at s b ≡ Ok s

-- a turn of which only the open lists and objects are known
abbrev pub GoesOn : (List Waiting → State) → ℕ → Place → Result (Next × Place) JsonFault → List Kept → Option ℕ → List Kept → Option ℕ → Type 0
GoesOn state levels place result old old_repeat new new_repeat =
    (outer : List Waiting) → KeepsAll (reverse old) outer → old_repeat ≡ repeat_of outer → Goes levels (state outer) place result new new_repeat

-- the first byte of a number, and the part that it is
abbrev pub BeginsNumber : NumberPart → List ℕ → Type 0
BeginsNumber part [] = ⊥
BeginsNumber part (b ∷ bs) = (b < 128) × ((levels at : ℕ) (outer : List Waiting) → step levels at (value outer) b ≡ Ok (digits part (b ∷ []) outer))

-- the first byte of a word, of which the others are given
abbrev pub BeginsWord : List ℕ → Node → List ℕ → Type 0
BeginsWord [] n bytes = ⊥
BeginsWord (c ∷ cs) n [] = ⊥
BeginsWord (c ∷ cs) n (b ∷ bs) = (levels at : ℕ) (outer : List Waiting) → step levels at (value outer) b ≡ Ok (word c cs n outer)

-- a string at the place can't go on
abbrev pub StringFault : Place → JsonFault → Type 0
StringFault place (NotJson at) = (n : ℕ) × (scan_string between [] 0 (drop 1 place.rest.now) ≡ Err n) × (at ≡ place.at + 1 + n)
StringFault place (TooDeep at) = ⊥
StringFault place (KeyTwice at) = ⊥
StringFault place NoMemory = Unit {0}

-- what comes after the bracket at the front
abbrev pub Opens : Next → List ℕ → Type 0
Opens Value bytes = ⊥
Opens FirstItem bytes = StartsWith 91 bytes
Opens (AfterItem items) bytes = ⊥
Opens FirstKey bytes = StartsWith 123 bytes
Opens (NextKey object) bytes = ⊥
Opens (AfterMember object) bytes = ⊥
Opens (End json) bytes = ⊥
