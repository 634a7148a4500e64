-- An event: its members, its tree and its text; and how an entry becomes one.
use Rattle.std.specs.Prelude.{◌≡◌, ◌≢◌, false, ◌<◌, ◌≤◌, ◌^◌, ℕ, List, [], ◌∷◌, ◌++◌, Option, Some, None, IfSome, unwrap_or, All, codes, map}
use Rattle.std.specs.Prelude.{refl}
use Rattle.std.specs.Coded.{Coded, code_by, coded×, coded_ℕ, coded_list, coded_option}
use Rattle.std.specs.Str.{IsUtf8}
use Rattle.json_text.specs.Code.{tree_code}
use Rattle.json_text.specs.Moment.{IsMoment}
use Rattle.json_text.specs.Tree.{Tree, text, list, object, items_of, members_of}
use Rattle.json_text.specs.Compact.{compact_text, IsValue, tree_levels}
use Rattle.json_text.specs.Access.{IsObject}
use Rattle.json_text.specs.Checks.{AllHold}
use Rattle.event_shape.specs.Names.{region, bus_of_entry}
use Rattle.event_time.specs.Time.{IsIso}
use Rattle.event_shape.specs.Time.{IsTime}
use Rattle.event_shape.specs.Id.{event_id}
use Rattle.event_shape.specs.Entry.{Entry}
use Rattle.event_shape.specs.Fault.{entry_checks, IsDetail, is_reserved}

-- The members of an event except version and region, which are the same in all. Its id is given by its number.
-- Shown by: event_tests test_event_shape.rt: an_event_has_its_exact_text.
pub record Event : Type 0 where
  pub number : ℕ
  pub detail_type : List ℕ
  pub source : List ℕ
  pub account : List ℕ
  pub time : List ℕ
  pub resources : List (List ℕ)
  pub detail : Tree

-- for proofs: unequal texts, events and records of an entry's members have unequal codes
abbrev pub text_code : Coded (List ℕ)
text_code = coded_list coded_ℕ

abbrev pub event_code : Coded Event
event_code = code_by (ℕ × (List ℕ × (List ℕ × (List ℕ × (List ℕ × (List (List ℕ) × Tree))))))
    (coded× coded_ℕ (coded× text_code (coded× text_code (coded× text_code (coded× text_code (coded× (coded_list text_code) tree_code))))))
    (λ e. (e.number, (e.detail_type, (e.source, (e.account, (e.time, (e.resources, e.detail)))))))
    (λ (n, (dt, (s, (a, (t, (r, d)))))). record { number = n; detail_type = dt; source = s; account = a; time = t; resources = r; detail = d })
    (λ _. refl)

abbrev pub replay_member : Option (List ℕ) → List (List ℕ × Tree)
replay_member None = []
replay_member (Some name) = (codes "replay-name", text name) ∷ []

-- The members of the event envelope of EventBridge, in their order.
-- Shown by: event_tests test_event_shape.rt: an_event_has_its_exact_text.
abbrev pub event_members : Event → List (List ℕ × Tree)
event_members e =
    (codes "version", text (codes "0"))
    ∷ (codes "id", text (event_id e.number))
    ∷ (codes "detail-type", text e.detail_type)
    ∷ (codes "source", text e.source)
    ∷ (codes "account", text e.account)
    ∷ (codes "time", text e.time)
    ∷ (codes "region", text region)
    ∷ (codes "resources", list (items_of (map text e.resources)))
    ∷ (codes "detail", e.detail)
    ∷ []

-- absent, or UTF-8
abbrev pub IsUtf8IfGiven : Option (List ℕ) → Type 0
IsUtf8IfGiven None = Unit {0}
IsUtf8IfGiven (Some t) = IsUtf8 t

-- The event as a JSON object. A replayed event has the member `replay-name` last.
-- Shown by: event_tests test_event_shape.rt: an_event_has_its_exact_text.
abbrev pub event_tree : Event → Option (List ℕ) → Tree
event_tree e replay = object (members_of (event_members e ++ replay_member replay))

-- The members of an entry without a fault.
-- Shown by: event_tests test_event_shape.rt: the_first_fault_is_reported.
pub record Checked : Type 0 where
  pub source : List ℕ
  pub detail_type : List ℕ
  pub resources : List (List ℕ)
  pub time : Option ℕ
  pub detail : Tree
  pub bus : List ℕ

abbrev pub checked_code : Coded Checked
checked_code = code_by (List ℕ × (List ℕ × (List (List ℕ) × (Option ℕ × (Tree × List ℕ)))))
    (coded× text_code (coded× text_code (coded× (coded_list text_code) (coded× (coded_option coded_ℕ) (coded× tree_code text_code)))))
    (λ c. (c.source, (c.detail_type, (c.resources, (c.time, (c.detail, c.bus))))))
    (λ (s, (dt, (r, (t, (d, b))))). record { source = s; detail_type = dt; resources = r; time = t; detail = d; bus = b })
    (λ _. refl)

-- the moment of the Time, if one is given
abbrev pub IsTimeOf : Option Tree → Option ℕ → Type 0
IsTimeOf None time = time ≡ None
IsTimeOf (Some tree) time = (moment : ℕ) × (time ≡ Some moment) × IsTime tree moment

-- The entry has no fault, and these are its members as they were read; the detail has no other value.
-- Shown by: event_tests test_event_shape.rt: the_first_fault_is_reported.
pub record IsCheckedOf (entry : Entry) (c : Checked) : Type 0 where
  pub faultless : AllHold (entry_checks entry)
  pub source : entry.source ≡ Some c.source
  pub detail_type : entry.detail_type ≡ Some c.detail_type
  pub resources : entry.resources ≡ c.resources
  pub time : IsTimeOf entry.time c.time
  pub detail : (bytes : List ℕ) × (entry.detail ≡ Some bytes) × IsDetail bytes c.detail
  pub only : (bytes : List ℕ) (tree : Tree) → entry.detail ≡ Some bytes → IsDetail bytes tree → tree ≡ c.detail
  pub bus : bus_of_entry entry.bus ≡ Some c.bus

-- Each member of the event is the checked entry's, except the number and the account. The time is the reading of the clock if the entry has
-- none.
-- Shown by: event_tests test_event_shape.rt: an_event_has_its_exact_text.
pub record IsMade (c : Checked) (n reading : ℕ) (caller : List ℕ) (e : Event) : Type 0 where
  pub number : e.number ≡ n
  pub detail_type : e.detail_type ≡ c.detail_type
  pub source : e.source ≡ c.source
  pub account : e.account ≡ caller
  pub time : IsIso (unwrap_or c.time reading) e.time
  pub resources : e.resources ≡ c.resources
  pub detail : e.detail ≡ c.detail

-- The source, detail type and resources of an entry are UTF-8.
-- Shown by: event_tests test_event_shape.rt: an_event_has_its_exact_text.
pub record HasTexts (entry : Entry) : Type 0 where
  pub source : IsUtf8IfGiven entry.source
  pub detail_type : IsUtf8IfGiven entry.detail_type
  pub resources : All IsUtf8 entry.resources

-- What an event takes over from an entry: source, detail type, resources and detail, each as `IsEvent` has it.
-- Shown by: event_tests test_event_shape.rt: an_event_is_read_from_its_text_alone.
pub record IsContent (source detail_type : List ℕ) (resources : List (List ℕ)) (detail : Tree) : Type 0 where
  pub source_some : source ≢ []
  pub source_utf8 : IsUtf8 source
  pub unreserved : is_reserved source ≡ false
  pub detail_type_some : detail_type ≢ []
  pub detail_type_utf8 : IsUtf8 detail_type
  pub resources_utf8 : All IsUtf8 resources
  pub detail_value : IsValue detail
  pub detail_object : IsObject detail
  pub detail_levels : tree_levels detail ≤ 99

-- what is left of an entry without a fault: such members, and a moment if the entry gives a Time
pub record IsChecked (c : Checked) : Type 0 where
  pub content : IsContent c.source c.detail_type c.resources c.detail
  pub time : IfSome c.time IsMoment

-- an event whose time is the text of this moment
pub record IsEventAt (moment : ℕ) (e : Event) : Type 0 where
  pub number : e.number < 2 ^ 64
  pub account : IsUtf8 e.account
  pub is_moment : IsMoment moment
  pub time : IsIso moment e.time
  pub content : IsContent e.source e.detail_type e.resources e.detail

-- Which members an event can have: a number below 2^64; a detail type and a source that are not empty; a source that does not begin with
-- `aws.`; resources and an account, all texts in UTF-8; a time that is the text of a moment; a detail that is a JSON object within 99
-- levels.
-- Shown by: event_tests test_event_shape.rt: an_event_is_read_from_its_text_alone.
abbrev pub IsEvent : Event → Type 0
IsEvent e = (moment : ℕ) × IsEventAt moment e

-- The bytes are the compact text of the tree of this event, without a replay's name.
-- Shown by: event_tests test_event_shape.rt: an_event_is_read_from_its_text_alone.
pub record IsEventText (bytes : List ℕ) (e : Event) : Type 0 where
  pub written : bytes ≡ compact_text (event_tree e None)
  pub is_event : IsEvent e
